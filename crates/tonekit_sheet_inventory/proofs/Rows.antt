-- The row of an accent, a tone and what stood before it is there, and names lists that are. Assumes nothing.
use Rattle.std.proofs.Common.{ℕ, ◌+◌, ◌*◌, ◌≤◌, ◌<◌, ◌≡◌, List, arith, mul-le-mul, le_refl, length}
use Rattle.spec_arithmetic.specs.Fields.{byte_at}
use Rattle.tonekit_core.proofs.Split.{split}
use Rattle.spec_lookup.specs.declared.Context.{Context}
use Rattle.spec_sheet.specs.Sheet.{row_count}
use Rattle.spec_arithmetic.specs.Files.{loaded}
use Rattle.spec_sheet.specs.Reader.{SheetRead, row_at, read_sheet}
use Rattle.tonekit_sheet.specs.Parts.{row_place, final_place}
use Rattle.tonekit_sheet.proofs.RowPlaces.{rows_few}
use Rattle.tonekit_sheet_inverse.proofs.Loads.{reads}
use Rattle.tonekit_sheet_inverse.proofs.Order.{ordered}

-- of so many accents and tones
module _ (accents tones a t p : ℕ) (ha : a < accents) (ht : t < tones) (hp : p ≤ tones) where
  pub inside : (a * tones + t) * (tones + 1) + p < row_count accents tones
  inside =
      let x : (a + 1) * tones ≤ accents * tones = let q : a + 1 ≤ accents = omega arith in mul-le-mul q (le_refl tones) in
      let y : a * tones + t + 1 ≤ accents * tones = omega arith in
      let z : (a * tones + t + 1) * (tones + 1) ≤ accents * tones * (tones + 1) = mul-le-mul y (le_refl (tones + 1)) in
      omega arith

  -- and its place is small, and so is what it is summed up from
  pub row_few : accents ≤ 8 → tones ≤ 8 → (a * tones + t) * (tones + 1) + p < 576
  row_few x y = omega (arith, inside, rows_few accents tones x y)

  pub tones_few : accents ≤ 8 → tones ≤ 8 → a * tones + t < 576
  tones_few x y = omega (arith, row_few x y)

module _ (s : List ℕ) (st : SheetRead) (e : ℕ) (h : read_sheet s ≡ loaded st e) where
  pub number_held : (c : Context) (a t p : ℕ) → a < length st.accents → t < length st.tones → p ≤ length st.tones
      → byte_at s (row_at st (row_place st a t p) + final_place c) ≤ length st.lists
  number_held c a t p ha ht hp =
      let l = reads s st e h in
      let r = row_place st a t p in
      let b : r < st.rows = omega (arith, l.all_rows, inside (length st.accents) (length st.tones) a t p ha ht hp) in
      let o = (ordered s st e e l.fine).rows r b in
      split c.last (λ w. rw w o.final_held) (λ w. rw w o.first_held)
