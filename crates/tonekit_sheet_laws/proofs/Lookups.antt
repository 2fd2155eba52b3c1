-- A lookup by position in a sheet gives what the row's own lookup gave. Assumes nothing.
use Rattle.std.proofs.Common.{ℕ, zero, suc, ◌+◌, ◌*◌, ◌≤◌, ◌<◌, ◌≡◌, refl, sym, ap, ◌∙◌, Bool, true, false, List, arith, add-one, eqb, length, get_or, eq-eqb, ne_eqb, eqb-true, Option as Found, Some, None}
use mathlib.Core.Option.{Option, none, some}
use borrow.Author.Tests.{eqb-false}
use Rattle.tonekit_core.specs.Loop.{range_to}
use Rattle.tonekit_core.proofs.LoopLaws.{to_again, to_stop}
use Rattle.spec_arithmetic.specs.Fields.{byte_at}
use Rattle.tonekit_core.proofs.Split.{split}
use Rattle.spec_lookup.specs.Source.{Carried, Source, absent_tone}
use Rattle.spec_arithmetic.specs.Places.{number_at, index_of}
use Rattle.tonekit_bytes.specs.Places.{index_turn}
use Rattle.tonekit_bytes.proofs.Searched.{index_found}
use Rattle.spec_lookup.specs.declared.Context.{Context}
use Rattle.spec_sheet.specs.Number.{place_in, number_in}
use Rattle.spec_sheet.specs.Sheet.{View, absent_accent, prev_number, rows_of, lists_of}
use Rattle.spec_arithmetic.specs.Files.{Out}
use Rattle.spec_sheet.specs.Reader.{SheetRead}
use Rattle.spec_sheet.specs.Reader.{row_at as row_in}
use Rattle.spec_sheet.specs.FromSheet.{list_numbered, prev_found, look_placed}
use Rattle.tonekit_sheet_laws.proofs.Place.{up_to, tone_at, accent_at, list_at, read_to}
use Rattle.tonekit_sheet.specs.Parts.{row_place, final_place}
use Rattle.tonekit_sheet_laws.proofs.FirstUse.{Listed, listed_first, listed_final}
use Rattle.tonekit_sheet_laws.proofs.Offsets.{up_to_length, up_to_get}
use Rattle.tonekit_sheet.proofs.RowPlaces.{place_below}
use Rattle.tonekit_sheet_laws.proofs.Laid.{Laid}
use Rattle.tonekit_sheet_laws.proofs.Sheetables.{ViewSheetable}
use Rattle.tonekit_sheet_laws.proofs.Tones.{tone_read}
use Rattle.tonekit_sheet_laws.proofs.Accents.{accent_read}
use Rattle.tonekit_sheet_laws.proofs.Content.{list_back}
use Rattle.tonekit_sheet_laws.proofs.Finished.{first_number, final_number}

-- ---- a number that a record has is found
module _ (s os : List ℕ) (n : ℕ) where
  index_from : (k j m : ℕ) → j + k ≡ length os → j ≤ m → m < length os → number_at s (get_or os m 0) ≡ n
      → (i : ℕ) × (range_to (index_turn s os n) (λ u. None) j (length os) 0 ≡ Some i)
  index_from zero j m e l h q = absurd (omega arith)
  index_from (suc k) j m e l h q =
      split (eqb (number_at s (get_or os j 0)) n)
      (λ t. (j, sym (to_stop (index_turn s os n) (λ u. None) refl (omega arith) (rw t))))
      (λ t. let ne : number_at s (get_or os j 0) ≡ n → ⊥ = eqb-false _ _ t in
      split (eqb j m)
      (λ z. absurd (ne (rw (eqb-true j m z) q)))
      (λ z. let nm : j ≡ m → ⊥ = eqb-false j m z in
      let r = index_from k (j + 1) m (omega arith) (omega arith) h q in
      (r.0, sym (to_again (index_turn s os n) (λ u. None) refl (omega arith) (rw t)) ∙ r.1)))

  pub index_is : (m : ℕ) → m < length os → number_at s (get_or os m 0) ≡ n → (i : ℕ) × (index_of s os n ≡ Some i)
  unfolding index_of
  index_is m h q = index_from (length os) 0 m (omega arith) (omega arith) h q

-- found at a place, below a count, that has the number
pub record FoundAt (f : Found ℕ) (count : ℕ) (number : ℕ → ℕ) (n : ℕ) : Type 0 where
  pub at : ℕ
  pub is : f ≡ Some at
  pub there : at < count
  pub same : number at ≡ n

module _ (s : List ℕ) (d : Out SheetRead) (src : Source) (v : View) (sheetable : ViewSheetable src v) (laid : Laid s v (lists_of v)) (last total : ℕ) where
  abbrev lists : List (List Carried)
  lists = lists_of v

  abbrev st : SheetRead
  st = read_to v lists last (length v.tones) (length v.accents) (rows_of v) (length lists) 0 total

  -- ---- accents and tones, found by number
  pub accent_place_lem : (n m : ℕ) → m < length v.accents → (get_or v.accents m absent_accent).number ≡ n
      → FoundAt (index_of s (up_to (accent_at v) (length v.accents)) n) (length v.accents) (λ i. (get_or v.accents i absent_accent).number) n
  accent_place_lem n m h e =
      let a = length v.accents in
      let os = up_to (accent_at v) a in
      let f = index_is s os n m (rw (up_to_length (accent_at v) a) h) (ap (number_at s) (up_to_get (accent_at v) a m h) ∙ (accent_read s d src v sheetable laid m h).number ∙ e) in
      let g = index_found s os n f.0 f.1 in
      let l : f.0 < a = omega (arith, g.inside, up_to_length (accent_at v) a) in
      record { at = f.0; is = f.1; there = l; same = sym (accent_read s d src v sheetable laid f.0 l).number ∙ ap (number_at s) (sym (up_to_get (accent_at v) a f.0 l)) ∙ g.number }

  pub tone_place_lem : (n m : ℕ) → m < length v.tones → (get_or v.tones m absent_tone).number ≡ n
      → FoundAt (index_of s (up_to tone_at (length v.tones)) n) (length v.tones) (λ i. (get_or v.tones i absent_tone).number) n
  tone_place_lem n m h e =
      let t = length v.tones in
      let os = up_to tone_at t in
      let f = index_is s os n m (rw (up_to_length tone_at t) h) (ap (number_at s) (up_to_get tone_at t m h) ∙ (tone_read s d src v sheetable laid m h).number ∙ e) in
      let g = index_found s os n f.0 f.1 in
      let l : f.0 < t = omega (arith, g.inside, up_to_length tone_at t) in
      record { at = f.0; is = f.1; there = l; same = sym (tone_read s d src v sheetable laid f.0 l).number ∙ ap (number_at s) (sym (up_to_get tone_at t f.0 l)) ∙ g.number }

  -- none before, or a tone
  pub prev_none : (n : ℕ) → n ≡ 0 → FoundAt (prev_found s st n) (suc (length v.tones)) (prev_number v.tones) n
  prev_none n e = record { at = 0; is = rw (eq-eqb n 0 e); there = omega arith; same = sym e }

  pub prev_tone : (n m : ℕ) → m < length v.tones → (get_or v.tones m absent_tone).number ≡ n → FoundAt (prev_found s st n) (suc (length v.tones)) (prev_number v.tones) n
  prev_tone n m h e =
      let f = tone_place_lem n m h e in
      let least = (sheetable.tones m h).least in
      record { at = suc f.at; is = rw (ne_eqb n 0 (λ z. omega arith), f.is, add-one); there = omega (arith, f.there); same = f.same }

  -- ---- what a list number stands for
  pub numbered_back : (o : Option (List Carried)) → Listed v o → list_numbered s st (number_in lists o) ≡ o
  unfolding number_in
  numbered_back none l = refl
  numbered_back (some w) l =
      let i = place_in w lists in
      rw (up_to_get (list_at v lists) (length lists) i l.below) (ap some (list_back s d src v sheetable laid i l.below ∙ l.gives w refl))

  row_back : (r : ℕ) (final : Bool) → r < rows_of v → (c : Context) → c.last ≡ final → list_numbered s st (byte_at s (row_in st r + final_place c)) ≡ v.row r final
  row_back r false h c e = rw (e, first_number s d src v sheetable laid last total r h) (numbered_back (v.row r false) (listed_first v r h))
  row_back r true h c e = rw (e, final_number s d src v sheetable laid last total r h) (numbered_back (v.row r true) (listed_final v r h))

  -- the row of a context's places
  pub look_back : (c : Context) (a t p : ℕ) → a < length v.accents → t < length v.tones → p ≤ length v.tones
      → look_placed s st c (Some a) (Some t) (Some p) ≡ v.row ((a * length v.tones + t) * (length v.tones + 1) + p) c.last
  look_back c a t p la lt lp =
      let e = up_to_length tone_at (length v.tones) in
      let r = (a * length v.tones + t) * (length v.tones + 1) + p in
      let q : row_place st a t p ≡ r = rw e in
      ap (λ (x : ℕ). list_numbered s st (byte_at s (row_in st x + final_place c))) q
      ∙ row_back r c.last (place_below (length v.accents) (length v.tones) a t p la lt lp) c refl
