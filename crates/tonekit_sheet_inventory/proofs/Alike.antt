-- The components of a sheet's list have one owner, form and label, and in a mixture each its place as its part number. Assumes nothing.
use Rattle.std.specs.Prelude.{Option}
use Rattle.std.proofs.Common.{ℕ, zero, suc, ◌+◌, ◌≤◌, ◌<◌, ◌≡◌, refl, List, arith, length, get_or}
use mathlib.Core.Option.{some}
use Rattle.spec_arithmetic.specs.Fields.{byte_at}
use Rattle.spec_arithmetic.specs.Places.{index_of}
use Rattle.spec_lookup.specs.Source.{Carried}
use Rattle.spec_lookup.specs.declared.Context.{Context}
use Rattle.std.specs.Prelude.{Some, None}
use Rattle.tonekit_bytes.proofs.Searched.{index_found}
use Rattle.spec_judgement.specs.Inventory.{name_in}
use Rattle.spec_judgement.specs.Gather.{named_of}
use Rattle.tonekit_inventory.proofs.Going.{first_named}
use Rattle.tonekit_inventory.proofs.Alike.{Under, Alike}
use Rattle.spec_sheet.specs.Sheet.{absent_carried}
use Rattle.spec_arithmetic.specs.Files.{loaded}
use Rattle.spec_sheet.specs.Reader.{SheetRead, read_sheet, row_at}
use Rattle.spec_sheet.specs.FromSheet.{bits_at, carried_at, carried_from, list_numbered, prev_found, look_placed, look_sheet, source_of_sheet}
use Rattle.tonekit_sheet.specs.Parts.{row_place, final_place}
use Rattle.tonekit_sheet_laws.proofs.Content.{carried_count, carried_get}
use Rattle.tonekit_sheet_inventory.proofs.Few.{lists_few}
use Rattle.tonekit_sheet_inventory.proofs.Rows.{number_held}
use Rattle.tonekit_sheet_inventory.proofs.Lookup.{prev_inside}

module _ (s : List ℕ) (o n : ℕ) (few : n ≤ 4) where
  abbrev cs : List Carried
  cs = carried_from s o n

  under : (k : ℕ) → k < n → Under (name_in (named_of cs)) k (get_or cs k absent_carried)
  unfolding carried_at bits_at
  under k h =
      let m = first_named cs absent_carried (omega (arith, carried_count s o n)) in
      rw (m, carried_get s o n k h, carried_get s o n 0 (omega arith)) (record { owner = refl; form = refl; label = refl; part = refl; ten = refl })

  list_alike : Alike absent_carried cs
  list_alike = record {
    few = omega (arith, carried_count s o n);
    each = λ k h. under k (omega (arith, carried_count s o n));
  }

-- what a lookup in a sheet that loads gives
module _ (s : List ℕ) (st : SheetRead) (e : ℕ) (p : read_sheet s ≡ loaded st e) where
  of_number : (n : ℕ) → n ≤ length st.lists → (cs : List Carried) → list_numbered s st n ≡ some cs → Alike absent_carried cs
  of_number zero h cs g = let z : ◌≡◌ {A = ℕ} 0 1 = cc in absurd (omega arith)
  of_number (suc i) h cs g =
      let o = get_or st.lists i 0 in
      let is : carried_from s o (byte_at s (o + 6)) ≡ cs = cc in
      rw (← is) (list_alike s o (byte_at s (o + 6)) (lists_few s st e p i (omega arith)))

  of_places : (c : Context) (a t b : Option ℕ) → index_of s st.accents c.accent ≡ a → index_of s st.tones c.tone ≡ t → prev_found s st c.prev ≡ b
      → (cs : List Carried) → look_placed s st c a t b ≡ some cs → Alike absent_carried cs
  of_places c (Some a) (Some t) (Some b) x y z cs g =
      of_number (byte_at s (row_at st (row_place st a t b) + final_place c))
      (number_held s st e p c a t b (index_found _ _ _ a x).inside (index_found _ _ _ t y).inside (prev_inside s st c.prev b z)) cs g
  of_places c None t b x y z cs g = let n : ◌≡◌ {A = ℕ} 0 1 = cc in absurd (omega arith)
  of_places c (Some a) None b x y z cs g = let n : ◌≡◌ {A = ℕ} 0 1 = cc in absurd (omega arith)
  of_places c (Some a) (Some t) None x y z cs g = let n : ◌≡◌ {A = ℕ} 0 1 = cc in absurd (omega arith)

  pub sheet_alike : (c : Context) (cs : List Carried) → (source_of_sheet s st).look c ≡ some cs → Alike absent_carried cs
  unfolding source_of_sheet look_sheet
  sheet_alike c cs g =
      of_places c (index_of s st.accents c.accent) (index_of s st.tones c.tone) (prev_found s st c.prev) refl refl refl cs g
