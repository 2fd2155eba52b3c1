-- The accent that a search in a sheet finds, with its tolerances. Assumes nothing.
use Rattle.std.proofs.Common.{ℕ, ◌+◌, ◌*◌, ◌<◌, ◌≡◌, refl, ap, ◌∙◌, List, arith}
use Rattle.std.specs.Prelude.{Some, None}
use Rattle.tonekit_core.specs.Layout.{sheet_accent_at}
use Rattle.spec_arithmetic.specs.Places.{index_of}
use Rattle.spec_lookup.specs.Source.{accent_in, accent_at}
use Rattle.std.specs.Prelude.{Some, None}
use Rattle.spec_judgement.specs.declared.Tolerance.{Tolerance}
use Rattle.tonekit_inventory.specs.Fields.{tolerance_at}
use Rattle.spec_judgement.specs.Gather.{graded_of}
use Rattle.tonekit_inventory.specs.Fields.{tolerance_of}
use Rattle.tonekit_inventory.proofs.Search.{accent_found, accent_none}
use Rattle.spec_sheet.specs.FromSheet.{source_of_sheet}
use Rattle.tonekit_sheet_read.specs.declared.Sheet.{Sheet}
use Rattle.tonekit_sheet_read.specs.Held.{records_of}
use Rattle.tonekit_bytes.proofs.Stepped.{stepped_get}

-- the tolerances stand behind an accent's kind and number
tolerance : (s : List ℕ) (o : ℕ) → tolerance_at s (o + 2) ≡ tolerance_of (accent_at 2 s o)
unfolding tolerance_at
tolerance s o =
    let onset : o + 2 + 4 ≡ o + 6 = omega arith in
    let offset : o + 2 + 8 ≡ o + 10 = omega arith in
    let turning : o + 2 + 12 ≡ o + 14 = omega arith in
    rw (onset, offset, turning)

module _ (s : List ℕ) (st : Sheet) (n : ℕ) where
  pub graded_found : (i : ℕ) → i < st.accents → index_of s (records_of st).accents n ≡ Some i → (o : ℕ) → o ≡ sheet_accent_at st.tones i → (t : Tolerance) → t ≡ tolerance_at s (o + 2)
      → Some t ≡ graded_of (accent_in (source_of_sheet s (records_of st)).accents n)
  unfolding source_of_sheet
  graded_found i h e o o_is t q =
      rw (accent_found s (records_of st).accents n (accent_at 2 s) (λ o. refl) i e, stepped_get (9 + 24 * st.tones) 18 st.accents i h)
      (ap Some (q ∙ (tolerance s o ∙ ap (λ (y : ℕ). tolerance_of (accent_at 2 s y)) o_is)))

  pub graded_none : index_of s (records_of st).accents n ≡ None → None ≡ graded_of (accent_in (source_of_sheet s (records_of st)).accents n)
  unfolding source_of_sheet
  graded_none e = rw (accent_none s (records_of st).accents n (accent_at 2 s) (λ o. refl) e)
