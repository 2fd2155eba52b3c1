-- A sheet's tones, as what a station holds: they are its records'. Assumes nothing.
use Rattle.std.specs.Prelude.{None}
use Rattle.std.proofs.Common.{Bool, ℕ, ◌+◌, ◌*◌, ◌<◌, ◌≡◌, sym, ap, ◌∙◌, List, length, get_or, arith}
use Rattle.std.proofs.lemmas.List.{length-map}
use Rattle.tonekit_core.specs.Layout.{sheet_tone_at}
use Rattle.spec_arithmetic.specs.Fields.{byte_at, f32_at}
use Rattle.tonekit_inventory.specs.Fields.{region_at, region_in, tail_at}
use Rattle.spec_judgement.specs.Gather.{region_of, entry_of}
use Rattle.std.proofs.lemmas.List.{get_or-map}
use Rattle.spec_sheet.specs.FromSheet.{source_of_sheet}
use Rattle.spec_lookup.specs.Source.{tone_at, absent_tone}
use Rattle.tonekit_sheet_read.specs.declared.Sheet.{Sheet}
use Rattle.tonekit_bytes.specs.Places.{stepped}
use Rattle.tonekit_bytes.proofs.Stepped.{stepped_length, stepped_get}
use Rattle.tonekit_sheet_inventory.specs.Look.{source_in}

-- ---- a tone's values in its record
region_is : (s : List ℕ) (o : ℕ) → region_in (region_at s (o + 6)) ≡ region_of (tone_at 6 24 s o)
unfolding region_at region_in
region_is s o =
    let a : o + 6 + 1 ≡ o + 7 = omega arith in
    let b : o + 6 + 5 ≡ o + 11 = omega arith in
    rw (a, b)

module _ (s : List ℕ) (st : Sheet) where
  pub tones_many : length (source_in s st).tones ≡ st.tones
  unfolding source_of_sheet
  tones_many = length-map (stepped 9 24 st.tones) (tone_at 6 24 s) ∙ stepped_length 9 24 st.tones

  tone_is : (t : ℕ) → t < st.tones → get_or (source_in s st).tones t absent_tone ≡ tone_at 6 24 s (9 + 24 * t)
  unfolding source_of_sheet
  tone_is t h =
      get_or-map (tone_at 6 24 s) (stepped 9 24 st.tones) t 0 absent_tone (rw (stepped_length 9 24 st.tones) h)
      ∙ ap (tone_at 6 24 s) (stepped_get 9 24 st.tones t h)

  pub entry_is : (t : ℕ) → t < st.tones → (last : Bool) (o : ℕ) → o ≡ sheet_tone_at t
      → record { number = byte_at s (o + 1); prior = f32_at s (o + 2); region = region_in (region_at s (o + 6)); tail = tail_at 24 last s (o + 15); listing = None }
      ≡ entry_of last (get_or (source_in s st).tones t absent_tone) None
  unfolding tail_at
  entry_is t h last o e = rw (tone_is t h ∙ ap (tone_at 6 24 s) (sym e), region_is s o)
