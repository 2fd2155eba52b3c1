-- A small source within the limits of a sheet, and the bytes of its sheet, by computing. Assumes nothing.
use Rattle.std.proofs.Common.{ℕ, zero, suc, ◌<◌, ◌≡◌, refl, ap, ◌∙◌, true, [], ◌∷◌, ◌++◌, arith, get_or, replicate}
use mathlib.Core.Option.{some}
use lib.ListN.{get_or-replicate}
use lib.Ieee.{of_bits, lt, le}
use Rattle.tonekit_core.specs.Loop.{range, turns}
use Rattle.spec_pack.specs.Ranges.{above_zero, probability_fine, weight_fine, tail_fine}
use Rattle.spec_lookup.specs.Source.{Carried, Source, accent_in, absent_tone}
use Rattle.spec_sheet.specs.Number.{same_carried, seen_in, place_in, noted, number_in, same_by}
use Rattle.spec_sheet.specs.Pieces.{pieces, piecewise}
use Rattle.spec_sheet.specs.Sheet.{asc_from, ascending, absent_accent, absent_carried, row_context, view_of, lists_of, bits_bytes, components_bytes, bytes_with, sheet}
use Rattle.spec_sheet.specs.Reader.{point_fine}
use Rattle.tonekit_sheet.specs.Sheetable.{f32, SettingsSheetable, ToneSheetable, AccentSheetable, CarriedSheetable, ListSheetable, components_in, Sheetable}

-- the bits of 1
abbrev one : ℕ
one = 0x3f80_0000

-- one tone with a tail of -1 and -0, one accent, and its citation in every context
abbrev flat : Carried
flat = record { owner = 7; form = 1; label = 0; part = 0; weight = one; points = replicate 10 0 }

abbrev pub small : Source
small = record {
  settings = record { temperature = one; threshold = 0x3f00_0000 };
  tones = record { number = 3; prior = one; flag = 0; from = 0; to = 0; tail_final = 0xbf80_0000; tail_elsewhere = 0x8000_0000 } ∷ [];
  accents = record { number = 7; contour = one; onset = one; offset = one; turning = one } ∷ [];
  look = λ c. some (flat ∷ []);
}

pub small_bytes : sheet small ≡
    17 ∷ 0 ∷ 0 ∷ 128 ∷ 63 ∷ 0 ∷ 0 ∷ 0 ∷ 63
    ∷ 18 ∷ 3 ∷ 0 ∷ 0 ∷ 128 ∷ 63 ∷ 0 ∷ 0 ∷ 0 ∷ 0 ∷ 0 ∷ 0 ∷ 0 ∷ 0 ∷ 0
    ∷ 24 ∷ 0 ∷ 0 ∷ 128 ∷ 191 ∷ 0 ∷ 0 ∷ 0 ∷ 128
    ∷ 19 ∷ 7 ∷ 0 ∷ 0 ∷ 128 ∷ 63 ∷ 0 ∷ 0 ∷ 128 ∷ 63 ∷ 0 ∷ 0 ∷ 128 ∷ 63 ∷ 0 ∷ 0 ∷ 128 ∷ 63
    ∷ 20 ∷ 7 ∷ 3 ∷ 0 ∷ 1 ∷ 1
    ∷ 20 ∷ 7 ∷ 3 ∷ 3 ∷ 1 ∷ 1
    ∷ 21 ∷ 1 ∷ 7 ∷ 1 ∷ 0 ∷ 0 ∷ 1
    ∷ 22 ∷ 0 ∷ 0 ∷ 128 ∷ 63 ∷ (replicate 40 0 ++ (23 ∷ []))
unfolding sheet bytes_with view_of ascending asc_from accent_in lists_of range turns noted seen_in place_in same_by same_carried number_in piecewise pieces row_context bits_bytes components_bytes
small_bytes = refl

-- ---- it is within the limits
zeros : (k : ℕ) → k < 10 → ◌≡◌ {A = ℕ} (get_or (replicate 10 0) k 0) 0
zeros k h = get_or-replicate 10 k 0 0 h

zero_fine : point_fine (f32 0) ≡ true
unfolding point_fine of_bits le
zero_fine = refl

flat_sheetable : CarriedSheetable flat 0 flat
unfolding weight_fine
flat_sheetable = record {
  owner = refl;
  form = refl;
  label = refl;
  part = refl;
  weight = refl;
  ten = refl;
  points_bits = λ k h. omega (arith, zeros k h);
  points = λ k h. ap (λ (x : ℕ). point_fine (f32 x)) (zeros k h) ∙ zero_fine;
}

flat_each : (j : ℕ) → j < 1 → CarriedSheetable flat j (get_or (flat ∷ []) j absent_carried)
flat_each zero h = flat_sheetable
flat_each (suc j) h = absurd (omega arith)

flat_list : ListSheetable small (flat ∷ [])
unfolding accent_in
flat_list = record {
  any = omega arith;
  few = omega arith;
  each = flat_each;
  owner = (record { number = 7; contour = one; onset = one; offset = one; turning = one }, refl);
  least = omega arith;
  most = omega arith;
  label = omega arith;
  plain = λ e. refl;
  lone = λ n. refl;
  unit = λ n. refl;
}

tone_sheetable : (i : ℕ) → i < 1 → ToneSheetable (get_or small.tones i absent_tone)
unfolding probability_fine tail_fine of_bits lt le
tone_sheetable zero h = record {
  least = omega arith;
  byte = omega arith;
  prior_bits = omega arith;
  prior = refl;
  from_bits = omega arith;
  to_bits = omega arith;
  region = refl;
  tail_final_bits = omega arith;
  tail_elsewhere_bits = omega arith;
  tail_final = refl;
  tail_elsewhere = refl;
}
tone_sheetable (suc i) h = absurd (omega arith)

accent_sheetable : (i : ℕ) → i < 1 → AccentSheetable (get_or small.accents i absent_accent)
unfolding above_zero of_bits lt
accent_sheetable zero h = record {
  least = omega arith;
  byte = omega arith;
  contour_bits = omega arith;
  onset_bits = omega arith;
  offset_bits = omega arith;
  turning_bits = omega arith;
  contour = refl;
  onset = refl;
  offset = refl;
  turning = refl;
}
accent_sheetable (suc i) h = absurd (omega arith)

settings_sheetable : SettingsSheetable small.settings
unfolding above_zero probability_fine of_bits lt le
settings_sheetable = record { temperature_bits = omega arith; threshold_bits = omega arith; temperature = refl; threshold = refl }

small_lists : lists_of (view_of small) ≡ (flat ∷ []) ∷ []
unfolding view_of ascending asc_from accent_in lists_of range turns noted seen_in same_by same_carried row_context
small_lists = refl

pub small_fits : Sheetable small
unfolding components_in
small_fits = record {
  settings = settings_sheetable;
  some_tones = omega arith;
  few_tones = omega arith;
  tones = tone_sheetable;
  tones_once = λ i j a b e. omega arith;
  some_accents = omega arith;
  few_accents = omega arith;
  accents = accent_sheetable;
  accents_once = λ i j a b e. omega arith;
  lists = λ c cs h e. let q : flat ∷ [] ≡ cs = cc in rw (← q) flat_list;
  few_lists = rw small_lists (omega arith);
  few_components = rw small_lists (omega arith);
}
