-- Settings, tones and accents of a pack that loads keep their ranges.
use Rattle.std.proofs.Common.{ℕ, zero, suc, ◌+◌, ◌<◌, ◌≡◌, refl, sym, ◌∙◌, ap, true, List, [], ◌∷◌, map, arith, eqb, ltb, length, get_or, eq-eqb, ltb-true, ltb-false}
use Rattle.std.proofs.lemmas.List.{get_or-map}
use mathlib.Core.Option.{some}
use lib.ListN.{length-map}
use lib.Ieee.{le, of_bits}
use Rattle.spec_arithmetic.specs.Fields.{byte_at, f32_at}
use Rattle.tonekit_bytes.proofs.Fields.{u32_below}
use Rattle.spec_arithmetic.specs.Places.{number_at}
use Rattle.spec_pack.specs.Ranges.{above_zero, region_fine, tail_fine, tails_fine, tolerances_fine}
use Rattle.spec_pack.specs.Pack.{PackRead}
use borrow.Author.Tests.{eqb-true}
use Rattle.tonekit_core.proofs.Split.{split, both}
use Rattle.tonekit_pack.proofs.Loads.{ToneFine, AccentFine, Loads, tones_once, accents_once}
use Rattle.spec_lookup.specs.Source.{Tone, Accent, settings_at, tail_at, tone_at, accent_at, accent_in, absent_tone}
use Rattle.spec_sheet.specs.Agree.{Bytes}
use Rattle.spec_sheet.specs.Sheet.{absent_accent}
use Rattle.tonekit_sheet.specs.Sheetable.{Bits, f32, SettingsSheetable, region_sheetable, ToneSheetable, AccentSheetable}

module _ (s : List ℕ) (b : Bytes s) where
  region_sheetable_lem : (o : ℕ) → region_fine s (o + 47) ≡ true → region_sheetable (tone_at 47 7 s o) ≡ true
  unfolding region_fine
  region_sheetable_lem o h =
      let p : o + 47 + 1 ≡ o + 48 = omega arith in
      let q : o + 47 + 5 ≡ o + 52 = omega arith in
      rw (p, q) at h

  -- a tail's values: those that stand there, else zeros
  tail_bits : (v o : ℕ) → Bits (tail_at 7 v s o)
  tail_bits v o = split (eqb (byte_at s o) 7) (λ t. rw t (u32_below s b (o + v))) (λ t. rw t (omega arith))

  tail_zero : tail_fine (f32 0) ≡ true
  unfolding tail_fine le of_bits
  tail_zero = refl

  tail_sheetable : (v o : ℕ) → (byte_at s o ≡ 7 → tail_fine (f32_at s (o + v)) ≡ true) → tail_fine (f32 (tail_at 7 v s o)) ≡ true
  tail_sheetable v o h = split (eqb (byte_at s o) 7) (λ t. rw t (h (eqb-true (byte_at s o) 7 t))) (λ t. rw t tail_zero)

  tails : (o : ℕ) → tails_fine s o ≡ true → (tail_fine (f32_at s (o + 1)) ≡ true) × (tail_fine (f32_at s (o + 5)) ≡ true)
  unfolding tails_fine
  tails o h = both (tail_fine (f32_at s (o + 1))) (tail_fine (f32_at s (o + 5))) h

  tone_sheetable : (before : List ℕ) (o : ℕ) → ToneFine s before o → ToneSheetable (tone_at 47 7 s o)
  tone_sheetable before o t = record {
    least = t.number;
    byte = b (o + 1);
    prior_bits = u32_below s b (o + 2);
    prior = t.prior;
    from_bits = u32_below s b (o + 48);
    to_bits = u32_below s b (o + 52);
    region = region_sheetable_lem o t.region;
    tail_final_bits = tail_bits 1 (o + 56);
    tail_elsewhere_bits = tail_bits 5 (o + 56);
    tail_final = tail_sheetable 1 (o + 56) (λ k. (tails (o + 56) (t.tail k)).0);
    tail_elsewhere = tail_sheetable 5 (o + 56) (λ k. (tails (o + 56) (t.tail k)).1);
  }

  accent_sheetable : (before : List ℕ) (o : ℕ) → AccentFine s before o → AccentSheetable (accent_at 3 s o)
  unfolding tolerances_fine
  accent_sheetable before o a =
      let p : o + 3 + 4 ≡ o + 7 = omega arith in
      let q : o + 3 + 8 ≡ o + 11 = omega arith in
      let r : o + 3 + 12 ≡ o + 15 = omega arith in
      let t = both (above_zero (f32_at s (o + 3))) _ a.tolerances in
      let u = both (above_zero (f32_at s (o + 3 + 4))) _ t.1 in
      let v = both (above_zero (f32_at s (o + 3 + 8))) (above_zero (f32_at s (o + 3 + 12))) u.1 in
      record {
        least = a.number;
        byte = b (o + 1);
        contour_bits = u32_below s b (o + 3);
        onset_bits = u32_below s b (o + 7);
        offset_bits = u32_below s b (o + 11);
        turning_bits = u32_below s b (o + 15);
        contour = t.0;
        onset = rw p at u.0;
        offset = rw q at v.0;
        turning = rw r at v.1;
      }

  module _ (st : PackRead) (e : ℕ) (l : Loads s st e) where
    pub settings_sheetable : SettingsSheetable (settings_at s 0)
    settings_sheetable =
        let t = l.kept.begun (omega arith) in
        record { temperature_bits = u32_below s b 1; threshold_bits = u32_below s b 5; temperature = t.1; threshold = t.2 }

    pub tones_sheetable : (i : ℕ) → i < length (map (tone_at 47 7 s) st.tones) → ToneSheetable (get_or (map (tone_at 47 7 s) st.tones) i absent_tone)
    tones_sheetable i h =
        let g : i < length st.tones = omega (arith, length-map st.tones (tone_at 47 7 s)) in
        rw (get_or-map (tone_at 47 7 s) st.tones i 0 absent_tone g) (tone_sheetable _ (get_or st.tones i 0) (l.kept.tones i g))

    pub accents_sheetable : (i : ℕ) → i < length (map (accent_at 3 s) st.accents) → AccentSheetable (get_or (map (accent_at 3 s) st.accents) i absent_accent)
    accents_sheetable i h =
        let g : i < length st.accents = omega (arith, length-map st.accents (accent_at 3 s)) in
        rw (get_or-map (accent_at 3 s) st.accents i 0 absent_accent g) (accent_sheetable _ (get_or st.accents i 0) (l.kept.accents i g))

-- no two places of which the higher repeats the lower
apart : (n : ℕ) (f : ℕ → ℕ) → ((i j : ℕ) → i < j → j < n → f i ≡ f j → ⊥) → (i j : ℕ) → i < n → j < n → f i ≡ f j → i ≡ j
apart n f h i j a b e =
    split (ltb i j)
    (λ t. absurd (h i j (ltb-true i j t) b e))
    (λ t. split (ltb j i) (λ u. absurd (h j i (ltb-true j i u) a (sym e))) (λ u. omega (arith, ltb-false i j t, ltb-false j i u)))

module _ (s : List ℕ) (st : PackRead) (e : ℕ) (l : Loads s st e) where
  pub tones_apart : (i j : ℕ) → i < length (map (tone_at 47 7 s) st.tones) → j < length (map (tone_at 47 7 s) st.tones)
      → (get_or (map (tone_at 47 7 s) st.tones) i absent_tone).number ≡ (get_or (map (tone_at 47 7 s) st.tones) j absent_tone).number → i ≡ j
  tones_apart i j h k q =
      let n = length-map st.tones (tone_at 47 7 s) in
      let g : i < length st.tones = omega arith in
      let m : j < length st.tones = omega arith in
      apart (length st.tones) (λ i. number_at s (get_or st.tones i 0)) (tones_once s st e l) i j g m
      (sym (ap (λ (t : Tone). t.number) (get_or-map (tone_at 47 7 s) st.tones i 0 absent_tone g)) ∙ q ∙ ap (λ (t : Tone). t.number) (get_or-map (tone_at 47 7 s) st.tones j 0 absent_tone m))

  pub accents_apart : (i j : ℕ) → i < length (map (accent_at 3 s) st.accents) → j < length (map (accent_at 3 s) st.accents)
      → (get_or (map (accent_at 3 s) st.accents) i absent_accent).number ≡ (get_or (map (accent_at 3 s) st.accents) j absent_accent).number → i ≡ j
  accents_apart i j h k q =
      let n = length-map st.accents (accent_at 3 s) in
      let g : i < length st.accents = omega arith in
      let m : j < length st.accents = omega arith in
      apart (length st.accents) (λ i. number_at s (get_or st.accents i 0)) (accents_once s st e l) i j g m
      (sym (ap (λ (a : Accent). a.number) (get_or-map (accent_at 3 s) st.accents i 0 absent_accent g)) ∙ q ∙ ap (λ (a : Accent). a.number) (get_or-map (accent_at 3 s) st.accents j 0 absent_accent m))

-- an accent's number is held
pub accent_there : (s os : List ℕ) (i : ℕ) → i < length os → (a : Accent) × (accent_in (map (accent_at 3 s) os) (number_at s (get_or os i 0)) ≡ some a)
unfolding accent_in
accent_there s [] i h = absurd (omega arith)
accent_there s (o ∷ os) zero h = (accent_at 3 s o, rw (eq-eqb (number_at s o) (number_at s o) refl))
accent_there s (o ∷ os) (suc i) h =
    split (eqb (number_at s o) (number_at s (get_or os i 0)))
    (λ t. (accent_at 3 s o, rw t))
    (λ t. rw t (accent_there s os i (omega arith)))
