-- Percentiles of f32s by their keys, and the keys of a query's voiced frames. Assumes nothing.
use Rattle.std.proofs.Common.{ℕ, zero-le, ◌+◌, ◌≤◌, ◌<◌, ◌≡◌, refl, sym, ◌∙◌, ap, List, [], ◌∷◌, ◌++◌, map, length, take, set, Option, Some, None, arith, Float}
use lib.Ieee.{binary64, of_bits}
use Rattle.std.specs.List.{All}
use Rattle.std.specs.Option.{option_map_or}
use Rattle.std.proofs.lemmas.List.{length-append, length-set, map-append, take_more_set}
use Rattle.std.proofs.lemmas.List.Elements.{All-nil, All-push}
use Rattle.tonekit_core.specs.Loop.{range, turns}
use Rattle.tonekit_core.proofs.LoopLaws.{range_last, range_keeps}
use Rattle.spec_arithmetic.specs.Constants.{half}
use Rattle.spec_arithmetic.specs.Narrow.{narrowed}
use Rattle.spec_query.specs.Frames.{frame_at}
use Rattle.spec_query.specs.declared.Voiced.{Voiced}
use Rattle.spec_shape.specs.Chao.{hz_to_st}
use Rattle.spec_shape.specs.Register.{voiced_st, ascending, percentile, p5_p50_p95}
use Rattle.tonekit_float.proofs.Bounds.{in_finite}
use Rattle.tonekit_float.proofs.Narrowing.{narrow_fits}
use Rattle.tonekit_fit.proofs.Semitone.{frame_semitone}
use Rattle.tonekit_rank.specs.Rank.{Number, key_of}
use Rattle.tonekit_rank.proofs.Ranks.{values_sorted}
use Rattle.tonekit_register.specs.Keys.{KeysOf, ascending_values}

-- ---- percentiles
values_of : (keys : List ℕ) (st : List Float) → KeysOf keys st → ascending_values keys ≡ ascending st
values_of keys st k = rw k.are (values_sorted st k.numbers)

pub none_of : (keys : List ℕ) (st : List Float) → length keys ≡ 0 → KeysOf keys st → None ≡ p5_p50_p95 st
unfolding p5_p50_p95
none_of keys [] h k = refl
none_of keys (x ∷ l) h k = let e = ap length k.are in absurd (omega arith)

pub some_of : (keys : List ℕ) (st : List Float) {p5 p50 p95 : Float} → 0 < length keys
    → p5 ≡ percentile (ascending_values keys) (of_bits binary64 0x3fa9_9999_9999_999a)
    → p50 ≡ percentile (ascending_values keys) half
    → p95 ≡ percentile (ascending_values keys) (of_bits binary64 0x3fee_6666_6666_6666)
    → KeysOf keys st → Some (record { p5 = p5; p50 = p50; p95 = p95 }) ≡ p5_p50_p95 st
unfolding p5_p50_p95
some_of keys [] h a b c k = let e = ap length k.are in absurd (omega arith)
some_of keys (x ∷ l) h a b c k = rw (a, b, c, values_of keys (x ∷ l) k) refl

-- ---- semitones of voiced frames, frame by frame
abbrev with_frame : List Float → Option Voiced → List Float
with_frame l frame = option_map_or (λ v. l ++ (narrowed (hz_to_st v.hz) ∷ [])) frame l

st_more : (frames : List ℕ) (i : ℕ) {frame : Option Voiced} → frame_at frames i ≡ frame → voiced_st frames (i + 1) ≡ with_frame (voiced_st frames i) frame
unfolding voiced_st
st_more frames i e = range_last (λ i l. with_frame l (frame_at frames i)) i [] ∙ ap (with_frame (voiced_st frames i)) e

-- they are no more than the frames, and what holds of each holds of all
module _ (P : Float → Type 0) (frames : List ℕ) (each : (i : ℕ) (v : Voiced) → frame_at frames i ≡ Some v → P (narrowed (hz_to_st v.hz))) where
  abbrev Few : ℕ → List Float → Type 0
  Few i l = (length l ≤ i) × All P l

  turn : (i : ℕ) (l : List Float) (frame : Option Voiced) → frame_at frames i ≡ frame → Few i l → Few (i + 1) (with_frame l frame)
  turn i l (Some v) e q = let x = narrowed (hz_to_st v.hz) in (omega (arith, length-append l (x ∷ []), q.0), All-push P l x q.1 (each i v e))
  turn i l None e q = (omega (arith, q.0), q.1)

  pub each_voiced : (count : ℕ) → Few count (voiced_st frames count)
  unfolding voiced_st
  each_voiced count = range_keeps (λ i l. with_frame l (frame_at frames i)) Few 0 count [] zero-le (λ i l h q. turn i l (frame_at frames i) refl q) (zero-le, All-nil P)

number_of : (frames : List ℕ) (i : ℕ) (v : Voiced) → frame_at frames i ≡ Some v → Number (narrowed (hz_to_st v.hz))
number_of frames i v e = (narrow_fits (hz_to_st v.hz), in_finite tt (frame_semitone frames i v e).1)

-- ---- the keys so far: the first n are those of the voiced frames among the first i
pub record Filled (frames keys : List ℕ) (n i : ℕ) : Type 0 where
  pub long : length keys ≡ 1024
  pub few : n ≤ i
  pub first : take n keys ≡ map key_of (voiced_st frames i)

pub filled_start : (frames keys : List ℕ) → length keys ≡ 1024 → Filled frames keys 0 0
unfolding voiced_st range turns
filled_start frames keys l = record { long = l; few = omega arith; first = refl }

pub filled_more : (frames keys : List ℕ) (n i : ℕ) (v : Voiced) {key : ℕ} → Filled frames keys n i → i < 1024 → frame_at frames i ≡ Some v → key ≡ key_of (narrowed (hz_to_st v.hz))
    → Filled frames (set keys n key) (n + 1) (i + 1)
filled_more frames keys n i v {key} f h e k =
    let few = f.few in
    let long = f.long in
    record {
      long = length-set keys n key ∙ long;
      few = omega arith;
      first = take_more_set keys n key (omega arith)
          ∙ rw (f.first, k) (sym (ap (map key_of) (st_more frames i e) ∙ map-append key_of (voiced_st frames i) (narrowed (hz_to_st v.hz) ∷ [])));
    }

pub filled_same : (frames keys : List ℕ) (n i : ℕ) → Filled frames keys n i → frame_at frames i ≡ None → Filled frames keys n (i + 1)
filled_same frames keys n i f e = record { long = f.long; few = let l = f.few in omega arith; first = f.first ∙ ap (map key_of) (sym (st_more frames i e)) }

pub filled_keys : (frames keys : List ℕ) (n i count : ℕ) → Filled frames keys n i → i ≤ count → count ≤ i → KeysOf (take n keys) (voiced_st frames count)
filled_keys frames keys n i count f l h =
    let e : i ≡ count = omega arith in
    record { are = f.first ∙ ap (λ (k : ℕ). map key_of (voiced_st frames k)) e; numbers = (each_voiced Number frames (number_of frames) count).1 }
