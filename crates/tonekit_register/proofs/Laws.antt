-- What callers may cite: the register of a cold query is made of numbers, within 9,000 semitones, and at least 4 wide; and no limit of turns ends the loop
-- that widens it. Assumes nothing.
use Rattle.std.proofs.Common.{ℕ, ◌≤◌, ◌≡◌, refl, sym, subst, T, true, List, Option, Some, None, Ok, Float}
use lib.Ieee.{binary32, sub, add, mul, div, lt, le, eq, of_bits, of_int, round}
use lib.Ieee.Scale.{finite}
use Rattle.std.proofs.lemmas.Bool.{cond-true}
use Rattle.spec_arithmetic.specs.Log.{log2_of, log_by, parts_of, centred, series, log_horner}
use Rattle.spec_arithmetic.specs.Narrow.{narrowed}
use Rattle.spec_query.specs.Query.{load_query, frames_of}
use Rattle.spec_query.specs.declared.Query.{Query}
use Rattle.tonekit_query.proofs.Laws.{load_reads, read_holds}
use Rattle.spec_shape.specs.Chao.{hz_to_st}
use Rattle.spec_shape.specs.Register.{voiced_st, p5_p50_p95, min_span, of_percentiles, fallback_register, cold_register, registered, in_register}
use Rattle.spec_shape.specs.declared.Percentiles.{Percentiles}
use Rattle.spec_shape.specs.declared.Register.{Register}
use Rattle.tonekit_float.proofs.Bounds.{in_finite}
use Rattle.tonekit_min_span.specs.Near.{Around}
use Rattle.tonekit_min_span.proofs.Laws.{Ending, bounded, wide_enough, ends_within_2000}
use Rattle.tonekit_register.proofs.Ends.{Within6000, voiced_within, cold_none, cold_some, percentiles_near}

-- a floor and a ceiling that a query can be measured between
pub record Sound (floor ceil : Float) : Type 0 where
  pub floor_in : Around 9000 floor
  pub ceil_in : Around 9000 ceil
  pub apart : T (le min_span (sub binary32 ceil floor))

pub sound_real : {floor ceil : Float} → Sound floor ceil → T (finite floor) × T (finite ceil)
sound_real s = (in_finite tt s.floor_in, in_finite tt s.ceil_in)

pub fallback_sound : Sound fallback_register.floor fallback_register.ceil
unfolding fallback_register narrowed hz_to_st log2_of log_by parts_of centred series log_horner add sub mul div lt le eq of_bits of_int round
fallback_sound = record { floor_in = record { low = tt; high = tt }; ceil_in = record { low = tt; high = tt }; apart = tt }

-- ---- of the frames of any query
module _ (frames : List ℕ) (count : ℕ) (h : count ≤ 1024) where
  abbrev st : List Float
  st = voiced_st frames count

  pub cold_sound : Sound (cold_register st).floor (cold_register st).ceil
  cold_sound = go (p5_p50_p95 st) refl
    where
      go : (o : Option Percentiles) → o ≡ p5_p50_p95 st → Sound (cold_register st).floor (cold_register st).ceil
      go None e = subst (λ (r : Register). Sound r.floor r.ceil) (sym (cold_none st e)) fallback_sound
      go (Some p) e =
          let r = of_percentiles p in
          let n = percentiles_near frames count p h e in
          let b = bounded r n.0 n.1 in
          subst (λ (r : Register). Sound r.floor r.ceil) (sym (cold_some st p e)) (record { floor_in = b.0; ceil_in = b.1; apart = wide_enough r n.0 n.1 })

  -- the loop that widens the register ends by its own test, whatever limit its turns have, within one turn
  pub loop_ends : (p : Percentiles) → Some p ≡ p5_p50_p95 st → Ending (of_percentiles p)
  loop_ends p e = let w : Within6000 (Some p) = subst Within6000 (sym e) (voiced_within frames count h) in ends_within_2000.1 p w.0 w.2

-- ---- of a query that loads
few_frames : (s : List ℕ) (q : Query) → load_query s ≡ Ok q → q.count ≤ 1024
few_frames s q e = (read_holds s q (load_reads s q e)).count

pub query_sound : (s : List ℕ) (q : Query) → load_query s ≡ Ok q → q.cold ≡ true → let r = in_register (frames_of s q) q in Sound r.floor r.ceil
unfolding in_register
query_sound s q e c =
    let frames = frames_of s q in
    let sound = cold_sound frames q.count (few_frames s q e) in
    subst (λ (r : Query). Sound r.floor r.ceil) (sym (cond-true q.cold (registered (cold_register (voiced_st frames q.count)) q) q c)) sound

pub query_loop_ends : (s : List ℕ) (q : Query) → load_query s ≡ Ok q → (p : Percentiles) → Some p ≡ p5_p50_p95 (voiced_st (frames_of s q) q.count) → Ending (of_percentiles p)
query_loop_ends s q e = loop_ends (frames_of s q) q.count (few_frames s q e)
