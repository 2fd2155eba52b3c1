-- Percentiles of semitones within 2,000 lie within 6,000, so a register may be made of them. Assumes nothing.
use Rattle.std.proofs.Common.{ℕ, ◌+◌, ◌-◌, ◌≤◌, ◌<◌, ◌≡◌, refl, sym, subst, min, List, [], ◌∷◌, length, get_or, Option, Some, None, arith, Float}
use lib.Ieee.{nan, binary64, add, sub, mul, lt, le, eq, round, of_bits}
use Rattle.std.specs.List.{All}
use Rattle.std.proofs.lemmas.List.Elements.{All-get_or}
use Rattle.spec_arithmetic.specs.Bounds.{In}
use Rattle.spec_arithmetic.specs.Constants.{zero64, one64, half, whole64}
use Rattle.spec_arithmetic.specs.Whole.{whole_part}
use Rattle.spec_shape.specs.Register.{voiced_st, ascending, percentile, p5_p50_p95, at_least_min_span, of_percentiles, fallback_register, cold_register}
use Rattle.spec_shape.specs.declared.Percentiles.{Percentiles}
use Rattle.tonekit_float.proofs.Monotone.{zero_f}
use Rattle.tonekit_float.proofs.Bounds.{in_wider, in_add, in_sub, in_scale}
use Rattle.tonekit_float.proofs.Exact.{one_f}
use Rattle.tonekit_float.proofs.Whole.{share_part, share_rest}
use Rattle.tonekit_fit.proofs.Semitone.{frame_semitone}
use Rattle.tonekit_rank.proofs.Ranks.{length_ascending, all_ascending}
use Rattle.tonekit_min_span.specs.Near.{Around, Near}
use Rattle.tonekit_min_span.proofs.Laws.{near_percentiles}
use Rattle.tonekit_register.proofs.Places.{share}
use Rattle.tonekit_register.proofs.KeyLists.{each_voiced}

-- s + t · (z − s)
between_in : (s z t : Float) → Around 2000 s → Around 2000 z → In zero_f one_f t → Around 6000 (add binary64 s (mul binary64 t (sub binary64 z s)))
unfolding add sub mul round le lt eq
between_in s z t a b h = in_wider tt (in_add binary64 tt a (in_scale binary64 tt h (in_sub binary64 tt b a)))

module _ (l : List Float) (some : 0 < length l) (few : length l ≤ 1024) (all : All (Around 2000) l) (p : Float) (h : In zero64 one64 p) where
  pub percentile_in : Around 6000 (percentile l p)
  unfolding percentile
  percentile_in =
      let lo = whole_part (mul binary64 p (whole64 (length l - 1))) in
      let place = share_part p (share p h) (length l - 1) (omega arith) in
      let rest = share_rest p (share p h) (length l - 1) (omega arith) in
      let low = All-get_or (Around 2000) l lo nan (omega arith) all in
      let high = All-get_or (Around 2000) l (min (lo + 1) (length l - 1)) nan (omega arith) all in
      between_in (get_or l lo nan) (get_or l (min (lo + 1) (length l - 1)) nan) (sub binary64 (mul binary64 p (whole64 (length l - 1))) (whole64 lo)) low high rest

-- ---- the percentiles of semitones, if there are any
abbrev pub Within6000 : Option Percentiles → Type 0
Within6000 None = Unit
Within6000 (Some p) = Around 6000 p.p5 × Around 6000 p.p50 × Around 6000 p.p95

shares : In zero64 one64 (of_bits binary64 0x3fa9_9999_9999_999a) × In zero64 one64 half × In zero64 one64 (of_bits binary64 0x3fee_6666_6666_6666)
unfolding le lt eq of_bits
shares = (record { low = tt; high = tt }, record { low = tt; high = tt }, record { low = tt; high = tt })

percentiles_within : (st : List Float) → length st ≤ 1024 → All (Around 2000) st → Within6000 (p5_p50_p95 st)
unfolding p5_p50_p95
percentiles_within [] few all = tt
percentiles_within (x ∷ l) few all =
    let n = length_ascending (x ∷ l) in
    let in_place = percentile_in (ascending (x ∷ l)) (omega (arith, n)) (omega (arith, n)) (all_ascending (Around 2000) (x ∷ l) all) in
    (in_place (of_bits binary64 0x3fa9_9999_9999_999a) shares.0, in_place half shares.1, in_place (of_bits binary64 0x3fee_6666_6666_6666) shares.2)

pub voiced_within : (frames : List ℕ) (count : ℕ) → count ≤ 1024 → Within6000 (p5_p50_p95 (voiced_st frames count))
voiced_within frames count h =
    let e = each_voiced (Around 2000) frames (λ i v e. (frame_semitone frames i v e).1) count in
    percentiles_within (voiced_st frames count) (omega (arith, e.0)) e.1

-- ---- a cold register, by its percentiles
pub cold_none : (st : List Float) → None ≡ p5_p50_p95 st → cold_register st ≡ fallback_register
unfolding cold_register
cold_none st e = rw (← e) refl

pub cold_some : (st : List Float) (p : Percentiles) → Some p ≡ p5_p50_p95 st → cold_register st ≡ at_least_min_span (of_percentiles p)
unfolding cold_register
cold_some st p e = rw (← e) refl

pub percentiles_near : (frames : List ℕ) (count : ℕ) (p : Percentiles) → count ≤ 1024 → Some p ≡ p5_p50_p95 (voiced_st frames count)
    → Near (of_percentiles p).floor × Near (of_percentiles p).ceil
percentiles_near frames count p h e = let w : Within6000 (Some p) = subst Within6000 (sym e) (voiced_within frames count h) in near_percentiles p w.0 w.2
