-- What magnitudes are, their patterns and their bounds.
use Rattle.std.proofs.Common.{not, ℕ, zero, suc, ◌<◌, Bool, true, false, T, ℤ, pos, arith, Float, to_bits}
use lib.Ieee.{Format, nan, inf, fin, neg, lt, le, eq, top, fits}
use lib.Ieee.Bits.{to_bits-lt}
use lib.Ieee.Scale.{finite}
use Rattle.std.specs.Float.{float_with_sign}
use Rattle.spec_arithmetic.specs.Bounds.{In}
use Rattle.spec_arithmetic.specs.Magnitude.{magnitude}
use Rattle.tonekit_float.proofs.Fraction.{Within}
use Rattle.tonekit_float.proofs.Units.{to_bits_is}
use Rattle.tonekit_float.proofs.Order.{le→under, under→le, le_trans_float, neg_le}
use Rattle.tonekit_float.proofs.Monotone.{zero_f}
use Rattle.tonekit_float.proofs.Bounds.{in_finite}

-- a format holds a value with either sign
fits_sign : (f : Format) (s t : Bool) (m : ℕ) (e : ℤ) → T (fits f (fin s m e)) → T (fits f (fin t m e))
unfolding fits
fits_sign f s t zero e h = h
fits_sign f s t (suc m) e h = h

-- a value whose sign is clear, or the NaN
abbrev pub clear : Float → Bool
clear nan = true
clear (inf s) = not s
clear (fin s m e) = not s

-- with the sign clear the pattern is below the sign's weight
pub clear_lt : (f : Format) (m : ℕ) (e : ℤ) → T (fits f (fin false m e)) → to_bits f (fin false m e) < top f
clear_lt f m e h =
    let a = to_bits-lt f (fin true m e) (fits_sign f false true m e h) in
    let b = to_bits_is f true m e in
    let c = to_bits_is f false m e in
    omega arith

-- ---- what magnitudes are
pub magnitude_clear : (x : Float) → T (clear (magnitude x))
unfolding float_with_sign
magnitude_clear nan = tt
magnitude_clear (inf s) = tt
magnitude_clear (fin s m e) = tt

pub magnitude_fits : (f : Format) (x : Float) → T (fits f x) → T (fits f (magnitude x))
unfolding float_with_sign fits
magnitude_fits f nan h = tt
magnitude_fits f (inf s) h = tt
magnitude_fits f (fin s m e) h = fits_sign f s false m e h

pub magnitude_within : {n : ℕ} {x : Float} → Within n x → Within n (magnitude x)
magnitude_within {n} {x} w = go x w
  where
    go : (x : Float) → Within n x → Within n (magnitude x)
    go nan w = absurd w.real
    go (inf s) w = absurd w.real
    go (fin true m e) w = let s = w.small in unfold float_with_sign in record { real = tt; small = omega arith }
    go (fin false m e) w = let s = w.small in unfold float_with_sign in record { real = tt; small = omega arith }

-- ---- bounds of a magnitude are bounds of the value, with both signs, and the other way round
pub of_magnitude : (hi x : Float) → T (finite hi) → T (le zero_f hi) → T (le (magnitude x) hi) → In (neg hi) hi x
unfolding float_with_sign neg
of_magnitude hi nan q z h = absurd (not_nan hi h)
  where
    not_nan : (y : Float) → T (le nan y) → ⊥
    not_nan y h = unfold le lt eq in h
of_magnitude hi (inf s) q z h = absurd (not_inf hi q h)
  where
    not_inf : (y : Float) → T (finite y) → T (le (inf false) y) → ⊥
    not_inf nan q h = absurd q
    not_inf (inf t) q h = absurd q
    not_inf (fin t n d) q h = unfold le lt eq in h
of_magnitude hi (fin true m e) q z h = record {
  low = neg_le (fin false m e) hi h;
  high = le_trans_float (fin true m e) (fin false m e) hi (under→le (fin true m e) (fin false m e) tt tt (omega arith)) h;
}
of_magnitude hi (fin false m e) q z h = record {
  low = le_trans_float (neg hi) (neg zero_f) (fin false m e) (neg_le zero_f hi z) (under→le (fin true 0 (pos 0)) (fin false m e) tt tt (omega arith));
  high = h;
}

pub magnitude_in : (n : ℕ) (x : Float) → In (fin true n (pos 0)) (fin false n (pos 0)) x → In zero_f (fin false n (pos 0)) (magnitude x)
unfolding float_with_sign
magnitude_in n nan h = absurd (in_finite {lo = fin true n (pos 0)} {hi = fin false n (pos 0)} {x = nan} tt h)
magnitude_in n (inf s) h = absurd (in_finite {lo = fin true n (pos 0)} {hi = fin false n (pos 0)} {x = inf s} tt h)
magnitude_in n (fin true m e) h =
    let k = le→under (fin true n (pos 0)) (fin true m e) tt tt h.low in
    record { low = under→le zero_f (fin false m e) tt tt (omega arith); high = under→le (fin false m e) (fin false n (pos 0)) tt tt (omega arith) }
magnitude_in n (fin false m e) h = record { low = under→le zero_f (fin false m e) tt tt (omega arith); high = h.high }
