-- What callers may cite of ln, log2 and exp. Nothing above unfolds their definitions. Assumes nothing.
use Rattle.std.proofs.Common.{◌≡◌, ◌*◌, ◌^◌, ◌<◌, zero, suc, Bool, true, false, cond, T, ℤ, pos, nat_abs, sym, refl, ap, ◌∙◌, subst, Float}
use lib.Ieee.{nan, inf, fin, binary64, round, neg, sum, add, sub, mul, div, lt, le, eq, is_nan, of_int, of_bits, fits}
use lib.Ieee.Bits.{is_true}
use lib.Ieee.Exact.{HasValue}
use Rattle.std.specs.Int.{is_negative}
use lib.Ieee.Fits.{nan-fits, inf-fits, cond-fits, add-fits, mul-fits}
use lib.Ieee.Scale.{finite}
use Rattle.spec_arithmetic.specs.Bounds.{In}
use Rattle.tonekit_float.proofs.Fraction.{Within}
use Rattle.tonekit_float.proofs.Monotone.{zero_f}
use Rattle.tonekit_float.proofs.Bounds.{in_finite}
use Rattle.tonekit_float.proofs.Exact.{one_f}
use Rattle.tonekit_float.proofs.Order.{yes}
use Rattle.tonekit_float.proofs.Signs.{below}
use Rattle.spec_arithmetic.specs.declared.Parts.{Parts}
use Rattle.spec_arithmetic.specs.Constants.{LN2_HI, LN2_LO, LOG2E, one64, bound}
use Rattle.spec_arithmetic.specs.Log.{series, log_by, ln_of, log2_of, log_horner, parts_of, centred}
use Rattle.spec_arithmetic.specs.Exp.{exp_series, floor_of, rest, exp_by, exp_of, exp_horner}
use Rattle.tonekit_log.proofs.LogCases.{ln_is, log2_is, none_of, ln_at, log2_at}
use Rattle.tonekit_log.proofs.Powers.{Exponent, at_power, log2_at_one, ln_at_one, none_more, exponent_stays, low_stays, high_exact}
use Rattle.tonekit_log.proofs.LogRange.{ln_at_in, log2_at_in, by_parts}
use Rattle.tonekit_log.proofs.ExpCases as cases
use Rattle.tonekit_log.proofs.ExpRange.{exp_from_bound}
use Rattle.tonekit_log.proofs.Turns.{by_log2e}

-- ---- powers of two
-- at m = 1 the series gives exactly 0
pub series_at_one : series one64 ≡ zero_f
unfolding series log_horner mul div add sub of_bits of_int
series_at_one = refl

-- log2 (2 ^ k) is k
pub log2_power : (k : ℤ) → Exponent k → log2_of (fin false 1 k) ≡ of_int binary64 k
log2_power k h =
    log2_is (fin false 1 k)
    ∙ at_power log2_at k h
    ∙ log2_at_one (of_int binary64 k)
    ∙ ap (λ (y : Float). add binary64 (of_int binary64 k) y) (ap (λ (y : Float). mul binary64 y LOG2E) series_at_one ∙ none_more)
    ∙ exponent_stays k h

-- ln (2 ^ k) is the sum of k·hi, which is exact (`high_part_exact`), and k·lo: product and sum are each rounded once
pub ln_power : (k : ℤ) → Exponent k → ln_of (fin false 1 k) ≡ add binary64 (mul binary64 (of_int binary64 k) LN2_HI) (mul binary64 (of_int binary64 k) LN2_LO)
ln_power k h =
    let n = of_int binary64 k in
    ln_is (fin false 1 k)
    ∙ at_power ln_at k h
    ∙ ln_at_one n
    ∙ ap (λ (y : Float). add binary64 (mul binary64 n LN2_HI) y) (ap (λ (y : Float). add binary64 y (mul binary64 n LN2_LO)) series_at_one ∙ low_stays k h)

-- hi is 0xB17217F7 / 2 ^ 32
pub high_part_is : HasValue LN2_HI false 0xB172_17F7 (2 ^ 32)
unfolding of_bits
high_part_is = (refl, refl)

-- k·hi is exact for every k of at most 21 binary digits, so for each exponent that `ln` and `exp` multiply it by: it has k's sign, and |k|·hi for
-- its size
pub high_part_exact : (k : ℤ) → nat_abs k < 2 ^ 21 → HasValue (mul binary64 (of_int binary64 k) LN2_HI) (is_negative k) (nat_abs k * 0xB172_17F7) (2 ^ 32)
high_part_exact k h = high_exact k h

pub ln_one : ln_of one64 ≡ zero_f
unfolding ln_of log_by parts_of centred series log_horner add sum sub mul div lt neg of_bits of_int round
ln_one = refl

-- ---- the logarithm of a positive number is finite, and how large it can be
pub ln_within : (x : Float) → T (fits binary64 x) → T (lt zero_f x) → T (lt x (inf false)) → Within 746 (ln_of x)
ln_within x p g h = subst (Within 746) (sym (ln_is x)) (by_parts ln_at 746 ln_at_in x p g h)

pub log2_within : (x : Float) → T (fits binary64 x) → T (lt zero_f x) → T (lt x (inf false)) → Within 1076 (log2_of x)
log2_within x p g h = subst (Within 1076) (sym (log2_is x)) (by_parts log2_at 1076 log2_at_in x p g h)

-- ---- zero, infinity, negative numbers, NaN
by_zero : (f : Parts → Float) (s : Bool) (e : ℤ) → log_by f (fin s 0 e) ≡ inf true
unfolding log_by
by_zero f s e = refl

by_infinity : (f : Parts → Float) → log_by f (inf false) ≡ inf false
unfolding log_by
by_infinity f = refl

by_nan : (f : Parts → Float) → log_by f nan ≡ nan
unfolding log_by
by_nan f = refl

by_negative : (f : Parts → Float) (x : Float) → T (lt x zero_f) → log_by f x ≡ nan
by_negative f x h = sym (none_of f x (below x h))

pub ln_zero : (s : Bool) (e : ℤ) → ln_of (fin s 0 e) ≡ inf true
ln_zero s e = ln_is (fin s 0 e) ∙ by_zero ln_at s e

pub ln_infinity : ln_of (inf false) ≡ inf false
ln_infinity = ln_is (inf false) ∙ by_infinity ln_at

pub ln_negative : (x : Float) → T (lt x zero_f) → ln_of x ≡ nan
ln_negative x h = ln_is x ∙ by_negative ln_at x h

pub ln_nan : ln_of nan ≡ nan
ln_nan = ln_is nan ∙ by_nan ln_at

pub log2_zero : (s : Bool) (e : ℤ) → log2_of (fin s 0 e) ≡ inf true
log2_zero s e = log2_is (fin s 0 e) ∙ by_zero log2_at s e

pub log2_infinity : log2_of (inf false) ≡ inf false
log2_infinity = log2_is (inf false) ∙ by_infinity log2_at

pub log2_negative : (x : Float) → T (lt x zero_f) → log2_of x ≡ nan
log2_negative x h = log2_is x ∙ by_negative log2_at x h

pub log2_nan : log2_of nan ≡ nan
log2_nan = log2_is nan ∙ by_nan log2_at

-- ---- exp
pub exp_zero : (s : Bool) → exp_of (fin s 0 (pos 0)) ≡ one64
unfolding exp_of exp_by rest exp_series exp_horner floor_of is_nan lt neg of_bits of_int add sum sub mul div round
exp_zero true = refl
exp_zero false = refl

pub exp_nan : exp_of nan ≡ nan
unfolding exp_of is_nan
exp_nan = refl

-- below -708, -infinity too
pub exp_low : (v : Float) → T (lt v (neg bound)) → exp_of v ≡ zero_f
exp_low v h = sym (cases.low_result v (number v h) (is_true (lt v (neg bound)) h))
  where
    number : (v : Float) → T (lt v (neg bound)) → is_nan v ≡ false
    number nan h = unfold lt in absurd h
    number (inf s) h = unfold is_nan in refl
    number (fin s m e) h = unfold is_nan in refl

zero_in : In zero_f one_f zero_f
unfolding le lt eq
zero_in = record { low = tt; high = tt }

-- of a number that is not above 0, -infinity too: from 0 to 1
pub exp_in : (v : Float) → T (le v zero_f) → In zero_f one_f (exp_of v)
exp_in v h = go (lt v (neg bound)) refl
  where
    go : (b : Bool) → lt v (neg bound) ≡ b → In zero_f one_f (exp_of v)
    go true q = subst (λ (y : Float). In zero_f one_f y) (sym (exp_low v (yes q))) zero_in
    go false q = exp_from_bound v h q

pub exp_finite : (v : Float) → T (le v zero_f) → T (finite (exp_of v))
exp_finite v h = in_finite {lo = zero_f} {hi = one_f} tt (exp_in v h)

-- ---- the results are f64s
by_fits : (f : Parts → Float) → ((p : Parts) → T (fits binary64 (f p))) → (x : Float) → T (fits binary64 (log_by f x))
unfolding log_by
by_fits f each nan = nan-fits binary64
by_fits f each (inf true) = nan-fits binary64
by_fits f each (inf false) = inf-fits binary64 false
by_fits f each (fin s zero e) = inf-fits binary64 true
by_fits f each (fin true (suc m) e) = nan-fits binary64
by_fits f each (fin false (suc m) e) = each _

pub ln_fits : (x : Float) → T (fits binary64 (ln_of x))
ln_fits x = subst (λ (y : Float). T (fits binary64 y)) (sym (ln_is x)) (by_fits ln_at (λ p. add-fits binary64 _ _) x)

pub log2_fits : (x : Float) → T (fits binary64 (log2_of x))
log2_fits x = subst (λ (y : Float). T (fits binary64 y)) (sym (log2_is x)) (by_fits log2_at (λ p. add-fits binary64 _ _) x)

by_series : (v : Float) (n : ℤ) → T (fits binary64 (exp_by v n))
unfolding exp_by
by_series v n = mul-fits binary64 (exp_series (rest v (of_int binary64 n))) (fin false 1 n)

zero_fits : T (fits binary64 zero_f)
unfolding fits
zero_fits = tt

pub exp_fits : (v : Float) → T (fits binary64 (exp_of v))
unfolding exp_of
exp_fits v =
    let r = exp_by v (floor_of (by_log2e v)) in
    let high = cond (lt bound v) (inf false) r in
    let low = cond (lt v (neg bound)) zero_f high in
    cond-fits binary64 (is_nan v) nan low (nan-fits binary64)
    (cond-fits binary64 (lt v (neg bound)) zero_f high zero_fits
    (cond-fits binary64 (lt bound v) (inf false) r (inf-fits binary64 false) (by_series v (floor_of (by_log2e v)))))
