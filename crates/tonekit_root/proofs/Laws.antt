-- What callers may cite of the square root. Nothing above unfolds its definition. Assumes nothing.
use Rattle.std.proofs.Common.{ℕ, suc, zero, ◌+◌, ◌-◌, ◌*◌, ◌/◌, ◌^◌, ◌<◌, zero-le, ◌≡◌, refl, sym, ◌∙◌, ap, subst, Bool, true, false, not, true≢false, le_trans, le_of_eq, lt_irrefl, lt_of_lt_of_le, mul-pos, zero-mul, zero-lt-suc, arith, T, lit<, ℤ, pow_pos, Float}
use lib.Ieee.{nan, inf, fin, up, binary64, size, round, lt, le, eq, is_nan, fits}
use lib.Ieee.Exact.{HasValue}
use lib.Ieee.Fits.{nan-fits, round-fits, up_pos, down_pos}
use lib.Ieee.Order.{round_mono}
use lib.Ieee.Scale.{finite}
use Rattle.tonekit_float.proofs.NarrowRound.{L}
use Rattle.tonekit_float.proofs.Order.{le→under}
use Rattle.tonekit_float.proofs.Monotone.{zero_f, zero_is}
use Rattle.tonekit_float.proofs.Patterns.{units_in, units_are, units_lt}
use Rattle.tonekit_float.proofs.Signs as signs
use Rattle.spec_arithmetic.specs.Root.{nearest_root, root_units, root_of}
use Rattle.tonekit_root.specs.Nearest.{Nearest}
use Rattle.tonekit_root.proofs.Cases as cases
use Rattle.tonekit_root.proofs.Spacing.{scaled}
use Rattle.tonekit_root.proofs.Rooted as rooted

-- ---- a float that has a value
value_finite : (r : Float) (n : ℕ) → HasValue r false n L → T (finite r)
value_finite nan n v = absurd v
value_finite (inf s) n v = absurd v
value_finite (fin s m e) n v = tt

value_positive : (r : Float) (n : ℕ) → 0 < n → HasValue r false n L → T (lt zero_f r)
value_positive nan n p v = absurd v
value_positive (inf s) n p v = absurd v
value_positive (fin true m e) n p v = absurd (true≢false v.0)
value_positive (fin false zero e) n p v = absurd (lt_irrefl 0 (lt_of_lt_of_le (mul-pos p (down_pos e)) (le_of_eq (sym v.1 ∙ ap (λ (z : ℕ). z * L) (zero-mul (up e)) ∙ zero-mul L))))
value_positive (fin false (suc m) e) n p v = signs.above_zero m e

units_of : (r : Float) (n : ℕ) → T (fits binary64 r) → HasValue r false n L → units_in r ≡ n
units_of nan n p v = absurd v
units_of (inf s) n p v = absurd v
units_of (fin true m e) n p v = absurd (true≢false v.0)
units_of (fin false m e) n p v = units_are m e n p v

rounded_fits : (X : ℕ) → T (fits binary64 (root_units X))
unfolding root_units
rounded_fits X = round-fits binary64 false _ _

pub root_fits : (x : Float) → T (fits binary64 x) → T (fits binary64 (root_of x))
unfolding root_of
root_fits nan h = h
root_fits (inf true) h = nan-fits binary64
root_fits (inf false) h = h
root_fits (fin s zero e) h = h
root_fits (fin true (suc m) e) h = nan-fits binary64
root_fits (fin false (suc m) e) h = rounded_fits _

known : (x : Float) → T (fits binary64 x) → T (lt zero_f x) → T (lt x (inf false)) → rooted.Rooted (units_in x) (root_of x)
known x p g h =
    let a = signs.above x g h in
    let c = cases.above x p g h in
    let f = subst (λ (y : Float). T (finite y)) (sym a.is) tt in
    let top : units_in x < 2 ^ 2098 = subst (λ (y : Float). units_in y < 2 ^ 2098) (sym a.is) (units_lt a.m a.e (subst (λ (y : Float). T (fits binary64 y)) a.is p)) in
    subst (λ (r : Float). rooted.Rooted (units_in x) r) (sym c.is) (rooted.rooted (units_in x) (scaled x p f) c.some top)

-- ---- the f64 nearest to the root
-- x by its units, the root that is given, and any f64 y by its size: none is nearer to the root of x
pub root_nearest : (x y : Float) → T (fits binary64 x) → T (lt zero_f x) → T (lt x (inf false)) → T (fits binary64 y) → T (finite y) → Nearest (units_in x) (units_in (root_of x)) (units_in y)
root_nearest x y p g h q f =
    let a = known x p g h in
    subst (λ (R : ℕ). Nearest (units_in x) R (units_in y)) (sym (units_of (root_of x) _ (root_fits x p) a.value)) (rooted.nearest (units_in x) (units_in y) (root_of x) a (scaled y q f))

-- of a number above 0 it is a number above 0
pub root_finite : (x : Float) → T (fits binary64 x) → T (lt zero_f x) → T (lt x (inf false)) → T (finite (root_of x))
root_finite x p g h = value_finite (root_of x) _ (known x p g h).value

pub root_positive : (x : Float) → T (fits binary64 x) → T (lt zero_f x) → T (lt x (inf false)) → T (lt zero_f (root_of x))
root_positive x p g h =
    let a = known x p g h in
    value_positive (root_of x) _ (mul-pos (lt_of_lt_of_le (lit< tt) a.digits) (pow_pos a.t)) a.value

-- ---- the root of a number that is not negative, +infinity too, is no NaN and not negative
round_nonneg : (a b : ℕ) → 0 < b → T (le zero_f (round binary64 false a b))
round_nonneg a b B = subst (λ (z : Float). T (le z (round binary64 false a b))) (zero_is binary64 false b B) (round_mono binary64 0 b a b B B (le_trans (le_of_eq (zero-mul b)) zero-le))

units_nonneg : (X : ℕ) → T (le zero_f (root_units X))
unfolding root_units
units_nonneg X = round_nonneg (nearest_root (X * 4 ^ k / 4 ^ l) * 2 ^ l) (2 ^ (k + 537)) (pow_pos (k + 537))
  where
    k : ℕ
    k = (106 - size X) / 2

    l : ℕ
    l = (size X - 105) / 2

not_below : (m : ℕ) (e : ℤ) → T (le zero_f (fin true (suc m) e)) → ⊥
not_below m e h = let k = le→under zero_f (fin true (suc m) e) tt tt h in let p : 0 < suc m * up e = mul-pos (zero-lt-suc m) (up_pos e) in lt_irrefl 0 (omega arith)

pub root_nonneg : (x : Float) → T (le zero_f x) → T (le zero_f (root_of x))
unfolding root_of le lt eq
root_nonneg nan h = absurd h
root_nonneg (inf true) h = absurd h
root_nonneg (inf false) h = h
root_nonneg (fin s zero e) h = h
root_nonneg (fin true (suc m) e) h = absurd (not_below m e h)
root_nonneg (fin false (suc m) e) h = units_nonneg _

not_nan : (r : Float) → T (le zero_f r) → T (not (is_nan r))
unfolding le lt eq is_nan
not_nan nan h = absurd h
not_nan (inf s) h = tt
not_nan (fin s m e) h = tt

pub root_number : (x : Float) → T (le zero_f x) → T (not (is_nan (root_of x)))
root_number x h = not_nan (root_of x) (root_nonneg x h)

-- ---- infinity, zero, negative numbers, NaN
pub root_infinity : root_of (inf false) ≡ inf false
unfolding root_of
root_infinity = refl

pub root_zero : (s : Bool) (e : ℤ) → root_of (fin s 0 e) ≡ fin s 0 e
unfolding root_of
root_zero s e = refl

pub root_nan : root_of nan ≡ nan
unfolding root_of
root_nan = refl

pub root_negative : (x : Float) → T (lt x zero_f) → root_of x ≡ nan
root_negative x h = go (signs.below x h)
  where
    go : signs.Neither x → root_of x ≡ nan
    go n = sym (cases.none_of x n)
