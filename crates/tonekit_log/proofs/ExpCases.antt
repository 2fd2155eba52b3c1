-- The powers of two by their patterns, and what `exp` returns.
use Rattle.std.proofs.Common.{Bool, cond, ◌+ℤ◌, ◌≤ℤ◌, w64, to_z, of_z, to_z-of_z, le-ltb, leb→le, ◌≡◌, ℕ, suc, ◌+◌, ◌-◌, ◌*◌, ◌^◌, ◌≤◌, true, false, T, ltb, leb, ℤ, pos, negsuc, neg_ℤ, sym, refl, ap, ◌∙◌, le_trans, le_of_eq, lt_of_lt_of_le, lt_of_le_of_lt, mul_comm, mul-le-mul_left, one-mul, mul-one, arith, lit<, le→leb, lt→ltb, pow_pos, pow_mono, pow-add, nat_abs, Float}
use mir.Facts.{to_z_pos}
use lib.Ieee.{nan, inf, fin, binary64, mul, sub, neg, lt, is_nan, fits, of_bits, of_int}
use lib.Ieee.Fits.{and_i}
use lib.Ieee.Bits.{of_bits-fits}
use Rattle.tonekit_float.proofs.Units.{unique}
use Rattle.tonekit_float.proofs.NarrowRound.{L}
use Rattle.tonekit_float.proofs.Order.{yes}
use Rattle.tonekit_float.proofs.Patterns.{power_value}
use Rattle.spec_arithmetic.specs.Constants.{LN2_HI, LN2_LO, bound}
use Rattle.spec_arithmetic.specs.Exp.{exp_series, floor_of, rest, exp_by, exp_of}
use Rattle.tonekit_log.proofs.Turns.{by_log2e}

fits_up : (k : ℕ) → k ≤ 1023 → T (fits binary64 (fin false 1 (pos k)))
unfolding fits
fits_up k h = lt→ltb (1 * 2 ^ k) (2 ^ 1024 * 1) (lt_of_le_of_lt (le_trans (le_of_eq (one-mul (2 ^ k))) (pow_mono h)) (lit< tt))

under : (k : ℕ) → suc k ≤ 1022 → suc k ≤ 1074
under k h = omega arith

fits_down : (k : ℕ) → suc k ≤ 1022 → T (fits binary64 (fin false 1 (negsuc k)))
unfolding fits
fits_down k h =
    and_i (leb (2 ^ suc k) (2 ^ 1074)) (ltb 1 (2 ^ 1024 * 2 ^ suc k)) (le→leb (2 ^ suc k) (2 ^ 1074) (pow_mono (under k h)))
    (lt→ltb 1 (2 ^ 1024 * 2 ^ suc k) (lt_of_lt_of_le (lit< tt) (le_trans (le_of_eq (sym (mul-one (2 ^ 1024)))) (mul-le-mul_left (2 ^ 1024) (pow_pos (suc k))))))

at_up : (n : ℕ) → 1023 + n ≡ suc (1022 + n)
at_up n = omega arith

pub power_up : (n : ℕ) → n ≤ 1023 → of_bits binary64 ((1023 + n) * 2 ^ 52) ≡ fin false 1 (pos n)
power_up n h =
    let g = 1022 + n in
    ap (λ (k : ℕ). of_bits binary64 (k * 2 ^ 52)) (at_up n)
    ∙ unique binary64 (of_bits binary64 (suc g * 2 ^ 52)) (fin false 1 (pos n)) false (2 ^ 52 * 2 ^ g) L (pow_pos 1074) (of_bits-fits binary64 (suc g * 2 ^ 52)) (fits_up n h)
    (power_value g (let z = h in omega arith))
    (refl, ap (λ (z : ℕ). z * L) (one-mul (2 ^ n)) ∙ mul_comm (2 ^ n) L ∙ sym (pow-add 2 1074 n) ∙ ap (λ (z : ℕ). 2 ^ z) (join n) ∙ pow-add 2 52 g ∙ sym (mul-one (2 ^ 52 * 2 ^ g)))
  where
    join : (n : ℕ) → 1074 + n ≡ 52 + (1022 + n)
    join n = omega arith

at_down : (k : ℕ) → suc k ≤ 1022 → 1023 - suc k ≡ suc (1022 - suc k)
at_down k h = omega arith

power_down : (k : ℕ) → suc k ≤ 1022 → of_bits binary64 ((1023 - suc k) * 2 ^ 52) ≡ fin false 1 (negsuc k)
power_down k h =
    let g = 1022 - suc k in
    ap (λ (k : ℕ). of_bits binary64 (k * 2 ^ 52)) (at_down k h)
    ∙ unique binary64 (of_bits binary64 (suc g * 2 ^ 52)) (fin false 1 (negsuc k)) false (2 ^ 52 * 2 ^ g) L (pow_pos 1074) (of_bits-fits binary64 (suc g * 2 ^ 52)) (fits_down k h)
    (power_value g (let z = h in omega arith))
    (refl, one-mul L ∙ ap (λ (z : ℕ). 2 ^ z) (join k h) ∙ pow-add 2 (52 + g) (suc k) ∙ ap (λ (z : ℕ). z * 2 ^ suc k) (pow-add 2 52 g))
  where
    join : (k : ℕ) → suc k ≤ 1022 → 1074 ≡ 52 + (1022 - suc k) + suc k
    join k h = omega arith

-- ---- what exp returns
pub exp_is : (v : Float) → is_nan v ≡ false → lt v (neg bound) ≡ false → lt bound v ≡ false → exp_of v ≡ exp_by v (floor_of (by_log2e v))
unfolding exp_of
exp_is v a b c = rw (a, b, c)

abbrev Result : Float → Float → Float → Float
Result v n p = mul binary64 (exp_series (sub binary64 (sub binary64 v (mul binary64 n LN2_HI)) (mul binary64 n LN2_LO))) p

by : (v : Float) (n : ℤ) → exp_by v n ≡ Result v (of_int binary64 n) (fin false 1 n)
unfolding exp_by rest
by v n = refl

-- the exponent's field of 2 ^ n, as the code finds it
abbrev pub field_of : ℤ → ℕ
field_of n = nat_abs (to_z w64 (of_z w64 (pos 1023 +ℤ to_z w64 (of_z w64 n))))

field_up : (n : ℕ) → n ≤ 1022 → field_of (pos n) ≡ 1023 + n
field_up n h =
    ap (λ (z : ℤ). nat_abs (to_z w64 (of_z w64 (pos 1023 +ℤ z)))) (to_z_pos w64 {n = n} (omega arith))
    ∙ ap nat_abs (to_z_pos w64 {n = 1023 + n} (omega arith))

field_down : (k : ℕ) → suc k ≤ 1022 → field_of (negsuc k) ≡ 1023 - suc k
field_down k h =
    ap (λ (z : ℤ). nat_abs (to_z w64 (of_z w64 (pos 1023 +ℤ z)))) (to_z-of_z {w = w64} {z = negsuc k} (record { sfits = omega arith }))
    ∙ ap (λ (b : Bool). nat_abs (to_z w64 (of_z w64 (cond b (negsuc (suc k - 1024)) (pos (1023 - suc k)))))) (le-ltb 1023 (suc k) (omega arith))
    ∙ ap nat_abs (to_z_pos w64 {n = 1023 - suc k} (omega arith))

-- n lies from -1022 to 1022
abbrev pub Small : ℤ → Type 0
Small n = (neg_ℤ (pos 1022) ≤ℤ n) × (n ≤ℤ pos 1022)

up_small : (n : ℕ) → pos n ≤ℤ pos 1022 → n ≤ 1022
up_small n h = leb→le n 1022 h.le

down_small : (k : ℕ) → neg_ℤ (pos 1022) ≤ℤ negsuc k → suc k ≤ 1022
down_small k h = let z = leb→le k 1021 h.le in omega arith

pub field_small : (n : ℤ) → Small n → field_of n ≤ 2045
field_small (pos n) h = let z = up_small n h.1 in let e = field_up n z in omega arith
field_small (negsuc k) h = let z = down_small k h.0 in let e = field_down k z in omega arith

pub power_is : (n : ℤ) → Small n → of_bits binary64 (field_of n * 2 ^ 52) ≡ fin false 1 n
power_is (pos n) h = let z = up_small n h.1 in ap (λ (k : ℕ). of_bits binary64 (k * 2 ^ 52)) (field_up n z) ∙ power_up n (omega arith)
power_is (negsuc k) h = let z = down_small k h.0 in ap (λ (k : ℕ). of_bits binary64 (k * 2 ^ 52)) (field_down k z) ∙ power_down k z

-- n out of the bits that the code keeps
abbrev pub kept : ℤ → ℤ
kept n = to_z w64 (of_z w64 n)

kept_is : (n : ℤ) → Small n → kept n ≡ n
kept_is (pos n) h = let z = up_small n h.1 in to_z_pos w64 {n = n} (omega arith)
kept_is (negsuc k) h = let z = down_small k h.0 in to_z-of_z {w = w64} {z = negsuc k} (record { sfits = omega arith })

pub result_is : (v : Float) (n : ℤ) → is_nan v ≡ false → lt v (neg bound) ≡ false → lt bound v ≡ false → n ≡ floor_of (by_log2e v) → Small n
    → Result v (of_int binary64 (kept n)) (of_bits binary64 (field_of n * 2 ^ 52)) ≡ exp_of v
result_is v n a b c f h =
    ap (λ (z : ℤ). Result v (of_int binary64 z) (of_bits binary64 (field_of n * 2 ^ 52))) (kept_is n h)
    ∙ ap (λ (p : Float). Result v (of_int binary64 n) p) (power_is n h) ∙ sym (by v n) ∙ ap (λ (z : ℤ). exp_by v z) f ∙ sym (exp_is v a b c)

pub nan_result : (v : Float) → is_nan v ≡ true → v ≡ exp_of v
unfolding is_nan exp_of
nan_result nan h = refl
nan_result (inf s) h = absurd (yes h)
nan_result (fin s m e) h = absurd (yes h)

pub low_result : (v : Float) → is_nan v ≡ false → lt v (neg bound) ≡ true → fin false 0 (pos 0) ≡ exp_of v
unfolding exp_of
low_result v a b = rw (a, b)

pub high_result : (v : Float) → is_nan v ≡ false → lt v (neg bound) ≡ false → lt bound v ≡ true → inf false ≡ exp_of v
unfolding exp_of
high_result v a b c = rw (a, b, c)
