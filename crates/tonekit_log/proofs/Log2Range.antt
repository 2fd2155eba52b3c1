-- log2 of a number from 2 ^ -k to 2 ^ k is of size at most k and 3 more: the exponent is at most k in size, and at most 1 more once it is
-- centred; the series adds at most 2. Assumes nothing.
use Rattle.std.proofs.Common.{◌≡◌, ℕ, zero, suc, ◌+◌, ◌-◌, ◌*◌, ◌^◌, ◌<◌, ◌≤◌, Bool, true, false, cond, not, T, leb, ℤ, pos, negsuc, sym, ap, ◌∙◌, subst, le_trans, le_of_eq, lt_of_le_of_lt, mul-le-mul_right, mul-pos, one-mul, mul-one, mul_assoc, mul_comm, mul_right_comm, le_of_mul-le-mul_right, arith, lit≤, pow_pos, pow-add, Float}
use lib.Dec.{nleb→lt}
use lib.Pow.{pow-lt}
use lib.Ieee.{nan, inf, fin, binary64, up, down, size, neg, lt, add, mul, of_int, of_bits, fits, minus}
use lib.Ieee.Digits.{size-le}
use lib.Ieee.Fits.{down_pos}
use lib.Ieee.Positive.{positive}
use Rattle.spec_arithmetic.specs.Bounds.{In}
use Rattle.spec_arithmetic.specs.declared.Parts.{Parts}
use Rattle.spec_arithmetic.specs.Constants.{LOG2E, half, one64}
use Rattle.spec_arithmetic.specs.Log.{series, parts_of, centred, log2_of}
use Rattle.tonekit_float.proofs.Fraction.{Within}
use Rattle.tonekit_float.proofs.Units.{units_value, size_gt}
use Rattle.tonekit_float.proofs.Order.{le→under}
use Rattle.tonekit_float.proofs.Bounds.{in_finite}
use Rattle.tonekit_float.proofs.Size.{within_lit, within_whole, within_more, within_neg, within_add, within_mul, in_within}
use Rattle.tonekit_float.proofs.Patterns.{units_in, units_pos, units_lt}
use Rattle.tonekit_log.proofs.Powers.{minus_is, from_above}
use Rattle.tonekit_log.proofs.LogCases.{log2_is, log2_at, number_is}
use Rattle.tonekit_log.proofs.LogRange.{ROOT2, Centred, parts_in, series_in}

-- ---- the exponent
exponent_within : (k z : ℕ) → k ≤ 1074 → 1075 ≤ z + k → z ≤ k + 1075 → Within k (of_int binary64 (minus z 1075))
exponent_within k z K lo hi = go (leb 1075 z) (nleb→lt 1075 z)
  where
    go : (t : Bool) → (T (not t) → z < 1075) → Within k (of_int binary64 (cond t (pos (z - 1075)) (negsuc (1075 - suc z))))
    go true g = within_more {m = z - 1075} (omega arith) (within_whole binary64 (z - 1075) (omega arith))
    go false g =
        let h = g tt in
        let n = 1075 - suc z in
        subst (Within k) (sym (minus_is n)) (within_neg (within_more {m = suc n} (omega arith) (within_whole binary64 (suc n) (omega arith))))

-- centred it is at most 1 more
one_within : Within 1 one64
unfolding of_bits
one_within = within_lit 1 one64 tt

centred_within : (k : ℕ) (p : Parts) → k ≤ 1074 → Within k p.e → Within (k + 1) (centred p).e
unfolding centred
centred_within k p K w = go (lt ROOT2 p.m)
  where
    go : (b : Bool) → Within (k + 1) (cond b (record { m = mul binary64 p.m half; e = add binary64 p.e one64 }) p).e
    go true = within_add binary64 (omega arith) w one_within
    go false = within_more (omega arith) w

-- ---- the series
product_within : (p : Parts) → Centred p → Within 2 (mul binary64 (series p.m) LOG2E)
unfolding of_bits neg
product_within p c = within_mul binary64 (lit≤ tt) (in_within (within_lit 1 _ tt) (within_lit 1 _ tt) (series_in p.m c.m_in)) (within_lit 2 LOG2E tt)

parts_within : (k : ℕ) (p : Parts) → k ≤ 1074 → Centred p → Within (k + 1) p.e → Within (k + 3) (log2_at p)
parts_within k p K c w = subst (λ (n : ℕ). Within n (log2_at p)) (three k) (within_add binary64 (omega arith) w (product_within p c))
  where
    three : (k : ℕ) → k + 1 + 2 ≡ k + 3
    three k = omega arith

-- ---- the digits of x in units of 2 ^ -1074
module _ (k n : ℕ) (M D : ℕ) (below : suc k ≤ 1074) (pos_D : 0 < D) (units : M * 2 ^ 1074 ≡ n * D) where
  abbrev a : ℕ
  a = suc k

  digits_low : 1 * 1 * D ≤ M * 2 ^ a → 2 ^ (1074 - a) ≤ n
  digits_low h =
      let lo : 2 ^ (1074 - a) * (2 ^ a * D) ≡ D * 2 ^ 1074 = sym (mul_assoc (2 ^ (1074 - a)) (2 ^ a) D) ∙ ap (λ (z : ℕ). z * D) (sym (pow-add 2 (1074 - a) a) ∙ ap (λ (z : ℕ). 2 ^ z) (whole_exponent a below)) ∙ mul_comm (2 ^ 1074) D in
      let hi : M * 2 ^ a * 2 ^ 1074 ≡ n * (2 ^ a * D) = mul_right_comm M (2 ^ a) (2 ^ 1074) ∙ ap (λ (z : ℕ). z * 2 ^ a) units ∙ mul_assoc n D (2 ^ a) ∙ ap (λ (z : ℕ). n * z) (mul_comm D (2 ^ a)) in
      le_of_mul-le-mul_right (le_trans (le_of_eq lo) (le_trans (mul-le-mul_right (2 ^ 1074) (le_trans (le_of_eq (sym (one-mul D))) h)) (le_of_eq hi))) (mul-pos (pow_pos a) pos_D)
    where
      whole_exponent : (a : ℕ) → a ≤ 1074 → 1074 - a + a ≡ 1074
      whole_exponent a h = omega arith

  digits_high : M * 1 ≤ 1 * 2 ^ a * D → n ≤ 2 ^ (a + 1074)
  digits_high h =
      let hi : 1 * 2 ^ a * D * 2 ^ 1074 ≡ 2 ^ (a + 1074) * D = ap (λ (z : ℕ). z * D * 2 ^ 1074) (one-mul (2 ^ a)) ∙ mul_right_comm (2 ^ a) D (2 ^ 1074) ∙ ap (λ (z : ℕ). z * D) (sym (pow-add 2 a 1074)) in
      le_of_mul-le-mul_right (le_trans (le_of_eq (sym units)) (le_trans (mul-le-mul_right (2 ^ 1074) (le_trans (le_of_eq (sym (mul-one M))) h)) (le_of_eq hi))) pos_D

-- from 2 ^ -(k + 1) to 2 ^ (k + 1)
abbrev pub Between : ℕ → Float → Type 0
Between k x = In (fin false 1 (negsuc k)) (fin false 1 (pos (suc k))) x

positive_one : (k : ℕ) → T (positive (fin false 1 (negsuc k)))
positive_one k = tt

number_within : (k m : ℕ) (e : ℤ) → suc k ≤ 1074 → T (fits binary64 (fin false (suc m) e)) → Between k (fin false (suc m) e) → Within (suc k + 3) (log2_of (fin false (suc m) e))
unfolding parts_of
number_within k m e K p h =
    let x = fin false (suc m) e in
    let n = units_in x in
    let a = suc k in
    let D = down_pos e in
    let u = (units_value binary64 false (suc m) e p).1 in
    let P = units_pos m e p in
    let lo = digits_low k n (suc m * up e) (down e) K D u (let i = le→under (fin false 1 (negsuc k)) x tt tt h.low in omega arith) in
    let hi = digits_high k n (suc m * up e) (down e) K D u (let i = le→under x (fin false 1 (pos a)) tt tt h.high in omega arith) in
    let s = size_gt n (1074 - a) lo in
    let l = size-le n (a + 1075) (lt_of_le_of_lt hi (pow-lt (one_up a))) in
    let w = exponent_within a (size n) K (omega arith) l in
    subst (Within (a + 3)) (sym (log2_is x ∙ number_is log2_at m e))
    (parts_within a (centred (parts_of n)) K (parts_in n P (units_lt m e p)) (centred_within a (parts_of n) K w))
  where
    one_up : (a : ℕ) → a + 1074 < a + 1075
    one_up a = omega arith

pub log2_near : (k : ℕ) (x : Float) → suc k ≤ 1074 → T (fits binary64 x) → Between k x → Within (suc k + 3) (log2_of x)
log2_near k x K p h = go x p h (from_above (fin false 1 (negsuc k)) x (positive_one k) (in_finite tt h) h.low)
  where
    go : (x : Float) → T (fits binary64 x) → Between k x → T (positive x) → Within (suc k + 3) (log2_of x)
    go nan p h q = absurd q
    go (inf s) p h q = absurd q
    go (fin true m e) p h q = absurd q
    go (fin false zero e) p h q = absurd q
    go (fin false (suc m) e) p h q = number_within k m e K p h
