-- What the code of `narrow` and `narrow_above` needs, by the cases of x.
use Rattle.std.proofs.Common.{◌≡◌, ℕ, zero, suc, ◌+◌, ◌-◌, ◌*◌, ◌/◌, ◌^◌, ◌<◌, ◌≤◌, Bool, true, false, cond, not, ◌&&◌, T, eqb, ltb, ℤ, pos, sym, refl, ap, ◌∙◌, subst, le_trans, le_of_eq, lt_of_lt_of_le, lt_of_le_of_lt, lt_irrefl, mul-le-mul_right, mod-eq_of_lt, zero-lt-suc, lt_of_mul-lt-mul_right, mul-lt-mul_of_pos_right, mul-pos, mul-one, mul_right_comm, le_of_mul-le-mul_right, arith, lit≤, eqb→eq, ltb→lt, lt→ltb, nltb→le, T_not, pow_pos, le-ltb, Float, to_bits}
use lib.Ieee.{nan, inf, fin, Format, binary32, binary64, prec, emax, low, up, down, size, round, add, sub, lt, eq, fits, of_bits, units, odd, neg, is_nan, nan_bits}
use lib.Ieee.Digits.{size-le}
use lib.Ieee.Fits.{up_pos, down_pos, and_l, and_i, round-fits, nan-fits, inf-fits, eq→eqb}
use lib.Ieee.Bits.{nan_bits_above}
use lib.Ieee.Exact.{HasValue}
use lib.Ieee.Scale.{round_same}
use Rattle.spec_arithmetic.specs.Narrow.{narrowed}
use Rattle.tonekit_float.proofs.Order.{yes, no, neg_neg}
use Rattle.tonekit_float.proofs.Monotone.{zero_f, round_neg}
use Rattle.tonekit_float.proofs.Units.{units_of, units_value, zero_exp, to_bits_is}
use Rattle.tonekit_float.proofs.NarrowRound.{L, cut, limit, field_is, power_value, same, beyond}

-- halfway past the largest f32, by its pattern
abbrev half_past : Float
half_past = of_bits binary64 0x47EF_FFFF_F000_0000

-- what is narrowed is an f32
pub narrow_fits : (x : Float) → T (fits binary32 (narrowed x))
unfolding narrowed
narrow_fits nan = nan-fits binary32
narrow_fits (inf s) = inf-fits binary32 s
narrow_fits (fin s m e) = round-fits binary32 s (m * up e) (down e)

abbrev X : Float → ℕ
X x = units_of binary64 x

narrowed_is : (m : ℕ) (e : ℤ) → T (fits binary64 (fin false m e)) → narrowed (fin false m e) ≡ round binary32 false (X (fin false m e)) L
unfolding narrowed
narrowed_is m e h = round_same binary32 false (m * up e) (down e) (X (fin false m e)) L (down_pos e) (pow_pos 1074) (units_value binary64 false m e h).1

units_below : (m : ℕ) (e : ℤ) → T (fits binary64 (fin false m e)) → m * up e * 1 < (2 ^ 25 - 1) * 2 ^ 103 * down e → X (fin false m e) < limit
units_below m e h k =
    let v = (units_value binary64 false m e h).1 in
    lt_of_mul-lt-mul_right (down e)
    (lt_of_le_of_lt (le_of_eq (sym v))
    (lt_of_lt_of_le (mul-lt-mul_of_pos_right (lt_of_le_of_lt (le_of_eq (sym (mul-one (m * up e)))) k) (pow_pos 1074))
    (le_of_eq (mul_right_comm ((2 ^ 25 - 1) * 2 ^ 103) (down e) L))))

units_above : (m : ℕ) (e : ℤ) → T (fits binary64 (fin false m e)) → (2 ^ 25 - 1) * 2 ^ 103 * down e ≤ m * up e * 1 → limit ≤ X (fin false m e)
units_above m e h k =
    let v = (units_value binary64 false m e h).1 in
    le_of_mul-le-mul_right
    (le_trans (le_of_eq (mul_right_comm ((2 ^ 25 - 1) * 2 ^ 103) L (down e)))
    (le_trans (mul-le-mul_right L (le_trans k (le_of_eq (mul-one (m * up e))))) (le_of_eq v))) (down_pos e)

pub record Below (x : Float) : Type 0 where
  pub number : T (not (is_nan x))
  pub value : HasValue x false (X x) L
  pub small : X x < limit
  pub field : to_bits binary64 x / 2 ^ 52 ≡ size (X x) - 52
  pub is : narrowed x ≡ round binary32 false (X x) L

pub below : (x : Float) → T (fits binary64 x) → T (lt zero_f x) → lt x half_past ≡ true → Below x
unfolding lt of_bits is_nan
below nan p g h = absurd g
below (inf true) p g h = absurd g
below (inf false) p g h = absurd (yes h)
below (fin true m e) p g h = absurd g
below (fin false m e) p g h = record {
  number = tt;
  value = units_value binary64 false m e p;
  small = units_below m e p (ltb→lt (m * up e * 1) ((2 ^ 25 - 1) * 2 ^ 103 * down e) (yes h));
  field = ap (λ (b : ℕ). b / 2 ^ 52) (to_bits_is binary64 false m e) ∙ field_is (X (fin false m e));
  is = narrowed_is m e p;
}

pub above : (x : Float) → T (fits binary64 x) → T (lt zero_f x) → lt x half_past ≡ false → inf false ≡ narrowed x
unfolding lt of_bits narrowed
above nan p g h = absurd g
above (inf true) p g h = absurd g
above (inf false) p g h = refl
above (fin true m e) p g h = absurd g
above (fin false m e) p g h = sym (narrowed_is m e p ∙ beyond (X (fin false m e)) (units_above m e p (nltb→le (m * up e * 1) ((2 ^ 25 - 1) * 2 ^ 103 * down e) (no h))))

-- the pattern of the power of two
pub size_small : (x : Float) → Below x → size (X x) ≤ 1202
size_small x b = size-le (X x) 1202 (lt_of_lt_of_le b.small (lit≤ tt))

exponent : (z n r : ℕ) → n ≡ z - 52 → r ≡ n - 897 + 897 → r + 29 ≡ suc (z - 949 + 925)
exponent z n r p q = omega arith

pub result : (x : Float) (r : ℕ) → Below x → r ≡ to_bits binary64 x / 2 ^ 52 - 897 + 897
    → sub binary64 (add binary64 x (of_bits binary64 ((r + 29) * 2 ^ 52))) (of_bits binary64 ((r + 29) * 2 ^ 52)) ≡ narrowed x
result x r b h =
    let e : r + 29 ≡ suc (cut (X x) + 925) = exponent (size (X x)) (to_bits binary64 x / 2 ^ 52) r b.field h in
    let c = of_bits binary64 (suc (cut (X x) + 925) * 2 ^ 52) in
    let z = size_small x b in
    ap (λ (k : ℕ). sub binary64 (add binary64 x (of_bits binary64 (k * 2 ^ 52))) (of_bits binary64 (k * 2 ^ 52))) e
    ∙ same (X x) x c b.small b.value (power_value (cut (X x) + 925) (omega arith))
    ∙ sym b.is

-- what the cast asks
odd_number : (d : ℕ) (s : Bool) (q k l : ℕ) → T (not (is_nan (odd d s q k l)))
unfolding odd is_nan
odd_number d s zero k l = tt
odd_number d s (suc q) k l = tt

units_number : (f : Format) (s : Bool) (q k : ℕ) → T (not (is_nan (units f s q k)))
unfolding units is_nan
units_number f s q k = go (ltb (q * 2 ^ k) (2 ^ (low f + suc (emax f))))
  where
    go : (b : Bool) → T (not (is_nan (cond b (odd (suc (prec f)) s q k (low f)) (inf s))))
    go true = odd_number (suc (prec f)) s q k (low f)
    go false = tt

pub round_number : (f : Format) (s : Bool) (a b : ℕ) → T (not (is_nan (round f s a b)))
unfolding round
round_number f s a b = units_number f s _ _

pub castable : (x y : Float) → Below x → y ≡ narrowed x → T (fits binary32 y && not (is_nan y))
castable x y b h =
    subst (λ (z : Float). T (fits binary32 z && not (is_nan z))) (sym (h ∙ b.is))
    (and_i (fits binary32 (round binary32 false (X x) L)) (not (is_nan (round binary32 false (X x) L))) (round-fits binary32 false (X x) L) (round_number binary32 false (X x) L))

pub below_inf : (n : ℕ) → n ≤ 0x7ff0_0000_0000_0000 → T (not (nan_bits binary64 n))
below_inf n h =
    let l : n < 0x8000_0000_0000_0000 = omega arith in
    subst (λ (b : Bool). T (not b)) (sym (nan_bits_above binary64 n ∙ ap (λ (k : ℕ). ltb 0x7ff0_0000_0000_0000 k) (mod-eq_of_lt l) ∙ le-ltb 0x7ff0_0000_0000_0000 n h)) tt

-- ---- the sign
twice_not : (s : Bool) → not (not s) ≡ s
twice_not true = refl
twice_not false = refl

pub negated : (x : Float) → neg (narrowed (neg x)) ≡ narrowed x
unfolding neg narrowed
negated nan = refl
negated (inf s) = ap inf (twice_not s)
negated (fin s m e) = round_neg binary32 (not s) (m * up e) (down e) ∙ ap (λ (t : Bool). round binary32 t (m * up e) (down e)) (twice_not s)

pub narrow_neg : (x : Float) → narrowed (neg x) ≡ neg (narrowed x)
narrow_neg x = sym (neg_neg (narrowed (neg x))) ∙ ap neg (negated x)

pub turned : (x : Float) → lt x (of_bits binary64 0) ≡ true → T (lt zero_f (neg x))
unfolding lt neg of_bits
turned nan h = absurd (yes h)
turned (inf true) h = tt
turned (inf false) h = absurd (yes h)
turned (fin true m e) h = let k = ltb→lt 0 (m * up e * 1 + 0 * down e) (yes h) in lt→ltb (0 * down e) (m * up e * 1) (omega arith)
turned (fin false m e) h = let k = ltb→lt (m * up e * 1) (0 * down e) (yes h) in absurd (lt_irrefl 0 (omega arith))

-- ---- zeros
never : (m : ℕ) (e : ℤ) → suc m * up e * 1 ≡ 0 * down e → ⊥
never m e h = let p : 0 < suc m * up e = mul-pos (zero-lt-suc m) (up_pos e) in lt_irrefl 0 (omega arith)

zero_casts : (s : Bool) → T (fits binary32 (fin s 0 (pos 0)) && not (is_nan (fin s 0 (pos 0)))) × (fin s 0 (pos 0) ≡ narrowed (fin s 0 (pos 0)))
unfolding fits is_nan narrowed round
zero_casts s = (tt, refl)

pub at_zero : (x : Float) → T (fits binary64 x) → eq x (of_bits binary64 0) ≡ true → T (fits binary32 x && not (is_nan x)) × (x ≡ narrowed x)
unfolding eq of_bits
at_zero nan p h = absurd (yes h)
at_zero (inf s) p h = absurd (yes h)
at_zero (fin s zero e) p h = subst (λ (d : ℤ). T (fits binary32 (fin s 0 d) && not (is_nan (fin s 0 d))) × (fin s 0 d ≡ narrowed (fin s 0 d))) (sym (zero_exp binary64 s e p)) (zero_casts s)
at_zero (fin true (suc m) e) p h = absurd (never m e (eqb→eq (suc m * up e * 1) (0 * down e) (and_l (eqb (suc m * up e * 1) (0 * down e)) (eqb (suc m * up e * 1) 0) (yes h))))
at_zero (fin false (suc m) e) p h = absurd (never m e (eqb→eq (suc m * up e * 1) (0 * down e) (and_l (eqb (suc m * up e * 1) (0 * down e)) true (yes h))))

-- ---- neither above, nor below, nor equal to 0
zero_eq : (s : Bool) (e : ℤ) → T (eq (fin s zero e) (of_bits binary64 0))
unfolding eq of_bits
zero_eq true e = and_i (eqb (0 * up e * 1) (0 * down e)) (eqb (0 * up e * 1) 0) (eq→eqb {a = 0 * up e * 1} {b = 0 * down e} (omega arith)) (eq→eqb {a = 0 * up e * 1} {b = 0} (omega arith))
zero_eq false e = and_i (eqb (0 * up e * 1) (0 * down e)) true (eq→eqb {a = 0 * up e * 1} {b = 0 * down e} (omega arith)) tt

pub at_nan : (x : Float) → lt (of_bits binary64 0) x ≡ false → lt x (of_bits binary64 0) ≡ false → eq x (of_bits binary64 0) ≡ false → nan ≡ narrowed x
unfolding narrowed lt of_bits
at_nan nan a b c = refl
at_nan (inf true) a b c = absurd (no b)
at_nan (inf false) a b c = absurd (no a)
at_nan (fin s zero e) a b c = absurd (T_not (eq (fin s zero e) (of_bits binary64 0)) (no c) (zero_eq s e))
at_nan (fin true (suc m) e) a b c =
    let p : 0 < suc m * up e = mul-pos (zero-lt-suc m) (up_pos e) in
    let k = nltb→le 0 (suc m * up e * 1 + 0 * down e) (no b) in
    absurd (lt_irrefl 0 (omega arith))
at_nan (fin false (suc m) e) a b c =
    let p : 0 < suc m * up e = mul-pos (zero-lt-suc m) (up_pos e) in
    let k = nltb→le (0 * down e) (suc m * up e * 1) (no a) in
    absurd (lt_irrefl 0 (omega arith))

pub positive : (x : Float) → lt (of_bits binary64 0) x ≡ true → T (lt zero_f x)
unfolding of_bits
positive x h = yes h
