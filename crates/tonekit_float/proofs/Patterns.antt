-- An f64 by the fields of its pattern, and by its number of units of 2 ^ -1074. Assumes nothing.
use Rattle.std.proofs.Common.{◌≡◌, ℕ, suc, ◌+◌, ◌-◌, ◌*◌, ◌/◌, ◌%◌, ◌^◌, ◌<◌, Bool, false, cond, T, eqb, ℤ, sym, refl, ap, ◌∙◌, subst, le_trans, le_of_eq, lt_of_lt_of_le, lt_of_le_of_lt, mul-le-mul_right, mod-eq_of_lt, zero-lt-suc, lt_of_mul-lt-mul_right, mul-lt-mul_of_pos_right, mul-pos, one-mul, zero-mul, mul-one, mul_right_comm, mul-div_cancel, arith, pow_pos, ne_eqb, Float, to_bits}
use native.Mathlib.Nat.{eq_of_mul-eq-mul_right}
use borrow.Author.Tests.{lt-leb}
use lib.Ieee.{nan, inf, fin, up, down, binary64, size, of_bits, of_fields, odd, fits}
use lib.Ieee.Digits.{size-le}
use lib.Ieee.Fits.{down_pos, up_pos}
use lib.Ieee.Exact.{HasValue, odd_sign}
use Rattle.tonekit_float.proofs.Units.{units_of, units_value, to_bits_is, size_shift, size_gt}
use Rattle.tonekit_float.proofs.NarrowRound.{L, fields, field_is}
use Rattle.tonekit_float.proofs.Exact.{held}

pub L-pos : 0 < L
L-pos = pow_pos 1074

abbrev pub units_in : Float → ℕ
units_in x = units_of binary64 x

-- a value by another fraction that is equal
pub rescale : (x : Float) (s : Bool) (w l a den : ℕ) → 0 < l → a * l ≡ w * den → HasValue x s w l → HasValue x s a den
rescale nan s w l a den p h v = v
rescale (inf t) s w l a den p h v = v
rescale (fin t m e) s w l a den p h v = (
  v.0,
  eq_of_mul-eq-mul_right l p (m * up e * den) (a * down e)
      (mul_right_comm (m * up e) den l ∙ ap (λ (x : ℕ). x * den) v.1 ∙ mul_right_comm w (down e) den ∙ ap (λ (x : ℕ). x * down e) (sym h) ∙ mul_right_comm a l (down e)),
)

-- ---- a pattern with the sign clear
fields_at : (b : ℕ) → b < 2 ^ 63 → of_bits binary64 b ≡ of_fields binary64 false (b / 2 ^ 52) (b % 2 ^ 52)
fields_at b h =
    fields b
    ∙ ap (λ (t : Bool). of_fields binary64 t (b % 2 ^ 63 / 2 ^ 52) (b % 2 ^ 52)) (lt-leb (2 ^ 63) b h)
    ∙ ap (λ (n : ℕ). of_fields binary64 false (n / 2 ^ 52) (b % 2 ^ 52)) (mod-eq_of_lt h)

not_all : (g : ℕ) → g < 2046 → suc g ≡ 2047 → ⊥
not_all g h e = omega arith

at_field : (g t : ℕ) → g < 2046 → of_fields binary64 false (suc g) t ≡ odd 53 false (2 ^ 52 + t) g 1074
unfolding of_fields
at_field g t h = ap (λ (b : Bool). cond b (cond (eqb t 0) (inf false) nan) (odd 53 false (2 ^ 52 + t) g 1074)) (ne_eqb (suc g) 2047 (not_all g h))

at_none : (t : ℕ) → of_fields binary64 false 0 t ≡ odd 53 false t 0 1074
unfolding of_fields
at_none t = refl

pub normal_value : (b g : ℕ) → b < 2 ^ 63 → b / 2 ^ 52 ≡ suc g → g < 2046 → HasValue (of_bits binary64 b) false ((2 ^ 52 + b % 2 ^ 52) * 2 ^ g) L
normal_value b g h e l =
    subst (λ (x : Float). HasValue x false ((2 ^ 52 + b % 2 ^ 52) * 2 ^ g) L)
    (sym (fields_at b h ∙ ap (λ (n : ℕ). of_fields binary64 false n (b % 2 ^ 52)) e ∙ at_field g (b % 2 ^ 52) l))
    (odd_sign 53 false (2 ^ 52 + b % 2 ^ 52) g 1074)

pub subnormal_value : (b : ℕ) → b < 2 ^ 63 → b / 2 ^ 52 ≡ 0 → HasValue (of_bits binary64 b) false (b % 2 ^ 52) L
subnormal_value b h e =
    subst (λ (n : ℕ). HasValue (of_bits binary64 b) false n L) (mul-one (b % 2 ^ 52))
    (subst (λ (x : Float). HasValue x false (b % 2 ^ 52 * 2 ^ 0) L)
    (sym (fields_at b h ∙ ap (λ (n : ℕ). of_fields binary64 false n (b % 2 ^ 52)) e ∙ at_none (b % 2 ^ 52)))
    (odd_sign 53 false (b % 2 ^ 52) 0 1074))

-- ---- a power of two by its pattern
div_lit : (g : ℕ) → suc g * 4503599627370496 / 4503599627370496 ≡ suc g
div_lit g = omega arith

mod_lit : (g : ℕ) → suc g * 4503599627370496 % 4503599627370496 ≡ 0
mod_lit g = omega arith

small_lit : (g : ℕ) → g < 2046 → suc g * 4503599627370496 < 9223372036854775808
small_lit g h = omega arith

pub power_value : (g : ℕ) → g < 2046 → HasValue (of_bits binary64 (suc g * 2 ^ 52)) false (2 ^ 52 * 2 ^ g) L
power_value g h =
    subst (λ (t : ℕ). HasValue (of_bits binary64 (suc g * 2 ^ 52)) false ((2 ^ 52 + t) * 2 ^ g) L) (mod_lit g)
    (normal_value (suc g * 2 ^ 52) g (small_lit g h) (div_lit g) h)

-- ---- the units of a float
pub same_value : (y : Float) (A B : ℕ) → HasValue y false A L → HasValue y false B L → A ≡ B
same_value nan A B v w = absurd v
same_value (inf s) A B v w = absurd v
same_value (fin s m e) A B v w = eq_of_mul-eq-mul_right (down e) (down_pos e) A B (sym v.1 ∙ w.1)

pub units_are : (m : ℕ) (e : ℤ) (X : ℕ) → T (fits binary64 (fin false m e)) → HasValue (fin false m e) false X L → units_in (fin false m e) ≡ X
units_are m e X p v = same_value (fin false m e) (units_in (fin false m e)) X (units_value binary64 false m e p) v

pub units_lt : (m : ℕ) (e : ℤ) → T (fits binary64 (fin false (suc m) e)) → units_in (fin false (suc m) e) < 2 ^ 2098
units_lt m e p =
    lt_of_mul-lt-mul_right (down e)
    (lt_of_le_of_lt (le_of_eq (sym (units_value binary64 false (suc m) e p).1))
    (lt_of_lt_of_le (mul-lt-mul_of_pos_right (held binary64 false (suc m) e p).small (pow_pos 1074)) (le_of_eq (mul_right_comm (2 ^ 1024) (down e) L))))

pub units_pos : (m : ℕ) (e : ℤ) → T (fits binary64 (fin false (suc m) e)) → 0 < units_in (fin false (suc m) e)
units_pos m e p =
    lt_of_mul-lt-mul_right (down e)
    (lt_of_le_of_lt (le_of_eq (zero-mul (down e)))
    (lt_of_lt_of_le (mul-pos (mul-pos (zero-lt-suc m) (up_pos e)) (pow_pos 1074)) (le_of_eq (units_value binary64 false (suc m) e p).1)))

-- ---- the exponent's field
pub field_of : (m : ℕ) (e : ℤ) → to_bits binary64 (fin false m e) / 2 ^ 52 ≡ size (units_in (fin false m e)) - 52
field_of m e = ap (λ (b : ℕ). b / 2 ^ 52) (to_bits_is binary64 false m e) ∙ field_is (units_in (fin false m e))

pub field_lt : (m : ℕ) (e : ℤ) → T (fits binary64 (fin false (suc m) e)) → to_bits binary64 (fin false (suc m) e) / 2 ^ 52 < 2047
field_lt m e p = let z = size-le (units_in (fin false (suc m) e)) 2098 (units_lt m e p) in lt_of_le_of_lt (le_of_eq (field_of (suc m) e)) (omega arith)

pub pattern_lt : (b : ℕ) → b / 4503599627370496 < 2047 → b < 9223372036854775808
pattern_lt b h = omega arith

-- ---- digits, with zeros behind them
above_shift : (z t y : ℕ) → y ≡ z - t → t < z → z ≡ y + t
above_shift z t y e h = omega arith

pub size_shl : (a t : ℕ) → 0 < a → size (a * 2 ^ t) ≡ size a + t
size_shl a t p =
    above_shift (size (a * 2 ^ t)) t (size a) (ap size (sym (mul-div_cancel a (pow_pos t))) ∙ size_shift (a * 2 ^ t) t)
    (size_gt (a * 2 ^ t) t (le_trans (le_of_eq (sym (one-mul (2 ^ t)))) (mul-le-mul_right (2 ^ t) p)))
