-- The cases of a float by the tests `x > 0.0`, `x < f64::INFINITY` and `x == 0.0`, in this order. Assumes nothing.
use Rattle.std.proofs.Common.{◌≡◌, ℕ, zero, suc, ◌+◌, ◌*◌, ◌<◌, Bool, true, false, ◌&&◌, T, eqb, ℤ, refl, lt_irrefl, zero-lt-suc, mul-pos, arith, eqb→eq, ltb→lt, lt→ltb, T_not, Float}
use lib.Ieee.{nan, inf, fin, up, down, binary64, lt, eq, of_bits}
use lib.Ieee.Fits.{up_pos, and_l, and_i, eq→eqb}
use Rattle.tonekit_float.proofs.Order.{yes, no}
use Rattle.tonekit_float.proofs.Monotone.{zero_f}

-- the tests as the code has them, with 0 and infinity by their patterns
abbrev pub zero64 : Float
zero64 = of_bits binary64 0

abbrev pub inf64 : Float
inf64 = of_bits binary64 0x7ff0_0000_0000_0000

pub positive : (x : Float) → lt zero64 x ≡ true → T (lt zero_f x)
unfolding of_bits
positive x h = yes h

pub limited : (x : Float) → lt x inf64 ≡ true → T (lt x (inf false))
unfolding of_bits
limited x h = yes h

-- ---- above 0 and below infinity
pub record Above (x : Float) : Type 0 where
  pub m : ℕ
  pub e : ℤ
  pub is : x ≡ fin false (suc m) e

pub above : (x : Float) → T (lt zero_f x) → T (lt x (inf false)) → Above x
unfolding lt
above nan g h = absurd g
above (inf true) g h = absurd g
above (inf false) g h = absurd h
above (fin true m e) g h = absurd g
above (fin false zero e) g h = let k = ltb→lt (0 * down e) (0 * up e * 1) g in absurd (lt_irrefl 0 (omega arith))
above (fin false (suc m) e) g h = record { m = m; e = e; is = refl }

-- ---- above 0 and not below infinity
pub at_infinity : (x : Float) → lt zero64 x ≡ true → lt x inf64 ≡ false → x ≡ inf false
unfolding lt of_bits
at_infinity nan g h = absurd (yes g)
at_infinity (inf true) g h = absurd (yes g)
at_infinity (inf false) g h = refl
at_infinity (fin s m e) g h = absurd (no h)

-- ---- a zero
pub record Zero (x : Float) : Type 0 where
  pub s : Bool
  pub e : ℤ
  pub is : x ≡ fin s zero e

never : (m : ℕ) (e : ℤ) (c : Bool) → T (eqb (suc m * up e * 1) (0 * down e) && c) → ⊥
never m e c h =
    let p : 0 < suc m * up e = mul-pos (zero-lt-suc m) (up_pos e) in
    let k = eqb→eq (suc m * up e * 1) (0 * down e) (and_l (eqb (suc m * up e * 1) (0 * down e)) c h) in
    lt_irrefl 0 (omega arith)

pub at_zero : (x : Float) → eq x zero64 ≡ true → Zero x
unfolding eq of_bits
at_zero nan h = absurd (yes h)
at_zero (inf s) h = absurd (yes h)
at_zero (fin s zero e) h = record { s = s; e = e; is = refl }
at_zero (fin true (suc m) e) h = absurd (never m e _ (yes h))
at_zero (fin false (suc m) e) h = absurd (never m e _ (yes h))

-- ---- none of these
zero_eq : (s : Bool) (e : ℤ) → T (eq (fin s zero e) zero64)
unfolding eq of_bits
zero_eq true e = and_i (eqb (0 * up e * 1) (0 * down e)) (eqb (0 * up e * 1) 0) (eq→eqb {a = 0 * up e * 1} {b = 0 * down e} (omega arith)) (eq→eqb {a = 0 * up e * 1} {b = 0} (omega arith))
zero_eq false e = and_i (eqb (0 * up e * 1) (0 * down e)) true (eq→eqb {a = 0 * up e * 1} {b = 0 * down e} (omega arith)) tt

pub above_zero : (m : ℕ) (e : ℤ) → T (lt zero_f (fin false (suc m) e))
unfolding lt
above_zero m e = let p : 0 < suc m * up e = mul-pos (zero-lt-suc m) (up_pos e) in lt→ltb (0 * down e) (suc m * up e * 1) (omega arith)

inf_above : T (lt zero64 (inf false))
unfolding lt of_bits
inf_above = tt

number_above : (m : ℕ) (e : ℤ) → T (lt zero64 (fin false (suc m) e))
unfolding of_bits
number_above m e = above_zero m e

pub data Neither (x : Float) : Type 0 where
  not_number : x ≡ nan → Neither x
  minus_infinity : x ≡ inf true → Neither x
  negative : (m : ℕ) (e : ℤ) → x ≡ fin true (suc m) e → Neither x

pub neither : (x : Float) → lt zero64 x ≡ false → eq x zero64 ≡ false → Neither x
neither nan g h = not_number refl
neither (inf true) g h = minus_infinity refl
neither (inf false) g h = absurd (T_not (lt zero64 (inf false)) (no g) inf_above)
neither (fin s zero e) g h = absurd (T_not (eq (fin s zero e) zero64) (no h) (zero_eq s e))
neither (fin true (suc m) e) g h = negative m e refl
neither (fin false (suc m) e) g h = absurd (T_not (lt zero64 (fin false (suc m) e)) (no g) (number_above m e))

-- a number below 0 is one of these
pub below : (x : Float) → T (lt x zero_f) → Neither x
unfolding lt
below nan h = absurd h
below (inf true) h = minus_infinity refl
below (inf false) h = absurd h
below (fin true zero e) h = let k = ltb→lt 0 (0 * up e * 1 + 0 * down e) h in absurd (lt_irrefl 0 (omega arith))
below (fin true (suc m) e) h = negative m e refl
below (fin false m e) h = let k = ltb→lt (m * up e * 1) (0 * down e) h in absurd (lt_irrefl 0 (omega arith))
