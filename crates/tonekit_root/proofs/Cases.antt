-- What the code of `sqrt` and `root_above` needs, by the cases of x.
use Rattle.std.proofs.Common.{ℕ, suc, zero, ◌+◌, ◌*◌, ◌/◌, ◌%◌, ◌^◌, ◌<◌, ◌≡◌, refl, sym, subst, Bool, true, false, not, lt_irrefl, zero-lt-suc, arith, T, ℤ, Float, to_bits}
use lib.Ieee.{nan, inf, fin, binary64, lt, eq, fits, of_bits, is_nan}
use lib.Ieee.Bits.{of_bits-to_bits}
use lib.Ieee.Exact.{HasValue}
use Rattle.tonekit_float.proofs.Units.{units_value}
use Rattle.tonekit_float.proofs.NarrowRound.{L}
use Rattle.tonekit_float.proofs.Monotone.{zero_f}
use Rattle.tonekit_float.proofs.Patterns.{units_in, units_pos, field_lt, same_value, pattern_lt, normal_value, subnormal_value}
use Rattle.tonekit_float.proofs.Signs as signs
use Rattle.spec_arithmetic.specs.Root.{root_units, root_of}
use Rattle.tonekit_root.specs.Nearest.{Near}

-- ---- a float above 0 and below infinity
pub record Above (x : Float) : Type 0 where
  pub number : T (not (is_nan x))
  pub is : root_of x ≡ root_units (units_in x)
  pub some : 0 < units_in x
  pub value : HasValue x false (units_in x) L
  pub field : to_bits binary64 x / 2 ^ 52 < 2047
  pub back : of_bits binary64 (to_bits binary64 x) ≡ x

root_is : (m : ℕ) (e : ℤ) → root_of (fin false (suc m) e) ≡ root_units (units_in (fin false (suc m) e))
unfolding root_of
root_is m e = refl

at_number : (m : ℕ) (e : ℤ) → T (fits binary64 (fin false (suc m) e)) → Above (fin false (suc m) e)
unfolding is_nan
at_number m e p = record {
  number = tt;
  is = root_is m e;
  some = units_pos m e p;
  value = units_value binary64 false (suc m) e p;
  field = field_lt m e p;
  back = of_bits-to_bits binary64 (fin false (suc m) e) p;
}

pub above : (x : Float) → T (fits binary64 x) → T (lt zero_f x) → T (lt x (inf false)) → Above x
above x p g h =
    let a = signs.above x g h in
    subst Above (sym a.is) (at_number a.m a.e (subst (λ (y : Float). T (fits binary64 y)) a.is p))

pub at_subnormal : (x : Float) → Above x → to_bits binary64 x / 2 ^ 52 ≡ 0 → units_in x ≡ to_bits binary64 x % 2 ^ 52
at_subnormal x a e =
    same_value x (units_in x) (to_bits binary64 x % 2 ^ 52) a.value
    (subst (λ (y : Float). HasValue y false (to_bits binary64 x % 2 ^ 52) L) a.back (subnormal_value (to_bits binary64 x) (pattern_lt (to_bits binary64 x) a.field) e))

pub at_normal : (x : Float) (g : ℕ) → Above x → to_bits binary64 x / 2 ^ 52 ≡ suc g → units_in x ≡ (2 ^ 52 + to_bits binary64 x % 2 ^ 52) * 2 ^ g
at_normal x g a e =
    let b = to_bits binary64 x in
    let l = a.field in
    same_value x (units_in x) ((2 ^ 52 + b % 2 ^ 52) * 2 ^ g) a.value
    (subst (λ (y : Float). HasValue y false ((2 ^ 52 + b % 2 ^ 52) * 2 ^ g) L) a.back (normal_value b g (pattern_lt b l) e (omega arith)))

pub near_pos : (n q : ℕ) → 0 < n → Near n q → 0 < q
near_pos n zero p h = let k = h.upper in absurd (lt_irrefl 0 (omega arith))
near_pos n (suc q) p h = zero-lt-suc q

-- ---- sqrt's other cases
pub at_infinity : (x : Float) → lt signs.zero64 x ≡ true → lt x signs.inf64 ≡ false → x ≡ root_of x
at_infinity x g h = let e = signs.at_infinity x g h in subst (λ (y : Float). y ≡ root_of y) (sym e) itself
  where
    itself : inf false ≡ root_of (inf false)
    itself = unfold root_of in refl

pub at_zero : (x : Float) → eq x signs.zero64 ≡ true → x ≡ root_of x
at_zero x h = let z = signs.at_zero x h in subst (λ (y : Float). y ≡ root_of y) (sym z.is) (itself z.s z.e)
  where
    itself : (s : Bool) (e : ℤ) → fin s zero e ≡ root_of (fin s zero e)
    itself s e = unfold root_of in refl

pub none_of : (x : Float) → signs.Neither x → nan ≡ root_of x
unfolding root_of
none_of x (signs.not_number e) = subst (λ (y : Float). nan ≡ root_of y) (sym e) refl
none_of x (signs.minus_infinity e) = subst (λ (y : Float). nan ≡ root_of y) (sym e) refl
none_of x (signs.negative m k e) = subst (λ (y : Float). nan ≡ root_of y) (sym e) refl

pub at_nan : (x : Float) → lt signs.zero64 x ≡ false → eq x signs.zero64 ≡ false → nan ≡ root_of x
at_nan x g h = none_of x (signs.neither x g h)
