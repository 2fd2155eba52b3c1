-- v·LOG2E + 0.5 lies from -1022 to 1022 for a v from -708 to 708. Assumes nothing.
use Rattle.std.proofs.Common.{◌≡◌, ℕ, ◌+◌, ◌-◌, ◌*◌, ◌/◌, ◌^◌, ◌<◌, ◌≤◌, true, false, not, ◌&&◌, T, pos, neg_ℤ, sym, ap, div-lt_iff_lt-mul, arith, lt→ltb, nltb→le, Float}
use native.Mathlib.Nat.{div-eq_of_lt, min-eq_left}
use lib.Ieee.{nan, inf, fin, binary64, up, down, round, neg, add, mul, lt, le, eq, is_nan, of_bits, to_unsigned}
use lib.Ieee.Fits.{down_pos, and_l, and_r}
use lib.Ieee.Scale.{finite}
use Rattle.spec_arithmetic.specs.Bounds.{In}
use Rattle.tonekit_float.proofs.Order.{no, le→under, not-lt→le}
use Rattle.tonekit_float.proofs.Monotone.{zero_f, mul_le_left, add_le}
use Rattle.tonekit_float.proofs.Bounds.{in_finite, in_wider}
use Rattle.spec_arithmetic.specs.Constants.{LOG2E, half, bound}
use Rattle.spec_arithmetic.specs.Exp.{floor_of}

abbrev pub by_log2e : Float → Float
by_log2e v = add binary64 (mul binary64 v LOG2E) half

-- ---- v
bound_finite : T (finite bound) × T (finite (neg bound))
unfolding of_bits neg
bound_finite = (tt, tt)

pub inside : (v : Float) → is_nan v ≡ false → lt v (neg bound) ≡ false → lt bound v ≡ false → In (neg bound) bound v
inside nan a b c = unfold is_nan in absurd (no a)
inside (inf true) a b c = unfold lt neg of_bits in absurd (no b)
inside (inf false) a b c = unfold lt of_bits in absurd (no c)
inside (fin s m e) a b c = record {
  low = not-lt→le (fin s m e) (neg bound) tt bound_finite.1 b;
  high = not-lt→le bound (fin s m e) bound_finite.0 tt c;
}

-- ---- v·LOG2E + 0.5 keeps the order, so it lies between its values at the ends
factor : T (finite LOG2E) × T (le zero_f LOG2E) × T (finite half) × T (le half half)
unfolding of_bits le lt eq
factor = (tt, tt, tt, tt)

ends : T (finite (neg bound) && finite bound) × T (finite (mul binary64 (neg bound) LOG2E) && finite (mul binary64 bound LOG2E))
unfolding of_bits neg mul round
ends = (tt, tt)

pub keeps : (x y : Float) → T (finite x) → T (finite y) → T (finite (mul binary64 x LOG2E)) → T (finite (mul binary64 y LOG2E)) → T (le x y) → T (le (by_log2e x) (by_log2e y))
keeps x y X Y A B l =
    add_le binary64 (mul binary64 x LOG2E) (mul binary64 y LOG2E) half half A B factor.2 factor.2
    (mul_le_left binary64 x y LOG2E X Y factor.0 factor.1 l) factor.3

times_in : (v : Float) → In (neg bound) bound v → In (mul binary64 (neg bound) LOG2E) (mul binary64 bound LOG2E) (mul binary64 v LOG2E)
times_in v h =
    let F = in_finite ends.0 h in
    record {
      low = mul_le_left binary64 (neg bound) v LOG2E bound_finite.1 F factor.0 factor.1 h.low;
      high = mul_le_left binary64 v bound LOG2E F bound_finite.0 factor.0 factor.1 h.high;
    }

pub v_finite : (v : Float) → In (neg bound) bound v → T (finite v)
v_finite v h = in_finite ends.0 h

pub times_finite : (v : Float) → In (neg bound) bound v → T (finite (mul binary64 v LOG2E))
times_finite v h = in_finite ends.1 (times_in v h)

turned : (v : Float) → In (neg bound) bound v → In (by_log2e (neg bound)) (by_log2e bound) (by_log2e v)
turned v h =
    let lo = neg bound in
    let F = v_finite v h in
    let W = times_finite v h in
    let at_low = and_l (finite (mul binary64 lo LOG2E)) (finite (mul binary64 bound LOG2E)) ends.1 in
    let at_high = and_r (finite (mul binary64 lo LOG2E)) (finite (mul binary64 bound LOG2E)) ends.1 in
    record { low = keeps lo v bound_finite.1 F at_low W h.low; high = keeps v bound F bound_finite.0 W at_high h.high }

-- 1022
abbrev pub most : Float
most = fin false 511 (pos 1)

wide : T (le (neg most) (by_log2e (neg bound)) && le (by_log2e bound) most)
unfolding of_bits neg mul add round le lt eq
wide = tt

pub between : (v : Float) → In (neg bound) bound v → In (neg most) most (by_log2e v)
between v h = in_wider wide (turned v h)

most_finite : T (finite (neg most) && finite most)
unfolding neg
most_finite = tt

pub turns_finite : (v : Float) → In (neg bound) bound v → T (finite (by_log2e v))
turns_finite v h = in_finite most_finite (between v h)

pub no_deeper : (v : Float) → In (neg bound) bound v → T (le (fin true 511 (pos 1)) (by_log2e v))
unfolding neg
no_deeper v h = (between v h).low

-- ---- a t that is not below 0: its whole part
pub record Up (t : Float) : Type 0 where
  pub low : T (lt (fin true 1 (pos 0)) t)
  pub high : T (lt t (fin false 1 (pos 64)))
  pub floor : floor_of t ≡ pos (to_unsigned 64 t)
  pub few : to_unsigned 64 t ≤ 1022

at_least_0 : (t : Float) → T (finite t) → T (not (lt t zero_f)) → T (le t most) → Up t
unfolding lt floor_of to_unsigned
at_least_0 nan p g h = absurd p
at_least_0 (inf s) p g h = absurd p
at_least_0 (fin true m e) p g h =
    let z = nltb→le 0 (m * up e * 1 + 0 * down e) g in
    let D = down_pos e in
    record {
      low = lt→ltb (m * up e * 1) (1 * down e) (omega arith);
      high = lt→ltb 0 (m * up e * 1 + 1 * 2 ^ 64 * down e) (omega arith);
      floor = ap (λ (k : ℕ). neg_ℤ (pos k)) (none (m * up e + (down e - 1)) (down e) (omega arith));
      few = omega arith;
    }
  where
    none : (a D : ℕ) → a < D → a / D ≡ 0
    none a D h = div-eq_of_lt h
at_least_0 (fin false m e) p g h =
    let D = down_pos e in
    let k = le→under (fin false m e) most tt tt h in
    let q : m * up e / down e < 1023 = (div-lt_iff_lt-mul D).1 (omega arith) in
    let c : to_unsigned 64 (fin false m e) ≡ m * up e / down e = min-eq_left (omega arith) in
    record {
      low = lt→ltb 0 (1 * down e + m * up e * 1) (omega arith);
      high = lt→ltb (m * up e * 1) (1 * 2 ^ 64 * down e) (omega arith);
      floor = ap pos (sym c);
      few = omega (arith, c, q);
    }

pub upward : (t : Float) → T (le (fin true 511 (pos 1)) t) → T (le t most) → T (not (lt t zero_f)) → Up t
unfolding neg
upward t l h g = at_least_0 t (in_finite most_finite (record { low = l; high = h })) g h
