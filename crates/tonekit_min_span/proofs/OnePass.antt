-- One push is enough. The floor is the f32 nearest to mid - 2, and a step is at least the gap between f32 values there, so a floor that is pushed down
-- lies at or below mid - 2 in f64 (`down_under`); a ceiling likewise (`up_over`). "There" is by ticks of 1 / 2 ^ k: of the f32 values within H, where
-- H * 2 ^ k = 2 ^ 24. Assumes nothing.
use Rattle.std.proofs.Common.{ℕ, ◌+◌, ◌*◌, ◌^◌, ◌<◌, ◌≤◌, ◌≡◌, T, sym, ◌∙◌, ap, subst, arith, add-mul, mul_assoc, mul_comm, mul_left_comm, mul-pos, mul-le-mul_right, mul-lt-mul_of_pos_right, lt_of_mul-lt-mul_right, pow_pos, Float}
use lib.Ieee.{Format, binary32, neg, add, sub, le}
use lib.Ieee.Positive.{den, den_pos}
use lib.Ieee.Scale.{finite}
use Rattle.spec_arithmetic.specs.Narrow.{narrowed}
use Rattle.tonekit_float.proofs.Fraction.{pos_part, neg_part}
use Rattle.tonekit_float.proofs.Order.{Cross, cross_trans, le→under, under→le, le_trans_float, between_finite, neg_finite, neg_le, neg_neg, flipped}
use Rattle.tonekit_float.proofs.Monotone.{Rounds, rounds_neg, rounds_le, add_rounds, narrow_rounds}
use Rattle.tonekit_float.proofs.Exact.{sub_rounds}
use Rattle.tonekit_float.proofs.Grid.{Is, tick, tick_rounds, tick_is, Among, among}
use Rattle.tonekit_float.proofs.Narrowing.{narrow_neg}

-- ---- a floor that is pushed down
-- F ≤ (w + 1) / K and 1 / K ≤ s give F - s ≤ w / K
less_cross : (p n d q o c w m K : ℕ) → Cross p n d (w + 1) m K → Cross 1 0 K q o c → Cross (p * c + o * d) (n * c + q * d) (d * c) w m K
less_cross p n d q o c w m K h k =
    let x = simp (add-mul, mul_assoc, mul_comm, mul_left_comm) at (mul-le-mul_right c h) in
    let y = simp (add-mul, mul_assoc, mul_comm, mul_left_comm) at (mul-le-mul_right d k) in
    simp (add-mul, mul_assoc, mul_comm, mul_left_comm) (omega (arith, x, y))

-- a lies from -H to below H; s is 1 / 2 ^ k or more
pub record Fine (k H : ℕ) (a s : Float) : Type 0 where
  pub count : H * 2 ^ k ≡ 2 ^ 24
  pub deep : k ≤ 149
  pub a_real : T (finite a)
  pub s_real : T (finite s)
  pub a_low : neg_part a ≤ pos_part a + H * den a
  pub a_high : pos_part a < H * den a + neg_part a
  pub s_low : Cross 1 0 (2 ^ k) (pos_part s) (neg_part s) (den s)

module _ (k H : ℕ) (a s : Float) (h : Fine k H a s) where
  abbrev K : ℕ
  K = 2 ^ k

  abbrev mark : ℕ
  mark = 2 ^ 24

  scale : H * den a * K ≡ mark * den a
  scale = mul_assoc H (den a) K ∙ ap (λ (z : ℕ). H * z) (mul_comm (den a) K) ∙ sym (mul_assoc H K (den a)) ∙ ap (λ (z : ℕ). z * den a) h.count

  place : Among a mark K
  place =
      let x : neg_part a * K ≤ (pos_part a + H * den a) * K = mul-le-mul_right K h.a_low in
      let y : (pos_part a + H * den a) * K ≡ pos_part a * K + H * den a * K = add-mul (pos_part a) (H * den a) K in
      let z = scale in
      among a mark K (omega arith)

  abbrev w : ℕ
  w = place.w

  -- the next tick is still within 2 ^ 24
  w_small : w + 1 ≤ mark + mark
  w_small =
      let x : pos_part a * K < (H * den a + neg_part a) * K = mul-lt-mul_of_pos_right h.a_high (pow_pos k) in
      let y : (H * den a + neg_part a) * K ≡ H * den a * K + neg_part a * K = add-mul (H * den a) (neg_part a) K in
      let z = scale in
      let u = place.from in
      let v : (mark + mark) * den a ≡ mark * den a + mark * den a = add-mul mark mark (den a) in
      let l : w * den a < (mark + mark) * den a = omega arith in
      let m = lt_of_mul-lt-mul_right (den a) l in
      omega arith

  floor_high : T (le (narrowed a) (tick binary32 k (w + 1)))
  floor_high = rounds_le binary32 (narrowed a) (tick binary32 k (w + 1)) _ _ _ (w + 1) mark K (den_pos a) (pow_pos k) (narrow_rounds a h.a_real) (tick_rounds binary32 k (w + 1)) place.before

  floor_low : T (le (tick binary32 k w) (narrowed a))
  floor_low = rounds_le binary32 (tick binary32 k w) (narrowed a) w mark K _ _ _ (pow_pos k) (den_pos a) (tick_rounds binary32 k w) (narrow_rounds a h.a_real) place.from

  at_w : Is (tick binary32 k w) w mark K
  at_w = let z = w_small in tick_is binary32 k h.deep w (omega arith)

  at_next : Is (tick binary32 k (w + 1)) (w + 1) mark K
  at_next = tick_is binary32 k h.deep (w + 1) w_small

  pub floor_real : T (finite (narrowed a))
  floor_real = between_finite (tick binary32 k w) (tick binary32 k (w + 1)) (narrowed a) at_w.real at_next.real floor_low floor_high

  floor_cross : Cross (pos_part (narrowed a)) (neg_part (narrowed a)) (den (narrowed a)) (w + 1) mark K
  floor_cross =
      let t = tick binary32 k (w + 1) in
      let v = at_next.value in
      cross_trans _ _ _ (pos_part t) (neg_part t) (den t) (w + 1) mark K (den_pos t) (le→under (narrowed a) t floor_real at_next.real floor_high) (omega arith)

  pub down_under : T (le (sub binary32 (narrowed a) s) a)
  down_under =
      let t = tick binary32 k w in
      let v = at_w.value in
      le_trans_float (sub binary32 (narrowed a) s) t a
      (rounds_le binary32 (sub binary32 (narrowed a) s) t _ _ _ w mark K (mul-pos (den_pos (narrowed a)) (den_pos s)) (pow_pos k)
      (sub_rounds binary32 (narrowed a) s floor_real h.s_real) (tick_rounds binary32 k w)
      (less_cross (pos_part (narrowed a)) (neg_part (narrowed a)) (den (narrowed a)) (pos_part s) (neg_part s) (den s) w mark K floor_cross h.s_low))
      (under→le t a at_w.real h.a_real (cross_trans (pos_part t) (neg_part t) (den t) w mark K _ _ _ (pow_pos k) (omega arith) place.from))

-- ---- a ceiling that is pushed up: the same, with the signs turned round
same_cross : (p n d q o c : ℕ) → Cross (p * c + q * d) (n * c + o * d) (d * c) (p * c + q * d) (n * c + o * d) (d * c)
same_cross p n d q o c = omega arith

-- -((-x) - s) ≤ x + s, but for a zero's sign an equality
turned : (f : Format) (x s : Float) → T (finite x) → T (finite s) → T (le (neg (sub f (neg x) s)) (add f x s))
turned f x s p q =
    let F = flipped x in
    let r = rounds_neg f (sub f (neg x) s) _ _ _ (sub_rounds f (neg x) s (neg_finite x p) q) in
    let r1 = subst (λ (k : ℕ). Rounds f (neg (sub f (neg x) s)) (k * den s + pos_part s * den (neg x)) (pos_part (neg x) * den s + neg_part s * den (neg x)) (den (neg x) * den s)) F.below r in
    let r2 = subst (λ (k : ℕ). Rounds f (neg (sub f (neg x) s)) (pos_part x * den s + pos_part s * den (neg x)) (k * den s + neg_part s * den (neg x)) (den (neg x) * den s)) F.up r1 in
    let r3 = subst (λ (k : ℕ). Rounds f (neg (sub f (neg x) s)) (pos_part x * den s + pos_part s * k) (neg_part x * den s + neg_part s * k) (k * den s)) F.over r2 in
    rounds_le f (neg (sub f (neg x) s)) (add f x s) _ _ _ _ _ _ (mul-pos (den_pos x) (den_pos s)) (mul-pos (den_pos x) (den_pos s)) r3 (add_rounds f x s p q)
    (same_cross (pos_part x) (neg_part x) (den x) (pos_part s) (neg_part s) (den s))

-- b lies from above -H to H
pub turn_fine : (k H : ℕ) (b s : Float) → H * 2 ^ k ≡ 2 ^ 24 → k ≤ 149 → T (finite b) → T (finite s) → pos_part b ≤ neg_part b + H * den b → neg_part b < H * den b + pos_part b
    → Cross 1 0 (2 ^ k) (pos_part s) (neg_part s) (den s) → Fine k H (neg b) s
turn_fine k H b s c d p q lo hi sl =
    let F = flipped b in
    let u = F.up in
    let v = F.below in
    let o : H * den (neg b) ≡ H * den b = ap (λ (z : ℕ). H * z) F.over in
    record { count = c; deep = d; a_real = neg_finite b p; s_real = q; a_low = omega arith; a_high = omega arith; s_low = sl }

pub up_over : (k H : ℕ) (b s : Float) → Fine k H (neg b) s → T (le b (add binary32 (narrowed b) s))
up_over k H b s h =
    let C = narrowed b in
    let c : T (finite (neg C)) = subst (λ (z : Float). T (finite z)) (narrow_neg b) (floor_real k H (neg b) s h) in
    let cr : T (finite C) = subst (λ (z : Float). T (finite z)) (neg_neg C) (neg_finite (neg C) c) in
    let l : T (le (sub binary32 (neg C) s) (neg b)) = subst (λ (z : Float). T (le (sub binary32 z s) (neg b))) (narrow_neg b) (down_under k H (neg b) s h) in
    let m : T (le b (neg (sub binary32 (neg C) s))) = subst (λ (z : Float). T (le z (neg (sub binary32 (neg C) s)))) (neg_neg b) (neg_le (sub binary32 (neg C) s) (neg b) l) in
    le_trans_float b (neg (sub binary32 (neg C) s)) (add binary32 C s) m (turned binary32 C s cr h.s_real)
