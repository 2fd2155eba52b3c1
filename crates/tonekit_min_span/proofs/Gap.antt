-- mid + 2 less mid - 2, each rounded to f64, is 4 or so little less that its f32 is 4: both lie within a tick of 2 ^ -30 of the exact values.
-- Assumes nothing.
use Rattle.std.proofs.Common.{ℕ, ◌+◌, ◌-◌, ◌*◌, ◌^◌, ◌<◌, ◌≤◌, ◌≡◌, T, refl, sym, ◌∙◌, ap, arith, lit≤, add-mul, mul_assoc, mul_comm, mul_left_comm, mul-pos, mul-le-mul_right, le_of_mul-le-mul_right, lt_of_mul-lt-mul_right, pow_pos, pos, false, Float}
use lib.Ieee.{fin, binary32, binary64, round, add, sub, le}
use lib.Ieee.Positive.{den, den_pos}
use lib.Ieee.Scale.{finite}
use Rattle.tonekit_float.proofs.Fraction.{pos_part, neg_part}
use Rattle.tonekit_float.proofs.Order.{Cross, cross_trans, le→under}
use Rattle.tonekit_float.proofs.Monotone.{Rounds, above, rounds_le, add_rounds}
use Rattle.tonekit_float.proofs.Exact.{sub_rounds}
use Rattle.tonekit_float.proofs.Grid.{tick, tick_rounds, tick_is, Among, among}

abbrev two_f : Float
two_f = fin false 1 (pos 1)

abbrev K : ℕ
K = 2 ^ 30

abbrev mark : ℕ
mark = 2 ^ 53

-- from tick u to 2 ^ 32 - 1 ticks further
apart : (p n d q o c u : ℕ) → Cross p n d u mark K → Cross (u + (2 ^ 32 - 1)) mark K q o c → Cross (2 ^ 32 - 1) 0 K (q * d + n * c) (o * d + p * c) (c * d)
apart p n d q o c u h k =
    let x = simp (add-mul, mul_assoc, mul_comm, mul_left_comm) at (mul-le-mul_right c h) in
    let y = simp (add-mul, mul_assoc, mul_comm, mul_left_comm) at (mul-le-mul_right d k) in
    simp (add-mul, mul_assoc, mul_comm, mul_left_comm) (omega (arith, x, y))

-- 4 is the f32 nearest to it
four_rounds : Rounds binary32 (fin false 1 (pos 2)) (2 ^ 32 - 1) 0 K
unfolding round
four_rounds = above (lit≤ tt) refl

module _ (mid : Float) (p : T (finite mid)) (low : neg_part mid ≤ pos_part mid + 8192 * den mid) (high : pos_part mid ≤ neg_part mid + 8192 * den mid) where
  abbrev a : Float
  a = sub binary64 mid two_f

  abbrev b : Float
  b = add binary64 mid two_f

  place : Among mid mark K
  place = among mid mark K (omega arith)

  abbrev w : ℕ
  w = place.w

  w_low : 2 * K ≤ w
  w_low =
      let s = place.strict in
      let l : (mark - 8192 * K) * den mid < (w + 1) * den mid = omega arith in
      let m = lt_of_mul-lt-mul_right (den mid) l in
      omega arith

  w_high : w + 2 * K ≤ mark + mark
  w_high =
      let s = place.from in
      let l : w * den mid ≤ (mark + 8192 * K) * den mid = omega arith in
      let m = le_of_mul-le-mul_right l (den_pos mid) in
      omega arith

  -- the tick at or above mid, less 2; the tick at or below mid, and 2
  abbrev u : ℕ
  u = w + 1 - 2 * K

  u_times : u * den mid + 2 * K * den mid ≡ (w + 1) * den mid
  u_times = let l = w_low in let e : u + 2 * K ≡ w + 1 = omega arith in sym (add-mul u (2 * K) (den mid)) ∙ ap (λ (z : ℕ). z * den mid) e

  a_high : T (le a (tick binary64 30 u))
  a_high =
      let z = place.before in
      let e = u_times in
      rounds_le binary64 a (tick binary64 30 u) _ _ _ u mark K (mul-pos (den_pos mid) (den_pos two_f)) (pow_pos 30) (sub_rounds binary64 mid two_f p tt)
      (tick_rounds binary64 30 u) (omega arith)

  b_low : T (le (tick binary64 30 (u + (2 ^ 32 - 1))) b)
  b_low =
      let z = place.from in
      let l = w_low in
      let e : u + (2 ^ 32 - 1) ≡ w + 2 * K = omega arith in
      let g : (w + 2 * K) * den mid ≡ w * den mid + 2 * K * den mid = add-mul w (2 * K) (den mid) in
      let f : (u + (2 ^ 32 - 1)) * den mid ≡ (w + 2 * K) * den mid = ap (λ (z : ℕ). z * den mid) e in
      rounds_le binary64 (tick binary64 30 (u + (2 ^ 32 - 1))) b (u + (2 ^ 32 - 1)) mark K _ _ _ (pow_pos 30) (mul-pos (den_pos mid) (den_pos two_f))
      (tick_rounds binary64 30 (u + (2 ^ 32 - 1))) (add_rounds binary64 mid two_f p tt) (omega arith)

  -- the f32 difference of the two
  pub four_apart : T (finite a) → T (finite b) → T (le (fin false 1 (pos 2)) (sub binary32 b a))
  four_apart q r =
      let l = w_low in
      let h = w_high in
      let t = tick binary64 30 u in
      let v = tick binary64 30 (u + (2 ^ 32 - 1)) in
      let at_t = tick_is binary64 30 (lit≤ tt) u (omega arith) in
      let at_v = tick_is binary64 30 (lit≤ tt) (u + (2 ^ 32 - 1)) (omega arith) in
      let e = at_t.value in
      let g = at_v.value in
      let A : Cross (pos_part a) (neg_part a) (den a) u mark K = cross_trans (pos_part a) (neg_part a) (den a) (pos_part t) (neg_part t) (den t) u mark K (den_pos t) (le→under a t q at_t.real a_high) (omega arith) in
      let B : Cross (u + (2 ^ 32 - 1)) mark K (pos_part b) (neg_part b) (den b) = cross_trans (u + (2 ^ 32 - 1)) mark K (pos_part v) (neg_part v) (den v) (pos_part b) (neg_part b) (den b) (den_pos v) (omega arith) (le→under v b at_v.real r b_low) in
      rounds_le binary32 (fin false 1 (pos 2)) (sub binary32 b a) (2 ^ 32 - 1) 0 K _ _ _ (pow_pos 30) (mul-pos (den_pos b) (den_pos a)) four_rounds (sub_rounds binary32 b a r q)
      (apart (pos_part a) (neg_part a) (den a) (pos_part b) (neg_part b) (den b) u A B)
