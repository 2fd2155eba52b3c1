-- The mean of a curve over a window, where the curve's values are within 60,001. At a time between two frames the curve is bounded by both (crudely: of
-- the part of a frame it is only used that it is within 2,045); so is each trapezoid, and the area grows by one a turn, of which there are at most 1,100.
-- A mean that is a quotient is over a window of at least 1e-9, so it is within 2 ^ 90, which is finite in f32.
use Rattle.std.proofs.Common.{sym, refl, subst, false, true, ℕ, ◌+◌, ◌-◌, ◌*◌, ◌^◌, ◌<◌, ◌≤◌, ◌≡◌, T, Bool, cond, List, length, get_or, arith, lit≤, Float}
use Rattle.std.specs.Prelude.{pos, min}
use lib.Ieee.{fin, nan, binary64, add, sub, mul, div, neg, le, lt, eq, fits, of_bits, of_int, round}
use lib.Ieee.Scale.{finite}
use Rattle.tonekit_core.proofs.LoopLaws.{while_keeps}
use Rattle.spec_arithmetic.specs.Constants.{zero64, half, one64, whole64}
use Rattle.spec_arithmetic.specs.Pick.{lesser}
use Rattle.spec_arithmetic.specs.Bounds.{In}
use Rattle.spec_arithmetic.specs.Narrow.{narrowed}
use Rattle.spec_arithmetic.specs.Whole.{whole_part}
use Rattle.spec_shape.specs.declared.Sweep.{Sweep}
use Rattle.spec_shape.specs.Window.{edge, curve_at, moved_to, step_of, walk_of, mean_over}
use Rattle.tonekit_float.proofs.Monotone.{zero_f}
use Rattle.tonekit_float.proofs.Order.{le_trans_float, not-lt→le}
use Rattle.tonekit_float.proofs.Bounds.{in_finite, in_wider, in_narrow}
use Rattle.tonekit_float.proofs.Exact.{whole_worth}
use Rattle.tonekit_float.proofs.Picked.{le_lesser, lesser_le_right}
use Rattle.tonekit_float.proofs.Fraction.{Within}
use Rattle.tonekit_float.proofs.Size.{within_lit, within_whole, within_more, within_add, within_sub, within_mul, within_in, in_within, in_div_power}
use Rattle.tonekit_contour.proofs.Places.{whole_nonneg}
use Rattle.tonekit_window.proofs.Walk.{part_small, next_whole}
use Rattle.tonekit_window.specs.Promises.{Frame}
use Rattle.tonekit_measured.proofs.Sized.{Sized}

time_within : (t : Float) → Frame t → Within 1023 t
time_within t h = in_within (within_lit 1023 (fin false 0 (pos 0)) tt) (within_lit 1023 (fin false 1023 (pos 0)) tt) h

one_within : Within 1 one64
unfolding of_bits
one_within = within_lit 1 one64 tt

half_within : Within 1 half
unfolding of_bits
half_within = within_lit 1 half tt

zero_within : Within 0 zero64
unfolding of_bits
zero_within = within_lit 0 zero64 tt

-- bounds of the curve between two frames, of a trapezoid, and of the whole area
abbrev between : ℕ
between = 60001 * 2046 + 60001 * 2045

abbrev trapezoid : ℕ
trapezoid = (between + between) * 2046

abbrev most : ℕ
most = 1100 * trapezoid

abbrev Bounded : Float → Type 0
Bounded x = In (fin true 1 (pos 90)) (fin false 1 (pos 90)) x

module _ (l : List Float) (some : 2 ≤ length l) (few : length l ≤ 1024) (held : Sized 60001 l) where
  point_within : (t : Float) (i : ℕ) → Frame t → i ≤ length l - 2
      → Within between (add binary64 (mul binary64 (get_or l i nan) (sub binary64 one64 (sub binary64 t (whole64 i)))) (mul binary64 (get_or l (i + 1) nan) (sub binary64 t (whole64 i))))
  point_within t i T h =
      let w = within_more {n = 1022} (omega arith) (within_whole binary64 i (omega arith)) in
      let f = within_sub binary64 (lit≤ tt) (time_within t T) w in
      within_add binary64 (lit≤ tt) (within_mul binary64 (lit≤ tt) (held i (omega arith)) (within_sub binary64 (lit≤ tt) one_within f)) (within_mul binary64 (lit≤ tt) (held (i + 1) (omega arith)) f)

  curve_within : (t : Float) → Frame t → Within between (curve_at l t)
  unfolding curve_at
  curve_within t T = point_within t (min (whole_part t) (length l - 2)) T (omega arith)

  -- ---- the walk
  module _ (a b : Float) (A : Frame a) (B : Frame b) where
    record Walked (k : ℕ) (s : Sweep) : Type 0 where
      pub time : Frame s.t0
      pub value : Within between s.v0
      pub at : ℕ
      pub next_is : s.next ≡ whole64 at
      pub near : at ≤ 1024 + k
      pub area : Within (k * trapezoid) s.area

    next_time : (x : Float) (at : ℕ) → at ≤ 2 ^ 53 → x ≡ whole64 at → Frame (lesser x b)
    next_time x at h e =
        let w : T (finite x) = subst (λ (z : Float). T (finite z)) (sym e) (whole_worth binary64 at h).real in
        let n : T (le zero_f x) = subst (λ (z : Float). T (le zero_f z)) (sym e) (whole_nonneg at) in
        let q = in_finite tt B in
        record { low = le_lesser x b w q zero_f n B.low; high = le_trans_float (lesser x b) b (fin false 1023 (pos 0)) (lesser_le_right x b w q) B.high }

    turn : (k : ℕ) (s : Sweep) → k < 1100 → Walked k s → Walked (k + 1) (step_of l b s)
    unfolding step_of
    turn k s h W =
        let near = W.near in
        let t1 = lesser s.next b in
        let T1 = next_time s.next W.at (omega arith) W.next_is in
        let v1 = curve_within t1 T1 in
        let height = within_mul binary64 (lit≤ tt) half_within (within_add binary64 (lit≤ tt) W.value v1) in
        let width = within_sub binary64 (lit≤ tt) (time_within t1 T1) (time_within s.t0 W.time) in
        let e : k * trapezoid + trapezoid ≡ (k + 1) * trapezoid = omega arith in
        record {
          time = T1;
          value = v1;
          at = W.at + 1;
          next_is = next_whole s.next W.at (omega arith) W.next_is;
          near = omega arith;
          area = subst (λ (n : ℕ). Within n (moved_to s t1 (curve_at l t1)).area) e (within_add binary64 (omega arith) W.area (within_mul binary64 (lit≤ tt) height width));
        }

    start : Walked 0 (record { t0 = a; v0 = curve_at l a; next = add binary64 (whole64 (whole_part a)) one64; area = zero64 })
    start =
        let small = part_small a A in
        record { time = A; value = curve_within a A; at = whole_part a + 1; next_is = next_whole (whole64 (whole_part a)) (whole_part a) (omega arith) refl; near = omega arith; area = zero_within }

    area_within : Within most (walk_of l a b).area
    area_within =
        let w = while_keeps (λ (s : Sweep). lt s.t0 b) (step_of l b) Walked 1100 turn _ start in
        let k = w.1 in
        within_more (omega arith) w.2.area

    -- ---- the mean
    width_real : T (finite (sub binary64 b a))
    width_real = (within_sub binary64 (lit≤ tt) (time_within b B) (time_within a A)).real

    quotient_in : lt (sub binary64 b a) edge ≡ false → Bounded (div binary64 (walk_of l a b).area (sub binary64 b a))
    unfolding of_bits fits
    quotient_in e =
        in_div_power binary64 (2 ^ 30) 90 edge (sub binary64 b a) tt tt (lit≤ tt) area_within width_real (not-lt→le (sub binary64 b a) edge width_real tt e)

    point_in : Bounded (curve_at l a)
    unfolding of_int le lt eq neg
    point_in = in_wider tt (within_in binary64 {n = between} (lit≤ tt) (curve_within a A))

    mean_in : Bounded (mean_over l (record { low = a; high = b }))
    unfolding mean_over
    mean_in = go (lt (sub binary64 b a) edge) refl
      where
        go : (c : Bool) → lt (sub binary64 b a) edge ≡ c → Bounded (cond c (curve_at l a) (div binary64 (walk_of l a b).area (sub binary64 b a)))
        go true e = point_in
        go false e = quotient_in e

    pub mean_finite : T (finite (narrowed (mean_over l (record { low = a; high = b }))))
    unfolding narrowed round
    mean_finite = in_finite {lo = narrowed (fin true 1 (pos 90))} {hi = narrowed (fin false 1 (pos 90))} tt (in_narrow tt mean_in)
