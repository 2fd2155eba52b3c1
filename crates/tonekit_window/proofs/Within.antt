-- The window about a point lies within the frames (`low_in`, `high_in`); what its ends ask as indices.
use Rattle.std.proofs.Common.{ℕ, ◌-◌, ◌≤◌, zero-le, true, false, arith, T, pos, Float}
use lib.Ieee.{fin, binary64, add, sub, mul, le, lt, of_int, of_bits}
use lib.Ieee.Fits.{of_int-fits}
use lib.Ieee.Scale.{finite}
use Rattle.spec_arithmetic.specs.Pick.{lesser}
use Rattle.spec_arithmetic.specs.Bounds.{In}
use Rattle.tonekit_float.proofs.Order.{le_trans_float, between_finite, le_lt}
use Rattle.tonekit_float.proofs.Monotone.{zero_f}
use Rattle.tonekit_float.proofs.Bounds.{in_finite, in_wider, in_add, in_sub, in_mul}
use Rattle.tonekit_float.proofs.Exact.{whole_worth, whole_le, sub_nonneg, sub_no_more, add_nonneg, add_within}
use Rattle.tonekit_float.proofs.Picked.{lesser_finite, lesser_le_left, lesser_le_right, le_lesser, greater_finite, le_greater_right}
use Rattle.spec_arithmetic.specs.Constants.{half, whole64}
use Rattle.spec_arithmetic.specs.Position.{position}
use Rattle.tonekit_contour.proofs.Places.{position_in, position_fits}
use Rattle.spec_shape.specs.Window.{edge, half_width, reach, span_at}
use Rattle.tonekit_window.specs.Promises.{Frame}

-- ---- the window
-- 0.05, and 0.05 n
abbrev share : Float
share = of_bits binary64 0x3fa9_9999_9999_999a

share_in : (n : ℕ) → n ≤ 1024 → In zero_f (fin false 1 (pos 6)) (mul binary64 share (whole64 n))
unfolding of_int of_bits mul le
share_in n h =
    in_wider tt
    (in_mul binary64 {a = share} {b = share} {c = whole64 0} {d = whole64 1024} {x = share} {y = whole64 n} tt tt (record { low = tt; high = tt })
    (record { low = whole_le binary64 0 n zero-le; high = whole_le binary64 n 1024 h }))

last_real : (n : ℕ) → n ≤ 1024 → T (finite (whole64 (n - 1)))
last_real n h = (whole_worth binary64 (n - 1) (omega arith)).real

half_in : (n : ℕ) → n ≤ 1024 → T (finite (half_width n)) × T (le zero_f (half_width n))
unfolding le of_bits half_width
half_in n h =
    let m = mul binary64 share (whole64 n) in
    let p = in_finite {lo = zero_f} {hi = fin false 1 (pos 6)} {x = m} tt (share_in n h) in
    (greater_finite m half p tt, le_trans_float zero_f half (half_width n) tt (le_greater_right m half p tt))

module _ (n k : ℕ) (n-le : n ≤ 1024) (k_le : k ≤ 9) where
  abbrev last : Float
  last = whole64 (n - 1)

  abbrev x : Float
  x = position k (n - 1)

  abbrev w : Float
  w = reach n k

  x_in : In zero_f last x
  x_in = position_in k (n - 1) k_le (omega arith)

  x_real : T (finite x)
  x_real = between_finite zero_f last x tt (last_real n n-le) x_in.low x_in.high

  -- last - x
  rest_nonneg : T (le zero_f (sub binary64 last x))
  rest_nonneg = sub_nonneg binary64 last x (last_real n n-le) x_real x_in.high

  rest_real : T (finite (sub binary64 last x))
  rest_real =
      between_finite zero_f last (sub binary64 last x) tt (last_real n n-le) rest_nonneg
      (sub_no_more binary64 last x (of_int-fits binary64 (pos (n - 1))) (last_real n n-le) x_real x_in.low)

  inner_real : T (finite (lesser (half_width n) x))
  inner_real = lesser_finite (half_width n) x (half_in n n-le).0 x_real

  w_real : T (finite w)
  unfolding reach
  w_real = lesser_finite (lesser (half_width n) x) (sub binary64 last x) inner_real rest_real

  w_nonneg : T (le zero_f w)
  unfolding reach
  w_nonneg =
      le_lesser (lesser (half_width n) x) (sub binary64 last x) inner_real rest_real zero_f
      (le_lesser (half_width n) x (half_in n n-le).0 x_real zero_f (half_in n n-le).1 x_in.low) rest_nonneg

  w_le_x : T (le w x)
  unfolding reach
  w_le_x =
      le_trans_float w (lesser (half_width n) x) x (lesser_le_left (lesser (half_width n) x) (sub binary64 last x) inner_real rest_real)
      (lesser_le_right (half_width n) x (half_in n n-le).0 x_real)

  pub low_in : In zero_f last (span_at n k).low
  low_in = record {
    low = sub_nonneg binary64 x w x_real w_real w_le_x;
    high = le_trans_float (sub binary64 x w) x last (sub_no_more binary64 x w (position_fits k (n - 1)) x_real w_real w_nonneg) x_in.high;
  }

  pub high_in : In zero_f last (span_at n k).high
  unfolding reach
  high_in = record {
    low = add_nonneg binary64 x w x_real w_real x_in.low w_nonneg;
    high = add_within binary64 x w last (position_fits k (n - 1)) (of_int-fits binary64 (pos (n - 1))) x_real w_real (last_real n n-le) x_in.low x_in.high w_le_x
        (lesser_le_right (lesser (half_width n) x) (sub binary64 last x) inner_real rest_real);
  }

pub frame : (n : ℕ) {z : Float} → n ≤ 1024 → In zero_f (whole64 (n - 1)) z → Frame z
unfolding of_int
frame n {z} n-le h = record { low = h.low; high = le_trans_float z (whole64 (n - 1)) (whole64 1023) h.high (whole_le binary64 (n - 1) 1023 (omega arith)) }

pub position_frame : (n k : ℕ) → n ≤ 1024 → k ≤ 9 → Frame (position k (n - 1))
position_frame n k n-le k_le = frame n n-le (position_in k (n - 1) k_le (omega arith))

-- ---- what an index asks: below 2 ^ 53
pub frame_lt : (x : Float) → Frame x → T (lt x (fin false 1 (pos 53)))
unfolding lt
frame_lt x h = le_lt x (fin false 1023 (pos 0)) (fin false 1 (pos 53)) (in_finite tt h) tt tt h.high tt

-- the window's ends, moved by EDGE_EPS
pub low_lt : (x : Float) → Frame x → T (lt (sub binary64 x edge) (fin false 1 (pos 53)))
unfolding lt le sub of_bits
low_lt x h =
    let y = in_wider {lo' = fin true 1 (pos 0)} {hi' = fin false 1 (pos 10)} tt (in_sub binary64 {c = edge} {d = edge} {x = x} {y = edge} tt h (record { low = tt; high = tt })) in
    le_lt (sub binary64 x edge) (fin false 1 (pos 10)) (fin false 1 (pos 53)) (in_finite tt y) tt tt y.high tt

pub high_from : (x : Float) → Frame x → In zero_f (fin false 1 (pos 10)) (add binary64 x edge)
unfolding le add of_bits
high_from x h = in_wider tt (in_add binary64 {c = edge} {d = edge} tt h (record { low = tt; high = tt }))

pub high_lt : (x : Float) → Frame x → T (lt (add binary64 x edge) (fin false 1 (pos 53)))
unfolding lt
high_lt x h = let y = high_from x h in le_lt (add binary64 x edge) (fin false 1 (pos 10)) (fin false 1 (pos 53)) (in_finite tt y) tt tt y.high tt
