-- extract.rs, `window_mean` and the windows of a contour: the mean of the piecewise-linear curve over a window that narrows at the ends.
use Rattle.std.specs.Prelude.{ℕ, ◌+◌, ◌-◌, cond, List, leb, min, length, get_or, Float}
use Rattle.std.specs.Float.{nan, binary64}
use Rattle.std.specs.Float.Ieee.{add, sub, mul, div, lt, of_bits}
use Rattle.tonekit_core.specs.Loop.{while, range}
use Rattle.spec_arithmetic.specs.Constants.{zero64, half, one64, whole64}
use Rattle.spec_arithmetic.specs.Pick.{lesser, greater}
use Rattle.spec_arithmetic.specs.Whole.{whole_part, round_up}
use Rattle.spec_arithmetic.specs.Narrow.{narrowed}
use Rattle.spec_arithmetic.specs.Position.{position}
use Rattle.spec_shape.specs.Chao.{voiced}
use Rattle.spec_shape.specs.declared.Sweep.{Sweep}
use Rattle.spec_shape.specs.declared.Span.{Span}
use Rattle.spec_shape.specs.declared.FrameRange.{FrameRange}

-- EDGE_EPS 1e-9
abbrev pub edge : Float
edge = of_bits binary64 0x3e11_2e0b_e826_d695

-- half the window's width in a part of n frames, WINDOW_FRACTION 0.05 of them and at least MIN_HALF_WINDOW 0.5; and as it narrows about point k
unfoldable pub half_width : ℕ → Float
half_width n = greater (mul binary64 (of_bits binary64 0x3fa9_9999_9999_999a) (whole64 n)) half

unfoldable pub reach : ℕ → ℕ → Float
reach n k = lesser (lesser (half_width n) (position k (n - 1))) (sub binary64 (whole64 (n - 1)) (position k (n - 1)))

abbrev pub span_at : ℕ → ℕ → Span
span_at n k = record { low = sub binary64 (position k (n - 1)) (reach n k); high = add binary64 (position k (n - 1)) (reach n k) }

-- the curve at time t: between frame i, the last but one at the most, and the next
unfoldable pub curve_at : List Float → Float → Float
curve_at l t =
    let i = min (whole_part t) (length l - 2) in
    let f = sub binary64 t (whole64 i) in
    add binary64 (mul binary64 (get_or l i nan) (sub binary64 one64 f)) (mul binary64 (get_or l (i + 1) nan) f)

-- one trapezoid: to a time, and the curve there
abbrev pub moved_to : Sweep → Float → Float → Sweep
moved_to s t1 v1 = record {
  t0 = t1;
  v0 = v1;
  next = add binary64 s.next one64;
  area = add binary64 s.area (mul binary64 (mul binary64 half (add binary64 s.v0 v1)) (sub binary64 t1 s.t0));
}

unfoldable pub step_of : List Float → Float → Sweep → Sweep
step_of l b s = let t1 = lesser s.next b in moved_to s t1 (curve_at l t1)

-- `while t0 < b`, with at most 1,100 turns; a theorem says that its own test ends it
abbrev pub walk_of : List Float → Float → Float → Sweep
walk_of l a b =
    while (λ s. lt s.t0 b) (step_of l b) 1100
    (record { t0 = a; v0 = curve_at l a; next = add binary64 (whole64 (whole_part a)) one64; area = zero64 })

-- `window_mean`: the curve's value where the window is a point
unfoldable pub mean_over : List Float → Span → Float
mean_over l s =
    cond (lt (sub binary64 s.high s.low) edge) (curve_at l s.low)
    (div binary64 (walk_of l s.low s.high).area (sub binary64 s.high s.low))

-- `x.round() as usize` of an x that is not negative: a half goes up
unfoldable pub rounded : Float → ℕ
rounded x = let w = whole_part x in cond (lt (sub binary64 x (whole64 w)) half) w (w + 1)

-- the frames inside a window, from the first to the last; where there is none, the nearest
unfoldable pub frames_at : ℕ → ℕ → FrameRange
frames_at n k =
    let low = round_up (sub binary64 (span_at n k).low edge) in
    let high = min (whole_part (add binary64 (span_at n k).high edge)) (n - 1) in
    let nearest = min (rounded (position k (n - 1))) (n - 1) in
    cond (leb low high) (record { from = low; to = high }) (record { from = nearest; to = nearest })

-- voiced weight k: the share of those frames that are truly voiced
abbrev pub weight_at : List ℕ → ℕ → ℕ → ℕ → Float
weight_at frames first n k =
    let r = frames_at n k in
    narrowed (div binary64 (whole64 (range (λ j c. cond (voiced frames (first + j)) (c + 1) c) r.from (r.to + 1) 0)) (whole64 (r.to - r.from + 1)))
