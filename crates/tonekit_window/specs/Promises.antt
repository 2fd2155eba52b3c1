-- What the code promises of times, windows and sweeps, beside the definitions.
use Rattle.std.specs.Prelude.{ℕ, ◌+◌, ◌-◌, ◌≤◌, ◌<◌, ◌≡◌, Bool, false, cond, List, length, pos, Float}
use Rattle.std.specs.Float.{fin}
use Rattle.std.specs.Float.Ieee.{lt}
use Rattle.tonekit_core.specs.Loop.{range}
use Rattle.spec_arithmetic.specs.Bounds.{In}
use Rattle.spec_arithmetic.specs.Narrow.{narrowed}
use Rattle.spec_shape.specs.Chao.{voiced}
use Rattle.spec_arithmetic.specs.Constants.{whole64}
use Rattle.spec_shape.specs.declared.Sweep.{Sweep}
use Rattle.spec_shape.specs.declared.Span.{Span}
use Rattle.spec_shape.specs.declared.FrameRange.{FrameRange}
use Rattle.spec_shape.specs.Window.{span_at, mean_over, walk_of, frames_at}

-- from frame 0 to frame 1,023, the last that a part can have
abbrev pub Frame : Float → Type 0
Frame x = In (fin false 0 (pos 0)) (fin false 1023 (pos 0)) x

-- the window about point k of ten in n frames: it lies within the frames
pub record Spans (n k : ℕ) (r : Span) : Type 0 where
  pub is : r ≡ span_at n k
  pub low_in : In (fin false 0 (pos 0)) (whole64 (n - 1)) r.low
  pub high_in : In (fin false 0 (pos 0)) (whole64 (n - 1)) r.high

-- the frames inside it: frames of the part, at least one
pub record Framed (n k : ℕ) (r : FrameRange) : Type 0 where
  pub is : r ≡ frames_at n k
  pub some : r.from ≤ r.to
  pub inside : r.to < n

abbrev pub unswept : Float → Sweep → Bool
unswept b s = lt s.t0 b

-- what the walk leaves where its own test has ended it
pub record Swept (l : List Float) (a b : Float) (s : Sweep) : Type 0 where
  pub is : s ≡ walk_of l a b
  pub ended : unswept b s ≡ false

-- contour point k
abbrev pub contour_at : List Float → ℕ → Float
contour_at l k = narrowed (mean_over l (span_at (length l) k))

-- how many of the frames of a range are voiced
abbrev pub voiced_in : List ℕ → ℕ → FrameRange → ℕ
voiced_in frames first r = range (λ j c. cond (voiced frames (first + j)) (c + 1) c) r.from (r.to + 1) 0
