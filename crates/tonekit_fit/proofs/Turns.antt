-- The turns of the loops over a grid.
use Rattle.std.proofs.Common.{ℕ, [], cond, List, get_or, set, Float}
use lib.Ieee.{binary64, sub, mul, lt, of_bits}
use Rattle.tonekit_core.specs.Loop.{Turn, stop, next}
use Rattle.spec_arithmetic.specs.Constants.{zero64}
use Rattle.spec_arithmetic.specs.Magnitude.{magnitude, total_le}
use Rattle.spec_shape.specs.Fit.{cell_of, pivot_of}
use Rattle.tonekit_fit.specs.Steps.{below_cleared}

abbrev pub pivot_turn : List (List Float) → ℕ → ℕ → ℕ → ℕ
pivot_turn m col i best = cond (total_le (magnitude (cell_of m best col)) (magnitude (cell_of m i col))) i best

abbrev pub cell_cleared : ℕ → ℕ → Float → ℕ → List (List Float) → List (List Float)
cell_cleared col row f k t = set t row (set (get_or t row []) k (sub binary64 (cell_of t row k) (mul binary64 f (cell_of t col k))))

abbrev pub column_turn : ℕ → List (List Float) → Turn (List (List Float)) Float
column_turn col t =
    cond (lt (magnitude (cell_of t (pivot_of t col) col)) (of_bits binary64 0x3d71_9799_812d_ea11)) (stop zero64)
    (next (below_cleared col (set (set t col (get_or t (pivot_of t col) [])) (pivot_of t col) (get_or t col []))))
