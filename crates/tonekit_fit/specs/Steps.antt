-- What functions give of a frame and of a grid, as parts of the definitions.
use Rattle.std.specs.Prelude.{ℕ, ◌+◌, Option, List, Float}
use Rattle.std.specs.Option.{option_map_or}
use Rattle.tonekit_core.specs.Loop.{range}
use Rattle.spec_arithmetic.specs.Constants.{zero64}
use Rattle.spec_query.specs.declared.Voiced.{Voiced}
use Rattle.spec_shape.specs.Chao.{hz_to_st}
use Rattle.spec_shape.specs.Fit.{row_cleared}

-- a frame's semitones, +0 where it is unvoiced
abbrev pub semitones_of : Option Voiced → Float
semitones_of frame = option_map_or (λ v. hz_to_st v.hz) frame zero64

-- the rows below the column's, cleared
abbrev pub below_cleared : ℕ → List (List Float) → List (List Float)
below_cleared col m = range (row_cleared col) (col + 1) 3 m
