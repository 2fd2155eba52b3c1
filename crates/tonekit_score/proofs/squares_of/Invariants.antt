-- What is left of the loop, from here, gives what the whole gives.
use Rattle.std.proofs.Common.{ℕ, ◌≡◌, List, get_or, Float}
use Rattle.std.specs.Prelude.{Option}
use lib.Ieee.{nan, binary64, add, sub, mul}
use Rattle.tonekit_core.specs.Loop.{range}
use Rattle.spec_arithmetic.specs.Constants.{zero64}
use Rattle.spec_judgement.specs.Score.{point_weight}
use Rattle.tonekit_entries.specs.declared.Region.{Region}
use Rattle.spec_judgement.specs.declared.Squares.{Squares}
use Rattle.tonekit_score.proofs.squares_of.Given as goal

-- a turn of `squares_of`
abbrev square_turn : List Float → List Float → Option Region → List Float → ℕ → Squares → Squares
square_turn contour weights r ten k s =
    let w = point_weight r k (get_or weights k nan) in
    let d = sub binary64 (get_or contour k nan) (get_or ten k nan) in
    record { weighted = add binary64 s.weighted (mul binary64 (mul binary64 w d) d); total = add binary64 s.total w }

abbrev pub invariant-loop-k : goal.invariant-loop-k
invariant-loop-k l =
    range (square_turn l.x.contour l.x.weights l.region l.ten) l.k 10 l.q ≡ range (square_turn l.x.contour l.x.weights l.region l.ten) 0 10 (record { weighted = zero64; total = zero64 })
