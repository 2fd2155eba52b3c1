-- What the loop of `at_least_min_span` keeps, and that it ends.
use Rattle.std.proofs.Common.{cond}
use Rattle.spec_shape.specs.Register.{narrow, middle}
use Rattle.tonekit_min_span.proofs.Turns.{Going}
use Rattle.tonekit_min_span.proofs.at_least_min_span.Given as goal

abbrev pub invariant-loop-r : goal.invariant-loop-r
invariant-loop-r l = Going (middle l.fn.r) l.fn.r l.r

-- 1 while there is a turn to make
abbrev pub decreases-loop-r : goal.decreases-loop-r
decreases-loop-r l = cond (narrow l.r) 1 0
