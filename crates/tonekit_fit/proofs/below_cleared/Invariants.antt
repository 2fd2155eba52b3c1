use Rattle.std.proofs.Common.{◌≡◌}
use Rattle.tonekit_core.specs.Loop.{range}
use Rattle.spec_shape.specs.Fit.{row_cleared}
use Rattle.tonekit_fit.specs.Steps.{below_cleared}
use Rattle.tonekit_fit.proofs.below_cleared.Given as goal

abbrev pub invariant-loop-row : goal.invariant-loop-row
invariant-loop-row l = range (row_cleared l.col.at) l.row 3 l.t ≡ below_cleared l.col.at l.initial.t
