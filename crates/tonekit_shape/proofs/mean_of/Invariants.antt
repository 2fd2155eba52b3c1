use Rattle.std.proofs.Common.{◌≡◌}
use Rattle.tonekit_core.specs.Loop.{range}
use Rattle.spec_arithmetic.specs.Constants.{zero32}
use Rattle.tonekit_shape.proofs.Turns.{add_turn}
use Rattle.tonekit_shape.proofs.mean_of.Given as goal

abbrev pub invariant-loop-x : goal.invariant-loop-x
invariant-loop-x l = range (add_turn l.contour) l.x-index 10 l.sum ≡ range (add_turn l.contour) 0 10 zero32
