use Rattle.std.proofs.Common.{◌≡◌}
use Rattle.tonekit_core.specs.Loop.{range}
use Rattle.tonekit_fit.proofs.Powers.{power_turn}
use Rattle.tonekit_fit.proofs.point_added.Given as goal

abbrev pub invariant-loop-k : goal.invariant-loop-k
invariant-loop-k l =
    range (power_turn l.x l.y) l.k 5 (record { s = l.sum-items; t = l.t; pow = l.pow }) ≡ range (power_turn l.x l.y) 0 5 (record { s = l.initial.sum-items; t = l.initial.t; pow = l.initial.pow })
