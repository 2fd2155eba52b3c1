use Rattle.std.proofs.Common.{◌≡◌, length}
use Rattle.tonekit_core.specs.Loop.{range_to}
use Rattle.spec_shape.specs.Turning.{first_near}
use Rattle.tonekit_contour.proofs.Turns.{first_turn}
use Rattle.tonekit_contour.proofs.first_near.Given as goal

abbrev pub invariant-loop-j : goal.invariant-loop-j
invariant-loop-j l =
    range_to (first_turn l.curve l.sign l.best) (λ u. 0) l.j (length l.curve) 0 ≡ first_near l.curve l.sign l.best
