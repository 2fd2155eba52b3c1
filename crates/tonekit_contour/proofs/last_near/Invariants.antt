use Rattle.std.proofs.Common.{◌≡◌, ◌≤◌, length}
use Rattle.tonekit_core.specs.Loop.{range}
use Rattle.spec_shape.specs.Turning.{last_near}
use Rattle.tonekit_contour.proofs.Turns.{last_turn}
use Rattle.tonekit_contour.proofs.last_near.Given as goal

abbrev pub invariant-loop-j : goal.invariant-loop-j
invariant-loop-j l =
    (l.found ≤ length l.curve) × (range (last_turn l.curve l.sign l.best) l.j (length l.curve) l.found ≡ last_near l.curve l.sign l.best l.d)
