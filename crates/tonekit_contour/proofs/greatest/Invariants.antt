use Rattle.std.proofs.Common.{◌≡◌, length}
use Rattle.tonekit_core.specs.Loop.{range}
use Rattle.spec_shape.specs.Turning.{greatest}
use Rattle.tonekit_contour.proofs.Turns.{greater_at}
use Rattle.tonekit_contour.proofs.greatest.Given as goal

abbrev pub invariant-loop-v : goal.invariant-loop-v
invariant-loop-v l =
    range (greater_at l.curve l.sign) l.v-index (length l.curve) l.best ≡ greatest l.curve l.sign
