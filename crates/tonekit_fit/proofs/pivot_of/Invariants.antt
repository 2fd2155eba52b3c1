use Rattle.std.proofs.Common.{◌≡◌, ◌<◌}
use Rattle.tonekit_core.specs.Loop.{range}
use Rattle.spec_shape.specs.Fit.{pivot_of}
use Rattle.tonekit_fit.proofs.Turns.{pivot_turn}
use Rattle.tonekit_fit.proofs.pivot_of.Given as goal

abbrev pub invariant-loop-i : goal.invariant-loop-i
invariant-loop-i l = (l.best < 3) × (range (pivot_turn l.m l.col.at) l.i 3 l.best ≡ pivot_of l.m l.col.at)
