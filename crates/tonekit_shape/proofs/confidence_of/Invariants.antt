use Rattle.std.proofs.Common.{◌≡◌}
use Rattle.tonekit_core.specs.Loop.{range}
use Rattle.spec_arithmetic.specs.Constants.{zero32}
use Rattle.spec_shape.specs.Extract.{frames_in}
use Rattle.tonekit_shape.proofs.Turns.{confidence_turn}
use Rattle.tonekit_shape.proofs.confidence_of.Given as goal

abbrev pub invariant-loop-j : goal.invariant-loop-j
invariant-loop-j l =
    range (confidence_turn l.frames l.e.first) l.j (frames_in l.e) l.sum ≡ range (confidence_turn l.frames l.e.first) 0 (frames_in l.e) zero32
