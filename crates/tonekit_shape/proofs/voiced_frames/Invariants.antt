use Rattle.std.proofs.Common.{◌≡◌, min}
use Rattle.tonekit_core.specs.Loop.{range}
use Rattle.spec_shape.specs.Extract.{extent_of}
use Rattle.tonekit_shape.specs.Promises.{extent_turn}
use Rattle.tonekit_shape.proofs.Found.{Found}
use Rattle.tonekit_shape.proofs.voiced_frames.Given as goal

abbrev pub invariant-loop-i : goal.invariant-loop-i
invariant-loop-i l =
    Found l.fn.q.count l.i l.e × (range (extent_turn l.frames) l.i (min l.fn.q.end l.fn.q.count) l.e ≡ extent_of l.frames l.fn.q.count l.fn.q.start l.fn.q.end)
