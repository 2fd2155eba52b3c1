use Rattle.tonekit_shape.specs.Promises.{semitone}
use Rattle.tonekit_shape.proofs.Fill.{Listed}
use Rattle.tonekit_shape.proofs.curve.semitones.Given as goal

abbrev pub invariant-loop-j : goal.invariant-loop-j
invariant-loop-j l = Listed (semitone l.frames.bytes.now l.frames.first) l.initial.curve l.j l.curve
