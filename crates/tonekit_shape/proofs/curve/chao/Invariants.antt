use Rattle.spec_shape.specs.Chao.{width_of}
use Rattle.tonekit_shape.proofs.Fill.{Listed}
use Rattle.tonekit_shape.proofs.Turns.{chao_of}
use Rattle.tonekit_shape.proofs.curve.chao.Given as goal

abbrev pub invariant-loop-value : goal.invariant-loop-value
invariant-loop-value l = Listed (chao_of l.floor (width_of l.floor l.ceil) l.initial.curve) l.initial.curve l.value-index l.curve
