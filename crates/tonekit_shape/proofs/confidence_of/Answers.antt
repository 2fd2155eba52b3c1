use Rattle.std.proofs.Common.{rules}
use Rattle.tonekit_core.proofs.LoopLaws.{ended}
use Rattle.spec_shape.specs.Extract.{confidence}
use Rattle.tonekit_shape.proofs.confidence_of.Goals as goal

pub returns : goal.returns
unfolding confidence
returns c =
    let e = c.f32_of.ensures in
    let s = ended _ c.loop-j.invariant (search rules) in
    cc
