use Rattle.std.proofs.Common.{ap, rules}
use Rattle.tonekit_core.proofs.LoopLaws.{ended}
use Rattle.spec_shape.specs.Extract.{holes_filled, Filled}
use Rattle.tonekit_shape.proofs.curve.fill_holes.Goals as goal

pub returns : goal.returns
unfolding holes_filled
returns c = ap (λ (s : Filled). s.curve) (ended _ c.loop-j.invariant.1 (search rules))
