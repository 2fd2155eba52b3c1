use Rattle.std.proofs.Common.{ap, rules, Float}
use lib.Ieee.{binary32, div, of_int, of_bits}
use Rattle.tonekit_core.proofs.LoopLaws.{ended}
use Rattle.spec_shape.specs.Extract.{mean_of, whole32}
use Rattle.tonekit_shape.proofs.mean_of.Goals as goal

pub returns : goal.returns
unfolding mean_of of_int of_bits
returns c = ap (λ (x : Float). div binary32 x (whole32 10)) (ended _ c.loop-x.invariant (search rules))
