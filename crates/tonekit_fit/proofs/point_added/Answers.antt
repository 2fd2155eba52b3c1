-- The sums at the loop's end are the definition's.
use Rattle.std.proofs.Common.{rules}
use Rattle.tonekit_core.proofs.LoopLaws.{ended}
use Rattle.tonekit_fit.proofs.Powers.{powers_are}
use Rattle.tonekit_fit.proofs.point_added.Goals as goal

pub returns : goal.returns
returns c = powers_are c.args.x c.args.y c.args.m (ended _ c.loop-k.invariant (search rules))
