-- A turn writes one place more; all are written at the end.
use Rattle.std.proofs.Common.{rules}
use Rattle.tonekit_shape.proofs.Fill.{listed_none, listed_more, listed_all}
use Rattle.tonekit_shape.proofs.curve.semitones.Goals as goal

pub loop-j-init : goal.loop-j-init
loop-j-init c = listed_none _ _

pub loop-j-preserved : goal.loop-j-preserved
loop-j-preserved c = listed_more _ _ _ _ _ (search rules) c.loop-j.invariant c.semitones.ensures

pub returns : goal.returns
returns c = listed_all _ _ _ _ _ (search rules) (search rules) c.loop-j.invariant
