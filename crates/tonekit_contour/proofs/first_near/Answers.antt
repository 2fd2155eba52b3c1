-- The first frame of the plateau ends the loop.
use Rattle.std.proofs.Common.{rules}
use Rattle.tonekit_core.proofs.LoopLaws.{to_stop}
use Rattle.tonekit_contour.proofs.first_near.Goals as goal

pub returns-then-near : goal.returns-then-near
returns-then-near c =
    (to_stop _ _ c.loop-j.invariant (search rules) (rw (← c.near.ensures, c.if-near.true)), search rules)
