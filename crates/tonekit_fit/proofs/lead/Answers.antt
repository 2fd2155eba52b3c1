-- A column that determines nothing ends the loop.
use Rattle.std.proofs.Common.{rules}
use Rattle.tonekit_core.proofs.LoopLaws.{to_stop}
use Rattle.tonekit_fit.proofs.lead.Goals as goal

pub returns-then-abs : goal.returns-then-abs
returns-then-abs c =
    to_stop _ _ c.loop-col.invariant (search rules)
    (simp (← c.pivot_of-pivot.ensures, ← c.abs.ensures.value, c.if-abs.true))
