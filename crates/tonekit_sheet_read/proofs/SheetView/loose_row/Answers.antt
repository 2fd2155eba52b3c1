-- The search stops at a row that names a list that is not there. Assumes nothing.
use Rattle.tonekit_core.proofs.LoopLaws.{to_stop}
use Rattle.tonekit_sheet_read.proofs.SheetView.loose_row.Goals as goal

pub returns-then-not-not_final-last : goal.returns-then-not-not_final-last
returns-then-not-not_final-last c =
    to_stop _ _ c.loop-r.invariant.2 c.loop-r-test.true (simp (← c.row_at-o.ensures.0, ← c.byte_at.ensures, ← c.list_there-not_final.ensures, ← c.byte_at-in-loop-r.ensures, ← c.list_there-last.ensures, c.if-not-not_final-last.true))
