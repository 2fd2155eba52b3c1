-- The search stops at a row that is not the one due, or names a list out of order. Assumes nothing.
use Rattle.tonekit_core.proofs.LoopLaws.{to_stop}
use Rattle.tonekit_sheet_read.proofs.SheetView.row_wrong.Goals as goal

pub returns-then-not-row_due-row_names : goal.returns-then-not-row_due-row_names
returns-then-not-row_due-row_names c =
    to_stop _ _ c.loop-r.invariant.2 c.loop-r-test.true (simp (← c.row_at-o.ensures.0, ← c.row_due.ensures, ← c.row_names.ensures, c.if-not-row_due-row_names.true))
