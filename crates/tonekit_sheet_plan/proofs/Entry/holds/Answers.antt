-- Of another mark, or compared. Assumes nothing.
use Rattle.std.proofs.Common.{sym, ◌∙◌}
use Rattle.tonekit_sheet_plan.specs.Listings.{carried_by}
use Rattle.tonekit_sheet_plan.specs.Entries.{entry_listing}
use Rattle.tonekit_sheet_plan.proofs.Marks.{marked_apart}
use Rattle.tonekit_sheet_plan.proofs.Entry.holds.Goals as goal

pub returns-then-self-mark : goal.returns-then-self-mark
returns-then-self-mark c =
    let a = c.args in
    let s = a.c.bytes.now in
    sym (marked_apart (carried_by s a.c.listing) (carried_by s (entry_listing s a.self)) (λ q. c.if-self-mark.true (c.requires.0.mark ∙ sym q ∙ sym c.requires.1.mark)))
