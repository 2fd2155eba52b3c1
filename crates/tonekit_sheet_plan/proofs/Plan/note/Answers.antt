use Rattle.std.proofs.Common.{refl, sym}
use Rattle.tonekit_sheet_plan.proofs.Memo.{noted_none}
use Rattle.tonekit_sheet_plan.proofs.Plan.note.Goals as goal

pub note_listing-requires : goal.note_listing-requires
note_listing-requires c =
    let e = c.in-Some.is in
    (rw e at c.requires.0, c.requires.1 _ e)

pub returns-in_default : goal.returns-in_default
returns-in_default c = record { bytes = refl; same = rw c.in_default.is (sym (noted_none _)) }
