use Rattle.tonekit_sheet_plan.proofs.Memo.{number_known, number_place}
use Rattle.tonekit_sheet_plan.proofs.Plan.number_listing.Goals as goal

pub returns-in-Some : goal.returns-in-Some
returns-in-Some c =
    let p = c.args.self.now in
    number_known p.bytes.now p.lists.items p.memo.items c.args.l p.sane c.requires (rw c.record.ensures at c.in-Some.ensures)

pub returns : goal.returns
returns c =
    let p = c.args.self.now in
    number_place p.bytes.now p.lists.items p.memo.items c.args.l p.sane c.requires c.place_of.ensures.place
