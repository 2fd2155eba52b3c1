use Rattle.tonekit_sheet_plan.proofs.Memo.{sane_list}
use Rattle.tonekit_sheet_plan.proofs.Plan.enter.Goals as goal

pub invariant_of-self : goal.invariant_of-self
invariant_of-self c =
    let p = c.args.self.now in
    record { sane = rw c.push.ensures.items (sane_list p.bytes.now p.lists.items p.memo.items p.sane c.args.e c.requires.1) }
