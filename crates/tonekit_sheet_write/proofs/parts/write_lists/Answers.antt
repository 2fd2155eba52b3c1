use Rattle.std.proofs.Common.{arith, ◌<◌, length}
use Rattle.tonekit_sheet.proofs.Gather.{write_begun, write_room, write_next, write_ended}
use Rattle.tonekit_sheet_plan.proofs.Memo.{planned_length}
use Rattle.tonekit_sheet_write.proofs.parts.write_lists.Goals as goal
use Rattle.tonekit_sheet_write.proofs.parts.write_lists.Goals.{In-loop-i}

pub loop-i-init : goal.loop-i-init
loop-i-init c = write_begun _ _ _ _ _ (omega arith)

-- one of the lists
inside : (c : In-loop-i) → c.loop-i.i < length c.args.plan.now.lists.items
inside c = rw c.len-i-end.ensures.value at c.loop-i-test.true

pub write_list-o-requires : goal.write_list-o-requires
write_list-o-requires c =
    let p = c.args.plan.now in
    let h = inside (goal.at.write_list-o-requires c).In-loop-i in
    (h, omega (arith, c.loop-i-test.true, c.len-i-end.ensures.fits), write_room _ c.loop-i.invariant (omega (arith, h, planned_length p.bytes.now p.lists.items)) c.requires)

pub loop-i-preserved : goal.loop-i-preserved
loop-i-preserved c =
    let p = c.args.plan.now in
    let h = inside (goal.at.loop-i-preserved c).In-loop-i in
    write_next _ c.loop-i.invariant (omega (arith, h, planned_length p.bytes.now p.lists.items)) c.write_list-o.ensures

pub shape_of-out : goal.shape_of-out
shape_of-out c = c.loop-i.invariant.size

pub returns : goal.returns
returns c =
    let p = c.args.plan.now in
    write_ended _ c.loop-i.invariant (omega (arith, c.loop-i-test.false, c.len-i-end.ensures.value, planned_length p.bytes.now p.lists.items))
