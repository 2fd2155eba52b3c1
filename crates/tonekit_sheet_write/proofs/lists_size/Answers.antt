use Rattle.std.proofs.Common.{rules, arith, zero-add, ◌<◌, ◌≤◌, length}
use Rattle.tonekit_sheet_plan.specs.Plans.{planned_by}
use Rattle.tonekit_sheet_plan.proofs.Memo.{planned_length}
use Rattle.tonekit_sheet_write.proofs.Bytes.{list_size_lem}
use Rattle.tonekit_sheet_write.proofs.Together.{sum_on, sum_end}
use Rattle.tonekit_sheet_write.proofs.lists_size.Goals as goal

pub loop-e-init : goal.loop-e-init
loop-e-init c = (search rules, zero-add _)

pub loop-e-preserved : goal.loop-e-preserved
loop-e-preserved c =
    let p = c.args.plan.now in
    let l = c.loop-e in
    let h : l.e-index < length p.lists.items = rw c.as_slice-e-items.ensures.value at c.loop-e-test.true in
    let e = rw c.as_slice-e-items.ensures.value at c.listing-count.ensures in
    let k = rw (← e) at (p.sane.marked l.e-index h).kept in (
      omega (arith, k.few, l.invariant.0),
      sum_on (planned_by p) l.e-index l.total _ l.invariant.1 (omega (arith, h, planned_length p.bytes.now p.lists.items)) (list_size_lem p.bytes.now p.lists.items l.e-index h e k),
    )

pub returns : goal.returns
returns c =
    let p = c.args.plan.now in
    let l = c.loop-e in
    let n = c.as_slice-e-items.ensures in
    let end : length p.lists.items ≤ l.e-index = rw n.value at c.loop-e-test.false in
    (sum_end (planned_by p) l.e-index l.total l.invariant.1 (omega (arith, end, planned_length p.bytes.now p.lists.items)), omega (arith, l.invariant.0, l.auto.e-index-end, n.fits))
