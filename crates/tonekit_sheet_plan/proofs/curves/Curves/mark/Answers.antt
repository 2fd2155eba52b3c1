-- After j components, the mark is that of the first j. Assumes nothing.
use Rattle.std.proofs.Common.{rules, arith}
use Rattle.tonekit_sheet_plan.proofs.Marks.{none_yet, one_more, mark_is}
use Rattle.tonekit_sheet_plan.proofs.curves.Curves.mark.Goals as goal

pub loop-j-init : goal.loop-j-init
loop-j-init c = let a = c.args.self in (search rules, search rules, none_yet a.bytes.now a.listing)

pub loop-j-preserved : goal.loop-j-preserved
loop-j-preserved c =
    let a = c.args.self in
    (c.loop-j.invariant.0, omega arith, one_more a.bytes.now a.listing c.loop-j.j c.loop-j.invariant.2 c.mark_component-m.ensures)

pub returns : goal.returns
returns c =
    let a = c.args.self in
    mark_is a.bytes.now a.listing c.loop-j.j (omega arith) c.loop-j.invariant.2
