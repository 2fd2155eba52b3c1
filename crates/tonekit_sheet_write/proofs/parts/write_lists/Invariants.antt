use Rattle.std.proofs.Common.{length}
use Rattle.tonekit_sheet.proofs.Gather.{Writing}
use Rattle.tonekit_sheet_plan.specs.Plans.{planned_by}
use Rattle.tonekit_sheet_write.specs.Pieces.{planned_list, lists_part}
use Rattle.tonekit_sheet_write.proofs.parts.write_lists.Given as goal

abbrev pub invariant-loop-i : goal.invariant-loop-i
invariant-loop-i l =
    let its = planned_by l.plan in
    Writing (planned_list its) (length its) l.at (lists_part its) l.initial.out l.out l.i l.o
