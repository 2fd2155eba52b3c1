use Rattle.std.proofs.Common.{◌+◌, ◌*◌, ◌≤◌, ◌≡◌, length}
use Rattle.spec_sheet.specs.Pieces.{piecewise}
use Rattle.tonekit_sheet_plan.specs.Plans.{planned_by}
use Rattle.tonekit_sheet_write.specs.Pieces.{list_most, planned_list, lists_part}
use Rattle.tonekit_sheet_write.proofs.lists_size.Given as goal

abbrev pub invariant-loop-e : goal.invariant-loop-e
invariant-loop-e l =
    let its = planned_by l.plan in
    (l.total ≤ list_most * l.e-index) × (l.total + length (piecewise (planned_list its) l.e-index (length its)) ≡ length (lists_part its))
