use Rattle.std.proofs.Common.{◌≡◌, length}
use Rattle.tonekit_sheet_plan.proofs.Alike.{bits}
use Rattle.tonekit_sheet.specs.Parts.{same_numbers}
use Rattle.tonekit_sheet_plan.proofs.curves.same_points.Given as goal

abbrev pub invariant-loop-x : goal.invariant-loop-x
invariant-loop-x l =
    let left = l.x-iterator.a.rest.now in
    let right = l.x-iterator.b.rest.now in
    (length left ≡ length right) × (same_numbers (bits left) (bits right) ≡ same_numbers (bits l.a) (bits l.b))
