use Rattle.std.proofs.Common.{◌≤◌, length}
use Rattle.tonekit_sheet_plan.proofs.Plan.known_at.Given as goal

abbrev pub invariant-loop-e : goal.invariant-loop-e
invariant-loop-e l = l.e-index ≤ length l.e-items
