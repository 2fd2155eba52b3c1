use Rattle.std.proofs.Common.{◌≤◌, length}
use Rattle.tonekit_sheet_plan.specs.Listings.{carried_by}
use Rattle.tonekit_sheet_plan.specs.Plans.{planned_by}
use Rattle.tonekit_sheet_plan.proofs.Placing.{Placing}
use Rattle.tonekit_sheet_plan.proofs.Plan.place_of.Given as goal

abbrev pub invariant-loop-i : goal.invariant-loop-i
invariant-loop-i l = (l.i ≤ length l.self.lists.items) × Placing (carried_by l.self.bytes.now l.c.listing) (planned_by l.self) l.i
