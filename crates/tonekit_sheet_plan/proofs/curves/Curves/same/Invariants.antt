use Rattle.std.proofs.Common.{◌≤◌, ◌≡◌, true}
use Rattle.tonekit_sheet_plan.proofs.Alike.{same_first}
use Rattle.tonekit_sheet_plan.proofs.curves.Curves.same.Given as goal

abbrev pub invariant-loop-j : goal.invariant-loop-j
invariant-loop-j l =
    (l.j-end ≡ l.self.listing.count) × (l.j ≤ l.j-end) × (same_first l.self.bytes.now l.self.listing l.other.bytes.now l.other.listing l.j ≡ true)
