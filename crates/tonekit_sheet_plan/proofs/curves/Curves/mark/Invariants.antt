use Rattle.std.proofs.Common.{◌≤◌, ◌≡◌}
use Rattle.tonekit_sheet_plan.proofs.Marks.{after}
use Rattle.tonekit_sheet_plan.proofs.curves.Curves.mark.Given as goal

abbrev pub invariant-loop-j : goal.invariant-loop-j
invariant-loop-j l = (l.j-end ≡ l.self.listing.count) × (l.j ≤ l.j-end) × (l.m ≡ after l.self.bytes.now l.self.listing l.j)
