use Rattle.std.proofs.Common.{◌≡◌, ◌≤◌, length, take}
use Rattle.spec_lookup.specs.Knots.{first_points}
use Rattle.tonekit_expect.proofs.expand_knots.Given as goal

abbrev pub invariant-loop-i : goal.invariant-loop-i
invariant-loop-i l = (l.i ≤ 10) × (length l.x-items ≡ 10) × (take l.i l.x-items ≡ first_points l.knots l.i)
