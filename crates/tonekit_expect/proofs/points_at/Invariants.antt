use Rattle.std.proofs.Common.{◌≡◌, ◌≤◌, length, take}
use Rattle.spec_lookup.specs.Knots.{knots_at}
use Rattle.tonekit_expect.proofs.points_at.Given as goal

abbrev pub invariant-loop-k : goal.invariant-loop-k
invariant-loop-k l = (l.k ≤ l.n) × (l.n ≤ 10) × (length l.x-items ≡ l.n) × (take l.k l.x-items ≡ knots_at l.s l.o l.k)
