use Rattle.std.proofs.Common.{◌≤◌}
use Rattle.tonekit_root.proofs.Squares.{Left}
use Rattle.tonekit_root.proofs.digits_root.Given as goal

abbrev pub invariant-loop : goal.invariant-loop
invariant-loop l = (l.counter ≤ 26) × Left l.a l.r l.left l.counter
