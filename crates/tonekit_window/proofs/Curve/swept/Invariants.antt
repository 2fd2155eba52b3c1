use Rattle.std.proofs.Common.{◌-◌, ◌≤◌}
use Rattle.tonekit_window.proofs.Walk.{Going}
use Rattle.tonekit_window.proofs.Curve.swept.Given as goal

abbrev pub invariant-loop-s : goal.invariant-loop-s
invariant-loop-s l = (l.frame ≤ 3000) × Going l.self.values.now l.fn.a.at l.b.at l.frame l.s

abbrev pub decreases-loop-s : goal.decreases-loop-s
decreases-loop-s l = 4000 - l.frame
