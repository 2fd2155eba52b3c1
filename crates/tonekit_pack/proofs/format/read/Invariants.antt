use Rattle.std.proofs.Common.{◌≤◌, ◌-◌, length}
use Rattle.tonekit_pack.proofs.format.read.Given as goal

abbrev pub invariant-loop-k : goal.invariant-loop-k
invariant-loop-k g l = g.F.Format.so_far l.s l.at l.held × (l.at ≤ length l.s)

abbrev pub decreases-loop-k : goal.decreases-loop-k
decreases-loop-k g l = length l.s - l.at
