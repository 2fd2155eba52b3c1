use Rattle.std.proofs.Common.{◌≡◌, ◌-◌, ◌≤◌, length, get_or}
use lib.Ieee.{nan}
use Rattle.tonekit_shape.proofs.Fill.{Listed}
use Rattle.tonekit_shape.proofs.Smooth.{smoothed_at}
use Rattle.tonekit_shape.proofs.curve.smooth.Given as goal

abbrev pub invariant-loop-j : goal.invariant-loop-j
invariant-loop-j l =
    (l.j-end ≡ length l.initial.curve) × (l.j ≤ l.j-end) × (length l.curve ≡ length l.initial.curve) × (1 ≤ l.j → l.before ≡ get_or l.initial.curve (l.j - 1) nan) × Listed (smoothed_at l.initial.curve) l.initial.curve l.j l.curve
