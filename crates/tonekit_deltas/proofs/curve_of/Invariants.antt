-- What the loop has copied is the start of the points.
use Rattle.std.proofs.Common.{◌≡◌, length, take}
use Rattle.tonekit_deltas.proofs.curve_of.Given as goal

abbrev pub invariant-loop-k : goal.invariant-loop-k
invariant-loop-k l = (length l.curve ≡ 10) × (take l.k l.curve ≡ take l.k l.points)
