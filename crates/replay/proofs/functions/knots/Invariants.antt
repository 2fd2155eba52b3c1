-- The numbers stored so far are knots.
use Rattle.std.proofs.Common.{◌≡◌, ℕ, ◌<◌, length, get_or}
use lib.Ieee.{nan}
use Rattle.spec_lookup.specs.Knots.{Knot}
use Rattle.replay.proofs.functions.knots.Given as goal

abbrev pub invariant-loop-i : goal.invariant-loop-i
invariant-loop-i l = (length l.x-items ≡ 10) × ((k : ℕ) → k < l.i → Knot (get_or l.x-items k nan))
