-- What is left of the loop, from here, over the gap between what stands before and behind it, gives what the whole gives.
use Rattle.std.proofs.Common.{◌≡◌, ◌+◌, ◌-◌, length}
use Rattle.tonekit_core.specs.Loop.{range}
use Rattle.spec_shape.specs.Extract.{gap_filled}
use Rattle.tonekit_shape.proofs.Gap.{fill_turn, joined}
use Rattle.tonekit_shape.proofs.curve.fill_gap.Given as goal

abbrev pub invariant-loop-k : goal.invariant-loop-k
invariant-loop-k l = record {
  many : length l.value-items ≡ l.j - (l.prev + 1);
  left : range (fill_turn l.prev l.j) (l.prev + 1 + l.k) l.j (joined l.prev l.j l.fn.curve l.value-items) ≡ gap_filled l.prev l.j l.fn.curve;
}
