-- What is left of the loop, from here, gives what the whole gives.
use Rattle.std.proofs.Common.{◌≡◌, length}
use Rattle.tonekit_core.specs.Loop.{range}
use Rattle.spec_judgement.specs.Score.{empty}
use Rattle.tonekit_tail.specs.Mixed.{tail_turn}
use Rattle.tonekit_tail.proofs.mixed_tail.Given as goal

abbrev pub invariant-loop-k : goal.invariant-loop-k
invariant-loop-k l =
    range (tail_turn l.inventory l.targets l.issues) l.k (length l.targets.items) l.sum
    ≡ range (tail_turn l.inventory l.targets l.issues) 1 (length l.targets.items) empty
