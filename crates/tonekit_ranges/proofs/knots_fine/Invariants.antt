use Rattle.std.proofs.Common.{◌≡◌}
use Rattle.tonekit_core.specs.Loop.{range}
use Rattle.spec_pack.specs.Ranges.{knots_fine}
use Rattle.tonekit_ranges.proofs.SlotTurn.{slot_turn}
use Rattle.tonekit_ranges.proofs.knots_fine.Given as goal

abbrev pub invariant-loop-k : goal.invariant-loop-k
invariant-loop-k l = range (slot_turn l.s l.o l.n) l.k 10 l.ok ≡ knots_fine l.s l.o l.n
