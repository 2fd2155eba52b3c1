use Rattle.std.proofs.Common.{◌≡◌}
use Rattle.tonekit_core.specs.Loop.{range}
use Rattle.std.specs.Prelude.{None}
use Rattle.tonekit_expect.specs.Pieces.{best_turn}
use Rattle.tonekit_expect.proofs.best_among.Given as goal

abbrev pub invariant-loop-k : goal.invariant-loop-k
invariant-loop-k l = range (best_turn l.s l.at l.c) l.k l.to l.best ≡ range (best_turn l.s l.at l.c) l.from l.to None
