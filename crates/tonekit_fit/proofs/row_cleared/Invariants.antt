use Rattle.std.proofs.Common.{◌≡◌}
use Rattle.tonekit_core.specs.Loop.{range}
use Rattle.tonekit_fit.proofs.Turns.{cell_cleared}
use Rattle.tonekit_fit.proofs.row_cleared.Given as goal

abbrev pub invariant-loop-k : goal.invariant-loop-k
invariant-loop-k l = range (cell_cleared l.col.at l.row.at l.f) l.k 4 l.t ≡ range (cell_cleared l.col.at l.row.at l.f) l.col.at 4 l.initial.t
