use Rattle.std.proofs.Common.{◌≡◌, ◌≤◌}
use Rattle.tonekit_core.specs.Loop.{range}
use Rattle.spec_sheet.specs.Reader.{points_fine}
use Rattle.tonekit_sheet.specs.Parts.{point_turn}
use Rattle.tonekit_sheet_read.proofs.read.points_fine.Given as goal

abbrev pub invariant-loop-k : goal.invariant-loop-k
invariant-loop-k l = (l.k ≤ 10) × (range (point_turn l.s l.o) l.k 10 l.ok ≡ points_fine l.s l.o)
