use Rattle.std.proofs.Common.{◌≡◌, ◌≤◌}
use Rattle.tonekit_core.specs.Loop.{range}
use Rattle.tonekit_sheet_read.specs.Marks.{mark_turn, mark_at}
use Rattle.tonekit_sheet_read.proofs.order.mark_at.Given as goal

abbrev pub invariant-loop-k : goal.invariant-loop-k
invariant-loop-k l = (l.words ≤ 2805) × (range (mark_turn l.s l.o) l.k l.words l.m ≡ mark_at l.s l.o)
