use Rattle.std.proofs.Common.{◌≡◌, false, length}
use Rattle.tonekit_core.specs.Loop.{range}
use Rattle.spec_sheet.specs.Reader.{repeated}
use Rattle.tonekit_sheet.specs.Parts.{equal_turn}
use Rattle.tonekit_sheet_read.proofs.order.repeated.Given as goal

abbrev pub invariant-loop-other : goal.invariant-loop-other
invariant-loop-other l = range (equal_turn l.s l.lists l.o) (length l.yielded) (length l.lists) false ≡ repeated l.s l.lists (length l.lists) l.o
