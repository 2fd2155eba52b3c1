use Rattle.std.proofs.Common.{◌≡◌, true}
use Rattle.tonekit_core.specs.Loop.{range}
use Rattle.spec_sheet.specs.Reader.{same_lists}
use Rattle.tonekit_sheet.specs.Parts.{same_turn}
use Rattle.tonekit_sheet_read.proofs.order.same_lists.Given as goal

abbrev pub invariant-loop-k : goal.invariant-loop-k
invariant-loop-k l = range (same_turn l.s l.a l.b) l.k l.size true ≡ same_lists l.s l.a l.b
