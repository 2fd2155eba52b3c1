use Rattle.std.proofs.Common.{◌≡◌, ◌≤◌, length, None}
use Rattle.tonekit_core.specs.Loop.{range_to}
use Rattle.spec_sheet.specs.Reader.{list_wrong}
use Rattle.tonekit_sheet.specs.Parts.{list_turn}
use Rattle.tonekit_sheet_read.specs.Held.{records_of}
use Rattle.tonekit_sheet_read.specs.Marks.{Marked}
use Rattle.tonekit_sheet_read.proofs.SheetView.list_wrong.Given as goal

abbrev pub invariant-loop-i : goal.invariant-loop-i
invariant-loop-i l = record {
  few : length l.lists ≤ 128;
  inside : l.from ≤ l.self.sheet.rows;
  slots : length l.marks.items ≡ l.i;
  marked : Marked l.self.bytes.now l.lists l.marks.items l.i;
  rest : range_to (list_turn l.self.bytes.now (records_of l.self.sheet)) (λ u. None) l.i (length l.lists) 0 ≡ list_wrong l.self.bytes.now (records_of l.self.sheet);
}
