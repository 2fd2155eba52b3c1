use Rattle.std.proofs.Common.{◌≡◌, ◌≤◌, None}
use Rattle.tonekit_core.specs.Loop.{range_to}
use Rattle.spec_sheet.specs.Reader.{row_wrong}
use Rattle.tonekit_sheet.specs.Parts.{row_turn}
use Rattle.tonekit_sheet_read.specs.Held.{records_of}
use Rattle.tonekit_sheet_read.proofs.SheetView.row_wrong.Given as goal

abbrev pub invariant-loop-r : goal.invariant-loop-r
invariant-loop-r l = (l.r-end ≡ l.self.sheet.rows) × (l.r ≤ l.r-end) × (range_to (row_turn l.self.bytes.now (records_of l.self.sheet)) (λ n. None) l.r l.r-end l.m ≡ row_wrong l.self.bytes.now (records_of l.self.sheet))
