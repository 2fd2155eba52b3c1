use Rattle.std.proofs.Common.{◌≡◌, ◌≤◌, None}
use Rattle.tonekit_core.specs.Loop.{range_to}
use Rattle.spec_sheet.specs.Reader.{loose_row}
use Rattle.tonekit_sheet.specs.Parts.{loose_turn}
use Rattle.tonekit_sheet_read.specs.Held.{records_of}
use Rattle.tonekit_sheet_read.proofs.SheetView.loose_row.Given as goal

abbrev pub invariant-loop-r : goal.invariant-loop-r
invariant-loop-r l = (l.r-end ≡ l.self.sheet.rows) × (l.r ≤ l.r-end) × (range_to (loose_turn l.self.bytes.now (records_of l.self.sheet)) (λ u. None) l.r l.r-end 0 ≡ loose_row l.self.bytes.now (records_of l.self.sheet))
