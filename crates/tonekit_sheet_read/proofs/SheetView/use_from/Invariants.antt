use Rattle.std.proofs.Common.{◌≡◌, false, ◌≤◌}
use Rattle.tonekit_core.specs.Loop.{range}
use Rattle.tonekit_sheet.specs.Parts.{names_turn}
use Rattle.tonekit_sheet_read.specs.Held.{records_of}
use Rattle.tonekit_sheet_read.proofs.SheetView.use_from.Given as goal

abbrev pub invariant-loop-r : goal.invariant-loop-r
invariant-loop-r l = (l.r-end ≡ l.self.sheet.rows) × (l.r ≤ l.r-end) × (range (names_turn l.self.bytes.now (records_of l.self.sheet) l.n) l.r l.r-end false ≡ range (names_turn l.self.bytes.now (records_of l.self.sheet) l.n) l.from l.self.sheet.rows false)
