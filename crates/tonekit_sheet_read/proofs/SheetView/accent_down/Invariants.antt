use Rattle.std.proofs.Common.{◌≡◌, ◌≤◌, length, None}
use Rattle.tonekit_core.specs.Loop.{range_to}
use Rattle.spec_sheet.specs.Reader.{accent_down}
use Rattle.tonekit_sheet.specs.Parts.{accent_turn}
use Rattle.tonekit_sheet_read.specs.Held.{records_of}
use Rattle.tonekit_sheet_read.proofs.SheetView.accent_down.Given as goal

abbrev pub invariant-loop-i : goal.invariant-loop-i
invariant-loop-i l = (l.i-end ≡ l.self.sheet.accents) × (l.i ≤ l.i-end) × (range_to (accent_turn l.self.bytes.now (records_of l.self.sheet)) (λ n. None) l.i (length (records_of l.self.sheet).accents) l.before ≡ accent_down l.self.bytes.now (records_of l.self.sheet))
