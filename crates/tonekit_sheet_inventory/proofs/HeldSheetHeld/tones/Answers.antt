-- A sheet has as many tones as it counts.
use Rattle.std.proofs.Common.{sym}
use Rattle.tonekit_sheet_inventory.proofs.Tones.{tones_many}
use Rattle.tonekit_sheet_inventory.proofs.HeldSheetHeld.tones.Goals as goal

pub returns-clause-count : goal.returns-clause-count
returns-clause-count c = sym (tones_many c.args.self.now.view.bytes.now c.args.self.now.view.sheet)
