-- A sheet's tone is its record's.
use Rattle.std.proofs.Common.{arith, ◌<◌}
use Rattle.tonekit_sheet_inventory.proofs.Tones.{tones_many, entry_is}
use Rattle.tonekit_sheet_inventory.proofs.HeldSheetHeld.tone.Goals as goal
use Rattle.tonekit_sheet_inventory.proofs.HeldSheetHeld.tone.Goals.{Start}

below : (c : Start) → c.args.t < c.args.self.now.view.sheet.tones
below c = omega (arith, tones_many c.args.self.now.view.bytes.now c.args.self.now.view.sheet)

pub sheet_tone_at-o-requires : goal.sheet_tone_at-o-requires
sheet_tone_at-o-requires c = omega (arith, below (goal.at.sheet_tone_at-o-requires c).Start, c.args.self.now.view.sheet.few_tones)

pub overflow_add-o : goal.overflow_add-o
overflow_add-o c = record { fits = omega (arith, c.sheet_tone_at-o.ensures, below (goal.at.overflow_add-o c).Start, c.args.self.now.view.sheet.few_tones) }

pub overflow_add-o-2 : goal.overflow_add-o-2
overflow_add-o-2 c = record { fits = omega (arith, c.sheet_tone_at-o.ensures, below (goal.at.overflow_add-o-2 c).Start, c.args.self.now.view.sheet.few_tones) }

pub returns : goal.returns
returns c =
    rw (c.tail_at.ensures, c.used.ensures, c.region_at.ensures, c.f32_at.ensures, c.byte_at.ensures)
    (entry_is c.args.self.now.view.bytes.now c.args.self.now.view.sheet c.args.t (below (goal.at.returns c).Start) c.args.last _ c.sheet_tone_at-o.ensures)
