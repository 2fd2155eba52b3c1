-- A search finds a tone that is held.
use Rattle.std.proofs.Common.{refl, sym}
use Rattle.tonekit_sheet_read.specs.Held.{records_of}
use Rattle.spec_sheet.specs.FromSheet.{source_of_sheet}
use Rattle.spec_lookup.specs.Source.{tone_at}
use Rattle.tonekit_inventory.proofs.Search.{tone_held}
use Rattle.tonekit_sheet_inventory.proofs.HeldSheetHeld.holds_tone.Goals as goal

pub returns : goal.returns
unfolding source_of_sheet
returns c =
    let a = c.args in
    rw (c.is_some.ensures, c.tone_index.ensures) (sym (tone_held a.self.now.view.bytes.now (records_of a.self.now.view.sheet).tones a.number (tone_at 6 24 a.self.now.view.bytes.now) (λ o. refl)))
