-- A sheet's settings stand first.
use Rattle.spec_sheet.specs.FromSheet.{source_of_sheet}
use Rattle.tonekit_inventory.specs.Fields.{settings_at}
use Rattle.tonekit_sheet_inventory.proofs.HeldSheetHeld.settings.Goals as goal

pub returns : goal.returns
unfolding source_of_sheet settings_at
returns c = c.settings_at.ensures
