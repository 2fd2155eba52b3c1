-- `tonekit_check_sheet` meets its contract, call by call.
use Rattle.tonekit_c.proofs.Handed.{handed}
use Rattle.tonekit_c.proofs.tonekit_check_sheet.Goals as goal

pub returns : goal.returns
returns c = rw (← c.check_sheet.ensures) (handed _ _ _ (rw c.and.ensures at c.hand.ensures))
