-- `name_at` meets its contract: a field for each call.
use Rattle.tonekit_sheet_inventory.specs.Look.{name_at}
use Rattle.tonekit_sheet_inventory.proofs.name_at.Goals as goal

pub returns : goal.returns
unfolding name_at
returns c = simp (← c.byte_at-3.ensures, ← c.u16_at.ensures, ← c.byte_at-2.ensures, ← c.byte_at.ensures)
