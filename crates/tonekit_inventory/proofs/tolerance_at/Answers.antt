-- `tolerance_at` meets its contract: a field for each call.
use Rattle.std.proofs.Common.{add-zero}
use Rattle.tonekit_inventory.specs.Fields.{tolerance_at}
use Rattle.tonekit_inventory.proofs.tolerance_at.Goals as goal

pub returns : goal.returns
unfolding tolerance_at
returns c = simp (add-zero, ← c.f32_at-4.ensures, ← c.f32_at-3.ensures, ← c.f32_at-2.ensures, c.f32_at.ensures)
