-- `ten_at` meets its contract: each point is read at its place.
use Rattle.std.proofs.Common.{arith}
use Rattle.tonekit_sheet_inventory.proofs.Slots.{ten_are}
use Rattle.tonekit_sheet_inventory.proofs.ten_at.Goals as goal

pub returns : goal.returns
returns c = ten_are _ _ _ c.loop-k.invariant.0 (λ i h. c.loop-k.invariant.1 i (omega arith))
