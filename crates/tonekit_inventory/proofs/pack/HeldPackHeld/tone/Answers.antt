-- A pack's tone is its record's.
use Rattle.std.proofs.Common.{arith, ◌<◌}
use Rattle.tonekit_inventory.proofs.Tones.{tones_many, entry_is}
use Rattle.tonekit_inventory.proofs.pack.HeldPackHeld.tone.Goals as goal
use Rattle.tonekit_inventory.proofs.pack.HeldPackHeld.tone.Goals.{Start}

below : (c : Start) → c.args.t < c.args.self.now.view.pack.tones.count
below c = omega (arith, tones_many c.args.self.now.view.bytes.now c.args.self.now.view.pack)

pub offset_bounds-self-t : goal.offset_bounds-self-t
offset_bounds-self-t c = record { fits = omega (arith, below (goal.at.offset_bounds-self-t c).Start, c.args.self.now.view.pack.tones.few) }

pub bounds-self-t : goal.bounds-self-t
bounds-self-t c = omega (arith, below (goal.at.bounds-self-t c).Start, c.args.self.now.view.pack.tones.few)

pub returns : goal.returns
returns c =
    rw (c.tail_at.ensures, c.used.ensures, c.region_at.ensures, c.f32_at.ensures, c.byte_at.ensures, c.from-o.ensures) (entry_is c.args.self.now.view.bytes.now c.args.self.now.view.pack c.args.t (below (goal.at.returns c).Start) c.args.last)
