-- A pack has as many tones as it counts.
use Rattle.std.proofs.Common.{sym, ◌∙◌, arith}
use Rattle.tonekit_bytes.proofs.InOrder.{order_length}
use Rattle.tonekit_inventory.proofs.Tones.{tones_many}
use Rattle.tonekit_inventory.proofs.pack.HeldPackHeld.tones.Goals as goal

pub returns : goal.returns
returns c =
    let p = c.args.self.now.view.pack in
    record {
      count = c.len.ensures ∙ order_length p.tones.at p.tones.count ∙ sym (tones_many c.args.self.now.view.bytes.now p);
      few = omega (arith, c.len.ensures, order_length p.tones.at p.tones.count, p.tones.few);
    }
