-- `tonekit_root` meets its contract, call by call.
use Rattle.tonekit_c.proofs.tonekit_root.Goals as goal

pub returns : goal.returns
returns c = rw (← c.of_bits.ensures, ← c.sqrt.ensures) c.bits.ensures
