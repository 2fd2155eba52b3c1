-- `tonekit_log2` meets its contract, call by call.
use Rattle.tonekit_c.proofs.tonekit_log2.Goals as goal

pub returns : goal.returns
returns c = rw (← c.of_bits.ensures, ← c.log2.ensures) c.bits.ensures
