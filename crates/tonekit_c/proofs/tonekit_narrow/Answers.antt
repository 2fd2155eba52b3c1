-- `tonekit_narrow` meets its contract, call by call.
use Rattle.tonekit_c.proofs.tonekit_narrow.Goals as goal

pub returns : goal.returns
returns c = rw (← c.of_bits.ensures, ← c.narrow.ensures) c.bits.ensures
