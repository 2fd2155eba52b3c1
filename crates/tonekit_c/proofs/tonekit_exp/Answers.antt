-- `tonekit_exp` meets its contract, call by call.
use Rattle.tonekit_c.proofs.tonekit_exp.Goals as goal

pub returns : goal.returns
returns c = rw (← c.of_bits.ensures, ← c.exp.ensures) c.bits.ensures
