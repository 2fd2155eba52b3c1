-- `tonekit_ln` meets its contract, call by call.
use Rattle.tonekit_c.proofs.tonekit_ln.Goals as goal

pub returns : goal.returns
returns c = rw (← c.of_bits.ensures, ← c.ln.ensures) c.bits.ensures
