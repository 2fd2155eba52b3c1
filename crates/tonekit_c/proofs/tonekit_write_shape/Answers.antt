-- `tonekit_write_shape` meets its contract, call by call.
use Rattle.tonekit_c.proofs.tonekit_write_shape.Goals as goal

pub returns : goal.returns
returns c =
    let w = c.write_shape.ensures in
    record { number = rw (← w.answer) c.hand.ensures.0; at = rw (← w.answer) c.hand.ensures.1; buffer = w.buffer }
