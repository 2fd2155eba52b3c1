-- `tonekit_judge` meets its contract, call by call.
use Rattle.tonekit_c.proofs.tonekit_judge.Goals as goal

pub returns : goal.returns
returns c =
    let w = c.judge.ensures in
    record { number = rw (← w.answer) c.hand.ensures.0; at = rw (← w.answer) c.hand.ensures.1; buffer = w.buffer }
