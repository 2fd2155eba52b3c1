-- `centred` meets its contract.
use Rattle.spec_arithmetic.specs.Log.{centred}
use Rattle.tonekit_log.proofs.centred.Goals as goal

pub returns-then-p : goal.returns-then-p
unfolding centred
returns-then-p c = rw c.if-p.true

pub returns-else-p : goal.returns-else-p
unfolding centred
returns-else-p c = rw c.if-p.false
