-- `sqrt` meets its contract.
use lib.Ieee.{of_bits}
use Rattle.tonekit_root.proofs.Cases.{at_infinity, at_zero, at_nan}
use Rattle.tonekit_float.proofs.Signs.{positive, limited}
use Rattle.tonekit_root.proofs.sqrt.Goals as goal

pub root_above-requires : goal.root_above-requires
root_above-requires c = limited c.args.x c.if-x-2.true

pub invariant_of-root_above : goal.invariant_of-root_above
invariant_of-root_above c = record { above = positive c.args.x c.if-x.true }

pub returns-else-x-2 : goal.returns-else-x-2
returns-else-x-2 c = at_infinity c.args.x c.if-x.true c.if-x-2.false

pub returns-then-x-3 : goal.returns-then-x-3
returns-then-x-3 c = at_zero c.args.x c.if-x-3.true

pub returns-else-x-3 : goal.returns-else-x-3
unfolding of_bits
returns-else-x-3 c = at_nan c.args.x c.if-x.false c.if-x-3.false
