-- `scaled` meets its contract.
use lib.Ieee.{of_bits, of_int}
use Rattle.tonekit_log.proofs.LogCases.{scaled_number}
use Rattle.tonekit_log.proofs.scaled.Goals as goal
use Rattle.tonekit_log.specs.Found.{scaled}

pub fields-p-requires : goal.fields-p-requires
unfolding of_bits
fields-p-requires c = (scaled_number c.args.positive.value c.args.positive.above c.requires).1

pub returns-then-x : goal.returns-then-x
unfolding scaled of_int of_bits
returns-then-x c = rw (c.if-x.true, c.fields-p.ensures)

pub returns-else-x : goal.returns-else-x
unfolding scaled
returns-else-x c = rw (c.if-x.false, c.fields.ensures)
