-- `knot` meets its contract: the two comparisons. Assumes nothing.
use Rattle.std.proofs.Common.{T, sym, subst}
use lib.Ieee.{of_bits, neg, le}
use Rattle.replay.proofs.functions.knot.Goals as goal

pub returns-then-x-2 : goal.returns-then-x-2
unfolding of_bits neg
returns-then-x-2 c = record { low = subst T (sym c.if-x.true) tt; high = subst T (sym c.if-x-2.true) tt }

pub returns-else-x-2 : goal.returns-else-x-2
unfolding of_bits neg le
returns-else-x-2 c = record { low = tt; high = tt }

pub returns-else-x : goal.returns-else-x
unfolding of_bits neg le
returns-else-x c = record { low = tt; high = tt }
