-- `end` meets its contract: the two comparisons, whose literals are written otherwise. Assumes nothing.
use Rattle.std.proofs.Common.{T, sym, subst}
use Rattle.std.specs.Prelude.{true, false, pos}
use lib.Ieee.{fin, of_bits, neg, le}
use Rattle.tonekit_float.proofs.Order.{le_trans_float}
use Rattle.replay.proofs.functions.end.Goals as goal

pub returns-then-x-2 : goal.returns-then-x-2
unfolding of_bits neg le
returns-then-x-2 c = record {
  low = le_trans_float (fin true 8190 (pos 0)) (fin true 4095 (pos 1)) c.args.x tt (subst T (sym c.if-x.true) tt);
  high = le_trans_float c.args.x (fin false 4095 (pos 1)) (fin false 8190 (pos 0)) (subst T (sym c.if-x-2.true) tt) tt;
}

pub returns-else-x-2 : goal.returns-else-x-2
unfolding of_bits neg le
returns-else-x-2 c = record { low = tt; high = tt }

pub returns-else-x : goal.returns-else-x
unfolding of_bits neg le
returns-else-x c = record { low = tt; high = tt }
