use Rattle.std.proofs.Common.{rules}
use Rattle.tonekit_decimal.proofs.Turns.{times_turn, times_end}
use Rattle.tonekit_decimal.proofs.Digits.times.Goals as goal

pub loop-i-preserved : goal.loop-i-preserved
loop-i-preserved c = rw c.scaled-product.ensures (times_turn c.args.k c.args.n c.loop-i.i c.loop-i.product.places _ (search rules) c.loop-i.invariant)

pub returns : goal.returns
returns c = times_end c.args.k c.args.n c.loop-i.i c.loop-i.product.places _ (search rules) c.loop-i.invariant
