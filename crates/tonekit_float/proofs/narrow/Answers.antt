-- `narrow`: above 0, below 0, at a zero and at a NaN.
use Rattle.std.proofs.Common.{T, ap, ◌∙◌}
use lib.Ieee.{binary64, fits, of_bits, neg}
use Rattle.tonekit_float.proofs.Order.{yes}
use Rattle.tonekit_float.proofs.Narrowing.{turned, negated, at_zero, at_nan}
use Rattle.tonekit_float.proofs.narrow.Goals as goal
use Rattle.tonekit_float.proofs.narrow.Goals.{Start}

held : (c : Start) → T (fits binary64 c.args.x)
held c = yes c.well_formed.0.1

pub invariant_of-narrow_above-then-x-2 : goal.invariant_of-narrow_above-then-x-2
invariant_of-narrow_above-then-x-2 c = record { above = turned c.args.x c.if-x-2.true }

pub float_to_float-result : goal.float_to_float-result
float_to_float-result c = (at_zero c.args.x (held (goal.at.float_to_float-result c).Start) c.if-x-3.true).0

pub returns-then-x-2 : goal.returns-then-x-2
returns-then-x-2 c = ap neg c.narrow_above-then-x-2.ensures ∙ negated c.args.x

pub returns-then-x-3 : goal.returns-then-x-3
returns-then-x-3 c = (at_zero c.args.x (held (goal.at.returns-then-x-3 c).Start) c.if-x-3.true).1

pub returns-else-x-3 : goal.returns-else-x-3
unfolding of_bits
returns-else-x-3 c = at_nan c.args.x c.if-x.false c.if-x-2.false c.if-x-3.false
