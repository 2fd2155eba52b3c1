use Rattle.std.proofs.Common.{eq-eqb, ne_eqb}
use Rattle.tonekit_decimal.specs.Decimal.{significand, scale_field, decimal_of}
use Rattle.tonekit_decimal.proofs.digits_of.Goals as goal

pub returns-then-e-eq0 : goal.returns-then-e-eq0
unfolding significand scale_field decimal_of
returns-then-e-eq0 c = simp (eq-eqb _ _ c.if-e-eq0.true, ← c.lower_gap-below.ensures) (rw c.from.ensures at c.shortest.ensures)

pub returns : goal.returns
unfolding significand scale_field decimal_of
returns c = simp (ne_eqb _ _ c.if-e-eq0.false, ← c.lower_gap-below.ensures) (rw c.from-2.ensures at c.shortest-2.ensures)
