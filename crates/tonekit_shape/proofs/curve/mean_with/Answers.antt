use Rattle.std.proofs.Common.{eq-eqb, ne_eqb}
use lib.Ieee.{of_int, of_bits}
use Rattle.spec_shape.specs.Extract.{mean_with}
use Rattle.tonekit_shape.proofs.curve.mean_with.Goals as goal

pub returns-then-j-eq0 : goal.returns-then-j-eq0
unfolding mean_with of_int of_bits
returns-then-j-eq0 c = simp (eq-eqb _ _ c.if-j-eq0.true)

pub returns-then-j-curve : goal.returns-then-j-curve
unfolding mean_with of_int of_bits
returns-then-j-curve c = simp (ne_eqb _ _ c.if-j-eq0.false, eq-eqb _ _ c.if-j-curve.true)

pub returns : goal.returns
unfolding mean_with of_int of_bits
returns c = simp (ne_eqb _ _ c.if-j-eq0.false, ne_eqb _ _ c.if-j-curve.false)
