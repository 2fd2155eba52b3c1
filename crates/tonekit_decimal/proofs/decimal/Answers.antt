use Rattle.std.proofs.Common.{eq-eqb, ne_eqb}
use Rattle.tonekit_decimal.specs.Decimal.{sign_field, exponent_field, fraction_field, decimal_text}
use Rattle.tonekit_decimal.proofs.decimal.Goals as goal

pub returns-then-e-eq255 : goal.returns-then-e-eq255
unfolding sign_field exponent_field fraction_field decimal_text
returns-then-e-eq255 c = simp (eq-eqb _ _ c.if-e-eq255.true) c.not_finite.ensures

pub returns : goal.returns
unfolding sign_field exponent_field fraction_field decimal_text
returns c = simp (ne_eqb _ _ c.if-e-eq255.false, ← c.digits_of.ensures) c.finite.ensures
