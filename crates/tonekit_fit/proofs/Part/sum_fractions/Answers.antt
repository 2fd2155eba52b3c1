-- `sum_fractions` meets its contract.
use Rattle.std.proofs.Common.{ℕ, rules, Float}
use lib.Ieee.{binary64, add, div}
use Rattle.spec_arithmetic.specs.Constants.{whole64}
use Rattle.tonekit_fit.proofs.Part.sum_fractions.Goals as goal

pub returns : goal.returns
returns c =
    c.over_voiced.ensures (λ (t : Float) (j : ℕ) (y : Float). add binary64 t (div binary64 (whole64 j) c.args.last)) (λ s j y r h k. search rules)
