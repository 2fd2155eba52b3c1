-- `moments` meets its contract.
use Rattle.std.proofs.Common.{ℕ, rules, Float}
use lib.Ieee.{binary64, sub, div}
use Rattle.spec_arithmetic.specs.Constants.{whole64}
use Rattle.spec_shape.specs.declared.Moments.{Moments}
use Rattle.spec_shape.specs.Fit.{point_added, moments_of}
use Rattle.tonekit_fit.proofs.Part.moments.Goals as goal

pub returns : goal.returns
unfolding moments_of
returns c =
    c.over_voiced.ensures (λ (m : Moments) (j : ℕ) (y : Float). point_added (sub binary64 (div binary64 (whole64 j) c.args.last) c.args.mx) y m) (λ s j y r h k. search rules)
