-- `quadratic_coefficient` meets its contract, sum by sum.
use Rattle.std.proofs.Common.{ℕ, ◌≡◌, ◌-◌, List, length, Float}
use lib.Ieee.{binary64, div}
use Rattle.spec_arithmetic.specs.Constants.{whole64}
use Rattle.spec_shape.specs.declared.Moments.{Moments}
use Rattle.spec_shape.specs.Fit.{Part, voiced_sum, moments_of, normal_equations, lead_of, quadratic_coefficient}
use Rattle.tonekit_fit.specs.Lent.{lent_part}
use Rattle.tonekit_fit.proofs.Part.quadratic_coefficient.Goals as goal

found : (p : Part) (count : ℕ) {last sum n x : Float} {m : Moments} {g : List (List Float)}
    → last ≡ whole64 (length p.chao - 1)
    → sum ≡ voiced_sum p (λ j y. div binary64 (whole64 j) last)
    → n ≡ whole64 count
    → m ≡ moments_of p last (div binary64 sum n)
    → g ≡ normal_equations m
    → x ≡ lead_of g
    → x ≡ quadratic_coefficient p count
unfolding quadratic_coefficient
found p count last-is sum-is n-is m-is g-is x-is = rw (x-is, g-is, m-is, n-is, sum-is, last-is)

pub returns : goal.returns
returns c =
    found (lent_part c.args.self) c.args.count c.f64_of-last.ensures c.sum_fractions.ensures c.f64_of.ensures c.moments.ensures c.normal_equations.ensures c.lead.ensures
