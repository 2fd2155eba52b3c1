-- `sum_points` meets its contract: its walk keeps two sums.
use Rattle.std.proofs.Common.{ℕ, ◌∙◌, rules, Float}
use Rattle.spec_shape.specs.Fit.{seconds}
use Rattle.tonekit_fit.specs.Lent.{lent_part}
use Rattle.tonekit_fit.proofs.Pairs.{both, pair_walk}
use Rattle.tonekit_fit.proofs.Part.sum_points.Goals as goal

pub returns : goal.returns
returns c =
    let p = lent_part c.args.self in
    let a = λ (j : ℕ) (y : Float). seconds j in
    let b = λ (j : ℕ) (y : Float). y in
    c.over_voiced.ensures (both p a b) (λ s j y r h k. search rules) ∙ pair_walk p a b
