-- `sum_products` meets its contract: its walk keeps two sums.
use Rattle.std.proofs.Common.{ℕ, ◌∙◌, rules, Float}
use lib.Ieee.{binary64, sub, mul}
use Rattle.spec_shape.specs.Fit.{seconds}
use Rattle.tonekit_fit.specs.Lent.{lent_part}
use Rattle.tonekit_fit.proofs.Pairs.{both, pair_walk}
use Rattle.tonekit_fit.proofs.Part.sum_products.Goals as goal

pub returns : goal.returns
returns c =
    let p = lent_part c.args.self in
    let mx = c.args.mx in
    let my = c.args.my in
    let a = λ (j : ℕ) (y : Float). mul binary64 (sub binary64 (seconds j) mx) (sub binary64 (seconds j) mx) in
    let b = λ (j : ℕ) (y : Float). mul binary64 (sub binary64 (seconds j) mx) (sub binary64 y my) in
    c.over_voiced.ensures (both p a b) (λ s j y r h k. search rules) ∙ pair_walk p a b
