-- `raised` meets its contract: its shift loses no digit.
use Rattle.std.proofs.Common.{◌≡◌, ◌%◌, ◌-◌, ◌*◌, ◌/◌, ◌^◌, ◌<◌, ◌≤◌, ℕ, sym, ap, ◌∙◌, subst, lt_of_lt_of_le, mod-eq_of_lt, arith}
use Rattle.tonekit_root.proofs.Exact.{few_digits, raised_low, raised_high, four_two}
use Rattle.tonekit_root.proofs.raised.Goals as goal
use Rattle.tonekit_root.proofs.raised.Goals.{After-ilog2}

few : (c : After-ilog2) → c.ilog2.result < 52
few c = few_digits c.args.x c.ilog2.result c.ilog2.ensures.power_le c.requires.1

pub overflow_sub-n : goal.overflow_sub-n
overflow_sub-n c = omega (arith, few (goal.at.overflow_sub-n c).After-ilog2)

pub returns : goal.returns
returns c =
    let x = c.args.x in
    let d = c.ilog2.result in
    let n = (53 - d) / 2 in
    let z = few (goal.at.returns c).After-ilog2 in
    let low = raised_low x d n c.ilog2.ensures.power_le (omega arith) in
    let high = raised_high x d n c.ilog2.ensures.next_power_gt (omega arith) in
    let whole : x * 2 ^ (2 * n) % 2 ^ 64 ≡ x * 2 ^ (2 * n) = mod-eq_of_lt (lt_of_lt_of_le high (omega arith)) in (
      whole ∙ ap (λ (z : ℕ). x * z) (sym (four_two n)) ∙ ap (λ (k : ℕ). x * 4 ^ k) (sym c.from.ensures),
      subst (λ (z : ℕ). 2 ^ 52 ≤ z) (sym whole) low,
      subst (λ (z : ℕ). z < 2 ^ 54) (sym whole) high,
      omega (arith, c.from.ensures),
    )
