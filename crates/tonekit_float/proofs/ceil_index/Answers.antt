-- `ceil_index`: the whole part, and one more where it is below x.
use Rattle.std.proofs.Common.{◌≡◌, ℕ, ◌+◌, ◌^◌, ◌<◌, true, false, ap, ◌∙◌, subst, arith}
use lib.Ieee.{binary64, lt}
use Rattle.spec_arithmetic.specs.Whole.{whole_part}
use Rattle.tonekit_float.proofs.Exact.{whole}
use Rattle.tonekit_float.proofs.Whole.{up_lt, more_up, no_more_up, none_up, exact_index}
use Rattle.tonekit_float.proofs.ceil_index.Goals as goal
use Rattle.tonekit_float.proofs.ceil_index.Goals.{Then-x}

-- the whole part is below 2 ^ 53
small : (c : Then-x) → whole_part c.args.x < 2 ^ 53
small c = up_lt c.args.x c.if-x.true c.requires

pub int_to_float-n : goal.int_to_float-n
int_to_float-n c = exact_index c.floor_index-n.result (omega (arith, small (goal.at.int_to_float-n c).Then-x, c.floor_index-n.ensures))

pub overflow_add-result : goal.overflow_add-result
overflow_add-result c = omega (arith, small (goal.at.overflow_add-result c).Then-x)

pub returns-then-n-x : goal.returns-then-n-x
returns-then-n-x c =
    let x = c.args.x in
    let e = c.floor_index-n.ensures in
    ap (λ (n : ℕ). n + 1) e ∙ more_up x c.if-x.true c.requires (subst (λ (n : ℕ). lt (whole binary64 n) x ≡ true) e c.if-n-x.true)

pub returns-else-n-x : goal.returns-else-n-x
returns-else-n-x c =
    let x = c.args.x in
    let e = c.floor_index-n.ensures in
    e ∙ no_more_up x c.if-x.true c.requires (subst (λ (n : ℕ). lt (whole binary64 n) x ≡ false) e c.if-n-x.false)

pub returns-else-x : goal.returns-else-x
returns-else-x c = none_up c.args.x c.if-x.false
