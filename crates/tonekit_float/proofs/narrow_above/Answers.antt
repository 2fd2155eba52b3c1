-- `narrow_above`: below the limit the sum with the power of two rounds as the cast would; from it on the result is infinity.
use Rattle.std.proofs.Common.{◌≡◌, ℕ, ◌-◌, max, sym, ◌∙◌, ◌+◌, ◌*◌, ◌^◌, T, arith}
use Rattle.std.proofs.Math.Nat.{sub-add-eq-max}
use lib.Ieee.{binary64, fits, of_bits}
use Rattle.tonekit_float.proofs.Order.{yes}
use Rattle.tonekit_float.proofs.Narrowing.{Below, below, above, result, castable, below_inf, size_small}
use Rattle.tonekit_float.proofs.narrow_above.Goals as goal
use Rattle.tonekit_float.proofs.narrow_above.Goals.{Start, Then-x}

-- what owning an `f64` tells: the format holds it
held : (c : Start) → T (fits binary64 c.args.positive.value)
held c = yes c.well_formed.0.1.1.0.1

pub returns-else-x : goal.returns-else-x
unfolding of_bits
returns-else-x c = above c.args.positive.value (held (goal.at.returns-else-x c).Start) c.args.positive.above c.if-x.false

-- what the greater of the field and 897 is
raised : (n : ℕ) {r : ℕ} → r ≡ max n 897 → r ≡ n - 897 + 897
raised n e = e ∙ sym (sub-add-eq-max n 897)

known : (c : Then-x) → Below c.args.positive.value
known c = below c.args.positive.value (held c.before) c.args.positive.above c.if-x.true

pub returns-then-x : goal.returns-then-x
returns-then-x c =
    let x = c.args.positive.value in
    result x c.max.result (known (goal.at.returns-then-x c).Then-x) (raised _ c.max.ensures)

pub overflow_add-c : goal.overflow_add-c
overflow_add-c c = let k = known (goal.at.overflow_add-c c).Then-x in omega (arith, size_small c.args.positive.value k, k.field, (raised _ c.max.ensures))

pub overflow_mul-c : goal.overflow_mul-c
overflow_mul-c c = let k = known (goal.at.overflow_mul-c c).Then-x in omega (arith, size_small c.args.positive.value k, k.field, (raised _ c.max.ensures))

pub float_from_bits-c : goal.float_from_bits-c
float_from_bits-c c =
    let k = known (goal.at.float_from_bits-c c).Then-x in
    below_inf ((c.max.result + 29) * 2 ^ 52) (omega (arith, size_small c.args.positive.value k, k.field, (raised _ c.max.ensures)))

pub float_to_float-result : goal.float_to_float-result
float_to_float-result c =
    let x = c.args.positive.value in
    castable x _ (known (goal.at.float_to_float-result c).Then-x) (result x c.max.result (known (goal.at.float_to_float-result c).Then-x) (raised _ c.max.ensures))
