-- `exp` meets its contract: past its three tests, what the whole number n gives.
use Rattle.std.proofs.Common.{◌≡◌, ◌*◌, ◌^◌, false, ap, ◌∙◌, arith, Float, is_nan}
use lib.Ieee.{binary64, of_bits, mul, neg}
use Rattle.spec_arithmetic.specs.Bounds.{In}
use Rattle.tonekit_float.proofs.Nans.{ne_self}
use Rattle.tonekit_float.proofs.Narrowing.{below_inf}
use Rattle.spec_arithmetic.specs.Constants.{bound}
use Rattle.tonekit_log.proofs.Turns.{inside, between}
use Rattle.tonekit_log.proofs.ExpCases.{field_of, field_small, result_is, nan_result, low_result, high_result}
use Rattle.tonekit_log.proofs.exp.Goals as goal
use Rattle.tonekit_log.proofs.exp.Goals.{Else-v-3}

-- past the three tests
number : (c : Else-v-3) → is_nan c.args.v ≡ false
number c = ne_self c.args.v ∙ c.if-v.false

within : (c : Else-v-3) → In (neg bound) bound c.args.v
within c = inside c.args.v (number c) c.if-v-2.false c.if-v-3.false

pub returns-then-v : goal.returns-then-v
returns-then-v c = nan_result c.args.v (ne_self c.args.v ∙ c.if-v.true)

pub returns-then-v-2 : goal.returns-then-v-2
unfolding of_bits
returns-then-v-2 c = low_result c.args.v (ne_self c.args.v ∙ c.if-v.false) c.if-v-2.true

pub returns-then-v-3 : goal.returns-then-v-3
unfolding of_bits
returns-then-v-3 c = high_result c.args.v (ne_self c.args.v ∙ c.if-v.false) c.if-v-2.false c.if-v-3.true

pub whole_below-n-requires : goal.whole_below-n-requires
unfolding neg
whole_below-n-requires c =
    let b = between c.args.v (within (goal.at.whole_below-n-requires c).Else-v-3) in
    record { low = b.low; high = b.high }

pub float_from_bits-result : goal.float_from_bits-result
float_from_bits-result c =
    let n = c.whole_below-n in
    let small = field_small n.result n.ensures.range in
    below_inf (field_of n.result * 2 ^ 52) (omega arith)

pub returns : goal.returns
returns c =
    let v = c.args.v in
    let n = c.whole_below-n in
    ap (λ (y : Float). mul binary64 y (of_bits binary64 (field_of n.result * 2 ^ 52))) c.exp_series.ensures
    ∙ result_is v n.result (number (goal.at.returns c).Else-v-3) c.if-v-2.false c.if-v-3.false n.ensures.value n.ensures.range
