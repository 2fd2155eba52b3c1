-- `depth` meets its contract.
use Rattle.std.proofs.Common.{arith}
use Rattle.tonekit_log.proofs.Floor.{Deep, deep, asks, cut_le, answer_up, answer_same}
use Rattle.tonekit_log.proofs.depth.Goals as goal
use Rattle.tonekit_log.proofs.depth.Goals.{Start}

known : (c : Start) → Deep c.args.t
known c = deep c.args.t c.requires.high c.requires.low

pub truncating_f64_to_u64-u-requires : goal.truncating_f64_to_u64-u-requires
truncating_f64_to_u64-u-requires c =
    let both = asks c.args.t (known (goal.at.truncating_f64_to_u64-u-requires c).Start) in
    record { lower_bound = both.0; upper_bound = both.1 }

pub overflow_add-result : goal.overflow_add-result
overflow_add-result c =
    omega (arith, cut_le c.args.t (known (goal.at.overflow_add-result c).Start) c.truncating_f64_to_u64-u.result c.truncating_f64_to_u64-u.ensures)

pub returns-then-nearest_u64_to_f64-y : goal.returns-then-nearest_u64_to_f64-y
returns-then-nearest_u64_to_f64-y c =
    answer_up c.args.t (known (goal.at.returns-then-nearest_u64_to_f64-y c).Start) c.truncating_f64_to_u64-u.result c.nearest_u64_to_f64.result c.truncating_f64_to_u64-u.ensures c.nearest_u64_to_f64.ensures c.if-nearest_u64_to_f64-y.true

pub returns-else-nearest_u64_to_f64-y : goal.returns-else-nearest_u64_to_f64-y
returns-else-nearest_u64_to_f64-y c =
    answer_same c.args.t (known (goal.at.returns-else-nearest_u64_to_f64-y c).Start) c.truncating_f64_to_u64-u.result c.nearest_u64_to_f64.result c.truncating_f64_to_u64-u.ensures c.nearest_u64_to_f64.ensures c.if-nearest_u64_to_f64-y.false
