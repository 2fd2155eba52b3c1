-- `floor_index`: between 0 and 2 ^ 53 the cast gives the whole part.
use Rattle.std.proofs.Common.{◌∙◌}
use Rattle.tonekit_float.proofs.Whole.{above_minus_one, below_2_64, cast_is}
use Rattle.tonekit_float.proofs.floor_index.Goals as goal

pub returns : goal.returns
returns c = c.truncating_f64_to_u64.ensures ∙ cast_is c.args.x c.requires.low c.requires.high

pub truncating_f64_to_u64-requires : goal.truncating_f64_to_u64-requires
truncating_f64_to_u64-requires c = record { lower_bound = above_minus_one c.args.x c.requires.low; upper_bound = below_2_64 c.args.x c.requires.high }
