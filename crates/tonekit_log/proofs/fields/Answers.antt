-- `fields` meets its contract.
use Rattle.std.proofs.Common.{◌+◌, ◌%◌, ◌^◌, arith, to_bits}
use lib.Ieee.{binary64, of_int, of_bits}
use Rattle.tonekit_float.proofs.Narrowing.{below_inf}
use Rattle.tonekit_log.proofs.fields.Goals as goal
use Rattle.tonekit_log.specs.Found.{fields}

pub float_from_bits-m : goal.float_from_bits-m
float_from_bits-m c = below_inf (0x3ff0_0000_0000_0000 + to_bits binary64 c.args.x % 2 ^ 52) (omega arith)

pub returns : goal.returns
unfolding fields of_int of_bits
returns c = rw c.nearest_u64_to_f64-e.ensures
