-- `times` meets its contract.
use Rattle.std.proofs.Common.{◌*◌, ◌^◌, arith}
use Rattle.tonekit_root.proofs.Exact.{times_is}
use Rattle.tonekit_float.proofs.Narrowing.{below_inf}
use Rattle.tonekit_root.proofs.times.Goals as goal

pub float_from_bits-result : goal.float_from_bits-result
float_from_bits-result c = below_inf (c.args.f * 2 ^ 52) (omega (arith, c.requires))

pub returns : goal.returns
returns c = let h = c.requires in times_is c.args.q c.args.f h.0 h.1 h.2 h.3
