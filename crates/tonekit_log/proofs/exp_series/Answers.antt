-- `exp_series` meets its contract: its thirteen lines are the definition's thirteen steps.
use Rattle.std.proofs.Common.{refl}
use lib.Ieee.{of_bits, of_int}
use Rattle.spec_arithmetic.specs.Exp.{exp_series, exp_horner}
use Rattle.tonekit_log.proofs.exp_series.Goals as goal

pub returns : goal.returns
unfolding exp_series exp_horner of_int of_bits
returns c = refl
