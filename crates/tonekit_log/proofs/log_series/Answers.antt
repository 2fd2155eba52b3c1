-- `log_series` meets its contract: its eleven lines are the definition's eleven steps.
use Rattle.std.proofs.Common.{refl}
use lib.Ieee.{of_bits, of_int}
use Rattle.spec_arithmetic.specs.Log.{series, log_horner}
use Rattle.tonekit_log.proofs.log_series.Goals as goal

pub returns : goal.returns
unfolding series log_horner of_int of_bits
returns c = refl
