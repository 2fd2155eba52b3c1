-- `MINUS_INFINITY` of F64: a fraction over 0.
use Rattle.std.proofs.Common.{refl}
use lib.Ieee.{div, neg, of_bits}
use Rattle.tonekit_float.proofs.F64AnyFloat.MINUS_INFINITY.Goals as goal

pub returns : goal.returns
unfolding div neg of_bits
returns c = refl
