-- `INFINITY` of F32: a fraction over 0.
use Rattle.std.proofs.Common.{refl}
use lib.Ieee.{div, neg, of_bits}
use Rattle.tonekit_float.proofs.F32AnyFloat.INFINITY.Goals as goal

pub returns : goal.returns
unfolding div neg of_bits
returns c = refl
