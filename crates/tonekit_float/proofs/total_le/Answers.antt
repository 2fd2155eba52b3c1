-- `total_le`: a NaN b is the greatest, and of a NaN a every comparison is false.
use Rattle.spec_arithmetic.specs.Magnitude.{total_le}
use Rattle.tonekit_float.proofs.Nans.{ne_self}
use Rattle.tonekit_float.proofs.Total.{nan_le}
use Rattle.tonekit_float.proofs.total_le.Goals as goal

pub returns-then-b : goal.returns-then-b
unfolding total_le
returns-then-b c = rw (ne_self c.args.b, c.if-b.true)

pub returns : goal.returns
unfolding total_le
returns c = rw (ne_self c.args.b, c.if-b.false) (nan_le c.args.a c.args.b)
