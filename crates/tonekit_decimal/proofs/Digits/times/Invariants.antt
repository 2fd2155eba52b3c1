use Rattle.std.proofs.Common.{◌≡◌, ◌-◌}
use Rattle.tonekit_decimal.specs.Digits.{times_all}
use Rattle.tonekit_decimal.proofs.Digits.times.Given as goal

abbrev pub invariant-loop-i : goal.invariant-loop-i
invariant-loop-i l = times_all l.k (l.n - l.i) l.product.places ≡ times_all l.k l.n l.self.places
