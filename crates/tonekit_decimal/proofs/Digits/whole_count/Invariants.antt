use Rattle.std.proofs.Common.{◌≡◌, ◌≤◌}
use Rattle.tonekit_decimal.specs.Text.{whole_count}
use Rattle.tonekit_decimal.proofs.Digits.whole_count.Given as goal

abbrev pub invariant-loop-k : goal.invariant-loop-k
invariant-loop-k l = (l.count ≡ whole_count l.self.places l.k) × (l.count ≤ 39)
