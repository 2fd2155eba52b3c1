use Rattle.std.proofs.Common.{◌≡◌, ◌-◌}
use Rattle.tonekit_decimal.specs.Digits.{search_in}
use Rattle.tonekit_decimal.proofs.Interval.shortest.Given as goal

abbrev pub invariant-loop-p : goal.invariant-loop-p
invariant-loop-p l =
    search_in l.self.low.places l.self.value.places l.self.high.places l.self.odd (l.p - 1)
    ≡ search_in l.self.low.places l.self.value.places l.self.high.places l.self.odd 189
