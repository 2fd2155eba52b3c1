use Rattle.std.proofs.Common.{◌≡◌, ◌+◌, ◌-◌, ◌≤◌, ◌++◌, length}
use Rattle.tonekit_decimal.specs.Text.{figures}
use Rattle.tonekit_decimal.proofs.Digits.add_figures.Given as goal

-- the digits that are out are the highest
abbrev pub invariant-loop-digit : goal.invariant-loop-digit
invariant-loop-digit l =
    (length l.yielded ≤ l.end - l.low)
    × (length l.text.bytes ≡ length l.initial.text.bytes + length l.yielded)
    × (l.text.bytes ++ figures l.self.places l.low (l.end - length l.yielded - l.low) ≡ l.initial.text.bytes ++ figures l.self.places l.low (l.end - l.low))
