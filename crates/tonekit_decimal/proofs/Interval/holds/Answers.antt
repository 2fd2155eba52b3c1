use Rattle.tonekit_decimal.specs.Digits.{reads_in}
use Rattle.tonekit_decimal.proofs.Interval.holds.Goals as goal

pub returns-then-at_most : goal.returns-then-at_most
unfolding reads_in
returns-then-at_most c = simp (← c.at_most-then-at_most.ensures, c.if-at_most.true, ← c.at_most.ensures)

pub returns-else-at_most : goal.returns-else-at_most
unfolding reads_in
returns-else-at_most c = simp (c.if-at_most.false, ← c.at_most.ensures)
