use Rattle.tonekit_decimal.specs.Digits.{choice_in}
use Rattle.tonekit_decimal.proofs.Interval.choice.Goals as goal

pub returns-then-at_most : goal.returns-then-at_most
unfolding choice_in
returns-then-at_most c =
    simp (← c.scaled-down.ensures, ← c.scaled-up.ensures, ← c.scaled-twice.ensures, ← c.scaled-both.ensures, ← c.at_most.ensures, c.if-at_most.true, ← c.in-true-true.ensures, ← c.in-true-true.ensures')

pub returns-else-at_most : goal.returns-else-at_most
unfolding choice_in
returns-else-at_most c =
    simp (← c.scaled-down.ensures, ← c.scaled-up.ensures, ← c.scaled-twice.ensures, ← c.scaled-both.ensures, ← c.at_most.ensures, c.if-at_most.false, ← c.in-true-true.ensures, ← c.in-true-true.ensures')

pub returns-in-true-false : goal.returns-in-true-false
unfolding choice_in
returns-in-true-false c = simp (← c.scaled-down.ensures, ← c.scaled-up.ensures, ← c.in-true-false.ensures, ← c.in-true-false.ensures')

pub returns-in-false-true : goal.returns-in-false-true
unfolding choice_in
returns-in-false-true c = simp (← c.scaled-down.ensures, ← c.scaled-up.ensures, ← c.in-false-true.ensures, ← c.in-false-true.ensures')

pub returns-in-false-false : goal.returns-in-false-false
unfolding choice_in
returns-in-false-false c = simp (← c.scaled-down.ensures, ← c.scaled-up.ensures, ← c.in-false-false.ensures, ← c.in-false-false.ensures')
