-- `at_least_min_span` meets its contract.
use Rattle.spec_shape.specs.Register.{at_least_min_span}
use Rattle.tonekit_min_span.proofs.Ranges.{middle_size}
use Rattle.tonekit_min_span.proofs.Turns.{half_span, going_start, going_again, going_done, falls}
use Rattle.tonekit_min_span.proofs.at_least_min_span.Goals as goal

pub loop-r-init : goal.loop-r-init
loop-r-init c = rw (c.narrow.ensures, c.narrow-2.ensures, c.from.ensures, c.from-2.ensures, c.from-half.ensures, half_span) (going_start _ _)

pub loop-r-preserved : goal.loop-r-preserved
loop-r-preserved c =
    let g = going_again _ _ _ (middle_size c.args.r c.requires.0 c.requires.1) c.loop-r.invariant c.loop-r-test.true in
    rw (c.narrow-step.ensures, c.abs.ensures.value, c.from.ensures, c.from-2.ensures, c.from-half.ensures, half_span) g.1

pub loop-r-smaller : goal.loop-r-smaller
loop-r-smaller c =
    let g = going_again _ _ _ (middle_size c.args.r c.requires.0 c.requires.1) c.loop-r.invariant c.loop-r-test.true in
    rw (c.narrow-step.ensures, c.abs.ensures.value, c.from.ensures, c.from-2.ensures, c.from-half.ensures, half_span) (falls _ _ g.0 c.loop-r-test.true)

pub returns : goal.returns
unfolding at_least_min_span
returns c = rw c.if-r.false (going_done _ _ _ c.loop-r.invariant c.loop-r-test.false)

pub returns-then-r : goal.returns-then-r
unfolding at_least_min_span
returns-then-r c = rw c.if-r.true
