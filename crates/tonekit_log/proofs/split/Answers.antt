-- `split` meets its contract, by the cases of x.
use Rattle.std.proofs.Common.{T, sym, ap, ◌∙◌, subst}
use lib.Ieee.{fits, binary64, of_bits}
use Rattle.tonekit_float.proofs.Signs.{positive, limited}
use Rattle.spec_arithmetic.specs.Log.{centred}
use Rattle.tonekit_log.proofs.LogCases.{at_number, at_infinity, at_zero, at_nan}
use Rattle.tonekit_log.proofs.split.Goals as goal
use Rattle.tonekit_log.proofs.split.Goals.{Start}

held : (c : Start) → T (fits binary64 c.args.x)
held c = subst T (sym c.well_formed.0.1) tt

pub scaled-requires : goal.scaled-requires
scaled-requires c = limited c.args.x c.if-x-2.true

pub invariant_of-scaled : goal.invariant_of-scaled
invariant_of-scaled c = record { above = positive c.args.x c.if-x.true }

pub returns-then-x-2 : goal.returns-then-x-2
returns-then-x-2 c f =
    let x = c.args.x in
    at_number f x (held (goal.at.returns-then-x-2 c).Start) (positive x c.if-x.true) (limited x c.if-x-2.true)
    ∙ ap f (sym (c.centred.ensures ∙ ap centred c.scaled.ensures))

pub returns-else-x-2 : goal.returns-else-x-2
returns-else-x-2 c f = sym (at_infinity f c.args.x c.if-x.true c.if-x-2.false)

pub returns-then-x-3 : goal.returns-then-x-3
unfolding of_bits
returns-then-x-3 c f = sym (at_zero f c.args.x c.if-x-3.true)

pub returns-else-x-3 : goal.returns-else-x-3
unfolding of_bits
returns-else-x-3 c f = sym (at_nan f c.args.x c.if-x.false c.if-x-3.false)
