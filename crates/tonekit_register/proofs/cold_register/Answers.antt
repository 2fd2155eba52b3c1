-- `cold_register`: of no percentiles the fallback, else what `at_least_min_span` makes of them, whose ends are near enough.
use Rattle.std.proofs.Common.{refl, sym, ◌∙◌}
use Rattle.spec_shape.specs.Register.{voiced_st}
use Rattle.tonekit_register.proofs.Literals.{two_is}
use Rattle.tonekit_register.proofs.Ends.{cold_none, cold_some, percentiles_near}
use Rattle.tonekit_register.proofs.cold_register.Goals as goal

pub returns-in_default : goal.returns-in_default
returns-in_default c = c.fallback_register.ensures ∙ sym (cold_none (voiced_st c.args.frames.now c.args.count) c.in_default.ensures)

pub at_least_min_span-requires : goal.at_least_min_span-requires
at_least_min_span-requires c =
    rw (c.narrow.ensures, c.narrow-3.ensures, two_is) (percentiles_near c.args.frames.now c.args.count c.in-Some.p c.requires c.in-Some.ensures)

pub returns : goal.returns
returns c =
    rw (cold_some (voiced_st c.args.frames.now c.args.count) c.in-Some.p c.in-Some.ensures)
    (c.at_least_min_span.ensures ∙ rw (c.narrow.ensures, c.narrow-2.ensures, c.narrow-3.ensures, two_is) refl)
