-- `log2` meets its contract: the logarithm by the parts, or what there is without them.
use Rattle.std.proofs.Common.{sym, ap, ◌∙◌, subst, Float}
use lib.Ieee.{binary64, add, mul}
use Rattle.spec_arithmetic.specs.Constants.{LOG2E}
use Rattle.tonekit_log.proofs.LogCases.{log2_is, log2_at}
use Rattle.tonekit_log.proofs.log2.Goals as goal
use Rattle.tonekit_log.specs.Found.{IsPartsOf}

pub returns-in-Ok : goal.returns-in-Ok
returns-in-Ok c =
    ap (λ (y : Float). add binary64 c.in-Ok.p.e (mul binary64 y LOG2E)) c.log_series.ensures
    ∙ sym (log2_is c.args.x ∙ subst (IsPartsOf c.args.x) c.in-Ok.is c.split.ensures log2_at)

pub returns-in-Err : goal.returns-in-Err
returns-in-Err c = sym (log2_is c.args.x ∙ subst (IsPartsOf c.args.x) c.in-Err.is c.split.ensures log2_at)
