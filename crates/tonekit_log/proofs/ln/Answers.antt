-- `ln` meets its contract: the logarithm by the parts, or what there is without them.
use Rattle.std.proofs.Common.{sym, ap, ◌∙◌, subst, Float}
use lib.Ieee.{binary64, add, mul}
use Rattle.spec_arithmetic.specs.Constants.{LN2_HI, LN2_LO}
use Rattle.tonekit_log.proofs.LogCases.{ln_is, ln_at}
use Rattle.tonekit_log.proofs.ln.Goals as goal
use Rattle.tonekit_log.specs.Found.{IsPartsOf}

pub returns-in-Ok : goal.returns-in-Ok
returns-in-Ok c =
    ap (λ (y : Float). add binary64 (mul binary64 c.in-Ok.p.e LN2_HI) (add binary64 y (mul binary64 c.in-Ok.p.e LN2_LO))) c.log_series.ensures
    ∙ sym (ln_is c.args.x ∙ subst (IsPartsOf c.args.x) c.in-Ok.is c.split.ensures ln_at)

pub returns-in-Err : goal.returns-in-Err
returns-in-Err c = sym (ln_is c.args.x ∙ subst (IsPartsOf c.args.x) c.in-Err.is c.split.ensures ln_at)
