-- `main_weight` meets its contract: what is left of the loop, from here, gives what the whole gives.
use Rattle.std.proofs.Common.{sym, ap, rules}
use Rattle.tonekit_core.proofs.LoopLaws.{again, ended}
use Rattle.std.specs.Float.{binary32}
use Rattle.std.specs.Float.Ieee.{sub, add}
use Rattle.spec_arithmetic.specs.Constants.{one32}
use Rattle.spec_judgement.specs.Target.{main_weight}
use Rattle.tonekit_target.proofs.main_weight.Goals as goal

pub loop-i-preserved : goal.loop-i-preserved
loop-i-preserved c =
    let l = c.loop-i.invariant in
    (l.0, search rules, again _ l.2 (search rules) (ap (add binary32 _) (sym c.variant_weight-sum.ensures)))

pub returns : goal.returns
unfolding main_weight
returns c = ap (sub binary32 one32) (ended _ c.loop-i.invariant.2 (search rules))

pub loop-i-init : goal.loop-i-init
loop-i-init c = (c.from-i-end.ensures, search rules, rw c.from-i-end.ensures)
