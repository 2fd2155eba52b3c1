-- `variant_weights_good` meets its contract: what is left of the loop, from here, gives what the whole gives.
use Rattle.std.proofs.Common.{rules}
use Rattle.tonekit_core.proofs.LoopLaws.{again, ended}
use Rattle.spec_judgement.specs.Target.{variant_weights_good}
use Rattle.tonekit_target.proofs.variant_weights_good.Goals as goal

pub loop-i-preserved : goal.loop-i-preserved
loop-i-preserved c =
    let l = c.loop-i.invariant in
    (l.0, search rules, again _ l.2 (search rules) (rw (← c.variant_weight.ensures, ← c.variant_weight_good-ok.ensures)))

pub returns : goal.returns
returns c = ended _ c.loop-i.invariant.2 (search rules)

pub loop-i-init : goal.loop-i-init
unfolding variant_weights_good
loop-i-init c = (c.from-i-end.ensures, search rules, rw c.from-i-end.ensures)
