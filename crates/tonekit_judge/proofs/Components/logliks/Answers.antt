-- `logliks` meets its contract: a turn of the loop is a turn of the definition.
use Rattle.std.proofs.Common.{rules, refl}
use Rattle.tonekit_core.proofs.LoopLaws.{again, ended}
use Rattle.spec_judgement.specs.Judge.{logliks}
use Rattle.tonekit_judge.proofs.Components.logliks.Goals as goal

pub loop-t-init : goal.loop-t-init
unfolding logliks
loop-t-init c = (search rules, refl)

pub loop-t-preserved : goal.loop-t-preserved
loop-t-preserved c = (search rules, again _ c.loop-t.invariant.1 (search rules) (rw (c.with_tail.ensures, c.loglik_at.ensures, c.count_of.ensures, c.tail_loglik-tail.ensures, c.deref-entry-items.ensures.0) refl))

pub returns : goal.returns
returns c = ended _ c.loop-t.invariant.1 (search rules)
