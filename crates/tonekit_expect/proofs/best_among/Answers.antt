use Rattle.std.proofs.Common.{refl, sym}
use Rattle.tonekit_core.proofs.LoopLaws.{again, ended}
use Rattle.tonekit_expect.proofs.best_among.Goals as goal

pub loop-k-preserved : goal.loop-k-preserved
loop-k-preserved c =
    again _ c.loop-k.invariant c.loop-k-test.true (rw (← c.rule_at.ensures) (sym c.better-best.ensures))

pub returns : goal.returns
returns c = ended _ c.loop-k.invariant c.loop-k-test.false

pub loop-k-init : goal.loop-k-init
loop-k-init c = refl
