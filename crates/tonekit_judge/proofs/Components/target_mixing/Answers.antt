-- `target_mixing` meets its contract: a turn of the loop is a turn of the mixture.
use Rattle.std.proofs.Common.{rules, refl}
use Rattle.tonekit_core.proofs.LoopLaws.{again, ended}
use Rattle.spec_judgement.specs.Judge.{target_mixing}
use Rattle.tonekit_judge.proofs.Components.target_mixing.Goals as goal

pub loop-target-preserved : goal.loop-target-preserved
loop-target-preserved c =
    let l = c.loop-target in
    again _ l.invariant (search rules) (rw (c.part_mixing-m.ensures, c.count_of.ensures, c.deref.ensures.0, c.from-t.ensures, c.deref-target-items.ensures.0) refl)

pub returns : goal.returns
unfolding target_mixing
returns c = ended _ c.loop-target.invariant (search rules)
