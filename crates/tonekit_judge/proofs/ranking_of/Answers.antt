-- `ranking_of` meets its contract: a turn of the loop is a turn of the ranking, and the top stays a tone.
use Rattle.std.proofs.Common.{rules, refl, ◌<◌, length}
use Rattle.tonekit_core.proofs.LoopLaws.{again, ended}
use Rattle.spec_judgement.specs.declared.Lead.{Lead}
use Rattle.tonekit_judge.proofs.Turns.{rank_turn}
use Rattle.spec_judgement.specs.Judge.{ranking_of, ranked}
use Rattle.tonekit_judge.proofs.Cells.{led_keeps}
use Rattle.tonekit_judge.proofs.ranking_of.Goals as goal

pub loop-t-init : goal.loop-t-init
unfolding ranking_of
loop-t-init c = rw c.empty.ensures (record { left = refl; below = tt })

pub loop-t-preserved : goal.loop-t-preserved
unfolding ranked
loop-t-preserved c =
    let l = c.loop-t in
    rw (c.add_to.ensures, c.led.ensures, c.score_of-score.ensures, c.deref-entry-items.ensures.0)
    (record {
      left = again (rank_turn c.args.inventory.now c.args.ll.now) l.invariant.left (search rules) refl;
      below = led_keeps (λ (top : Lead). top.index < length c.args.inventory.now.items) l.r.top _ l.invariant.below (search rules);
    })

pub returns : goal.returns
returns c = (ended (rank_turn c.args.inventory.now c.args.ll.now) c.loop-t.invariant.left (search rules), c.loop-t.invariant.below)
