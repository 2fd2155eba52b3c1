-- `squares_of` meets its contract: a turn of the loop is a turn of the sums.
use Rattle.std.proofs.Common.{rules}
use Rattle.tonekit_core.proofs.LoopLaws.{again, ended}
use Rattle.spec_judgement.specs.Score.{squares_of}
use Rattle.tonekit_score.proofs.squares_of.Goals as goal

pub loop-k-preserved : goal.loop-k-preserved
loop-k-preserved c =
    again _ c.loop-k.invariant (search rules)
    (rw (← c.point_weight-w.ensures, ← c.from.ensures, ← c.from-in-loop-k.ensures))

pub returns : goal.returns
unfolding squares_of
returns c = ended _ c.loop-k.invariant (search rules)
