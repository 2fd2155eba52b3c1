-- `mixed_tail` meets its contract: a turn of the loop is a turn of the definition.
use Rattle.std.proofs.Common.{rules, refl}
use Rattle.tonekit_core.proofs.LoopLaws.{again, ended}
use Rattle.tonekit_tail.specs.Mixed.{mixed_tail}
use Rattle.tonekit_tail.proofs.mixed_tail.Goals as goal

pub loop-k-preserved : goal.loop-k-preserved
loop-k-preserved c = again _ c.loop-k.invariant (search rules) (rw (c.add_to.ensures, c.tail_term.ensures, c.deref.ensures.0) refl)

pub returns : goal.returns
unfolding mixed_tail
returns c =
    rw (c.narrow.ensures, c.value_of.ensures, c.add_to-2.ensures, c.tail_term-2.ensures, c.deref-2.ensures.0, ← ended _ c.loop-k.invariant (search rules)) refl
