use Rattle.std.proofs.Common.{refl, eq-eqb, ne_eqb}
use Rattle.tonekit_core.proofs.LoopLaws.{to_again, to_stop, to_ended}
use Rattle.spec_arithmetic.specs.Places.{index_of}
use Rattle.tonekit_bytes.proofs.places.index_of.Goals as goal

pub loop-i-init : goal.loop-i-init
unfolding index_of
loop-i-init c = refl

pub returns-then-byte_at-n : goal.returns-then-byte_at-n
returns-then-byte_at-n c =
    to_stop _ _ c.loop-i.invariant c.loop-i-test.true (simp (← c.from.ensures, ← c.byte_at.ensures, eq-eqb _ _ c.if-byte_at-n.true))

pub loop-i-preserved : goal.loop-i-preserved
loop-i-preserved c =
    to_again _ _ c.loop-i.invariant c.loop-i-test.true (simp (← c.from.ensures, ← c.byte_at.ensures, ne_eqb _ _ c.if-byte_at-n.false))

pub returns : goal.returns
returns c = to_ended _ _ c.loop-i.invariant c.loop-i-test.false
