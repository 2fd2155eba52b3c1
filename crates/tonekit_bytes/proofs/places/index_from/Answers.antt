-- `index_from` meets its contract: from each record on, the search gives what it gives of all. Assumes nothing.
use Rattle.std.proofs.Common.{◌≡◌, refl, arith, ◌+◌, ◌*◌, eq-eqb, ne_eqb, get_or}
use Rattle.tonekit_core.proofs.LoopLaws.{to_again, to_stop, to_ended}
use Rattle.spec_arithmetic.specs.Places.{index_of}
use Rattle.tonekit_bytes.specs.Places.{stepped}
use Rattle.tonekit_bytes.proofs.Stepped.{stepped_length, stepped_get, step_before}
use Rattle.tonekit_bytes.proofs.places.index_from.Goals as goal

pub loop-i-init : goal.loop-i-init
unfolding index_of
loop-i-init c = (omega arith, refl)

pub overflow_mul-step : goal.overflow_mul-step
overflow_mul-step c = omega (arith, step_before c.args.o c.args.step c.args.count c.loop-i.i (omega arith))

pub overflow_add-o : goal.overflow_add-o
overflow_add-o c = omega (arith, step_before c.args.o c.args.step c.args.count c.loop-i.i (omega arith))

pub returns-then-byte_at-n : goal.returns-then-byte_at-n
returns-then-byte_at-n c =
    let a = c.args in
    let here : get_or (stepped a.o a.step a.count) c.loop-i.i 0 ≡ a.o + a.step * c.loop-i.i = stepped_get a.o a.step a.count c.loop-i.i (omega arith) in
    to_stop _ _ c.loop-i.invariant.1 (omega (arith, stepped_length a.o a.step a.count)) (simp (here, ← c.byte_at.ensures, eq-eqb _ _ c.if-byte_at-n.true))

pub loop-i-preserved : goal.loop-i-preserved
loop-i-preserved c =
    let a = c.args in
    let here : get_or (stepped a.o a.step a.count) c.loop-i.i 0 ≡ a.o + a.step * c.loop-i.i = stepped_get a.o a.step a.count c.loop-i.i (omega arith) in
    (omega arith, to_again _ _ c.loop-i.invariant.1 (omega (arith, stepped_length a.o a.step a.count)) (simp (here, ← c.byte_at.ensures, ne_eqb _ _ c.if-byte_at-n.false)))

pub returns : goal.returns
returns c =
    let a = c.args in
    to_ended _ _ c.loop-i.invariant.1 (omega (arith, stepped_length a.o a.step a.count))
