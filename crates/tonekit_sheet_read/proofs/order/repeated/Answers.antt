-- A list that is equal to an earlier one decides. Assumes nothing.
use Rattle.std.proofs.Common.{refl, rules}
use Rattle.std.proofs.lemmas.Slice.Zip.{zip_turn}
use Rattle.tonekit_sheet_read.proofs.Loops.{settled}
use Rattle.tonekit_sheet_read.proofs.order.repeated.Goals as goal

pub returns-then-same_lists : goal.returns-then-same_lists
returns-then-same_lists c =
    let l = c.loop-other in
    let t = zip_turn c.args.lists.now c.args.marks.now l.yielded c.into_iter-other-iterator.result l.other-iterator c.next.new.self _ (search rules) (search rules) l.yielded_by _ c.in-Some.is c.next.ensures.steps in
    settled _ l.invariant t.0 (rw (← t.2 0, ← c.from.ensures, ← c.same_lists.ensures) c.if-same_lists.true) (λ i. refl)
