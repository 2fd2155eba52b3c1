-- `judged_of` meets its contract, by the ways through its code.
use Rattle.std.proofs.Common.{refl, sym, ◌∙◌, ◌/◌, ◌<◌, arith, length}
use Rattle.spec_judgement.specs.Inventory.{listing}
use Rattle.spec_judgement.specs.Judge.{judged_of, with_best}
use Rattle.tonekit_judge.specs.Terms.{cell}
use Rattle.tonekit_judge.proofs.Agree.{judged_same}
use Rattle.tonekit_judge.proofs.Winner.{Among, winner_among}
use Rattle.tonekit_judge.proofs.judged_of.Goals as goal
use Rattle.tonekit_judge.proofs.judged_of.Goals.{In-Scored}

pub returns-in-Scored : goal.returns-in-Scored
unfolding judged_of with_best
returns-in-Scored c =
    judged_same c.args.x c.args.s c.args.threshold c.args.t (listing c.args.inventory.now c.args.slots.now) _ c.args.g.now c.args.issues
    c.requires.0 c.requires.1 c.fill.ensures
    (rw (← c.target_mixing.ensures, ← c.mixture_of-m.ensures, ← c.target_tail_loglik-tail.ensures, ← c.plain_of-j.ensures, c.in-Scored.is, c.nearest_at.ensures, c.advice_of.ensures, c.deref.ensures.0) refl)

pub returns-in-Nothing : goal.returns-in-Nothing
unfolding judged_of with_best
returns-in-Nothing c =
    judged_same c.args.x c.args.s c.args.threshold c.args.t (listing c.args.inventory.now c.args.slots.now) _ c.args.g.now c.args.issues
    c.requires.0 c.requires.1 c.fill.ensures
    (rw (← c.target_mixing.ensures, ← c.mixture_of-m.ensures, ← c.target_tail_loglik-tail.ensures, ← c.plain_of-j.ensures, c.in-Nothing.is))

-- the slot is a component's of one of the tones
among : (c : In-Scored) → Among c.args.inventory.now c.in-Scored.slot
among c =
    let e = rw c.target_mixing.ensures at (sym c.mixture_of-m.ensures ∙ c.in-Scored.is) in
    winner_among c.args.inventory.now c.args.s (cell c.fill.result) c.args.g.now c.requires.1 _ _ _ e

small : (c : In-Scored) → c.in-Scored.slot / 4 < length c.args.inventory.now.items
small c =
    let a = among c in
    omega (arith, a.is, a.listed, a.has, c.requires.0.each a.tone a.listed)

pub bounds-deref-slot : goal.bounds-deref-slot
bounds-deref-slot c = rw c.deref.ensures.0 (small (goal.at.bounds-deref-slot c).In-Scored)

pub bounds-slots-slot : goal.bounds-slots-slot
bounds-slots-slot c =
    let few = rw c.deref.ensures.0 at c.deref.ensures.1 in
    omega (arith, small (goal.at.bounds-slots-slot c).In-Scored, few)

pub offset_bounds-deref-slot : goal.offset_bounds-deref-slot
offset_bounds-deref-slot c =
    let few = rw c.deref.ensures.0 at c.deref.ensures.1 in
    omega (arith, small (goal.at.offset_bounds-deref-slot c).In-Scored, few)

pub offset_bounds-slots-slot : goal.offset_bounds-slots-slot
offset_bounds-slots-slot c =
    let few = rw c.deref.ensures.0 at c.deref.ensures.1 in
    omega (arith, small (goal.at.offset_bounds-slots-slot c).In-Scored, few)
