use Rattle.std.proofs.Common.{arith, ◌≡◌, ◌≤◌, ◌<◌, refl, sym, ◌∙◌, ap, subst, add-one, length, length-set, take-suc-set}
use Rattle.std.proofs.lemmas.List.{length-take-le, take_all, take_at}
use Rattle.spec_lookup.specs.Knots.{knots_at, expanded, Knots}
use Rattle.tonekit_expect.proofs.Bound.{length_knots}
use Rattle.tonekit_expect.proofs.points_at.Goals as goal
use Rattle.tonekit_expect.proofs.points_at.Goals.{Start, After-loop-k}

-- there are at most ten
few : (c : Start) → c.args.n ≤ 10
few c = omega (arith, length_knots c.args.s.now c.args.o c.args.n, c.requires.few)

pub slice_bounds-knots-end : goal.slice_bounds-knots-end
slice_bounds-knots-end c = few (goal.at.slice_bounds-knots-end c).Start

pub slice_bounds-x-items-end : goal.slice_bounds-x-items-end
slice_bounds-x-items-end c = sym (length-take-le c.args.n _ (few (goal.at.slice_bounds-x-items-end c).Start))

pub loop-k-init : goal.loop-k-init
unfolding knots_at
loop-k-init c =
    let h = few (goal.at.loop-k-init c).Start in
    (omega arith, h, length-take-le c.args.n _ h, refl)

pub loop-k-preserved : goal.loop-k-preserved
unfolding knots_at
loop-k-preserved c =
    let l = c.loop-k in
    let h : l.k < length l.x-items = omega arith in
    (omega arith, l.invariant.1, length-set l.x-items l.k c.f32_at.result ∙ l.invariant.2, rw (add-one, take-suc-set l.x-items l.k c.f32_at.result h, l.invariant.3, c.f32_at.ensures))

-- once the loop ends
whole : (c : After-loop-k) → c.loop-k.x-items ≡ knots_at c.args.s.now c.args.o c.args.n
whole c =
    let l = c.loop-k in
    let e : l.k ≡ c.args.n = omega arith in
    sym (take_all c.args.n l.x-items (omega arith)) ∙ (rw e at l.invariant.3)

pub slice_bounds-expand_knots-end : goal.slice_bounds-expand_knots-end
slice_bounds-expand_knots-end c =
    let l = c.loop-k.invariant.2 in
    sym (ap length (take_at c.loop-k.x-items _ c.args.n l) ∙ l)

pub expand_knots-requires : goal.expand_knots-requires
expand_knots-requires c =
    let e = take_at c.loop-k.x-items _ c.args.n c.loop-k.invariant.2 ∙ whole (goal.at.expand_knots-requires c).After-loop-k in
    subst Knots (sym e) c.requires

pub returns : goal.returns
returns c =
    let e = take_at c.loop-k.x-items _ c.args.n c.loop-k.invariant.2 ∙ whole (goal.at.returns c).After-loop-k in
    (c.expand_knots.ensures.0 ∙ ap expanded e, c.expand_knots.ensures.1)
