-- The invariant: the points below i are written.
use Rattle.std.proofs.Common.{◌≡◌, refl, sym, ◌∙◌, subst, ℕ, ◌<◌, arith, add-one, rules, length, get_or, length-set, take-suc-set, take_all}
use lib.Ieee.{nan}
use Rattle.spec_lookup.specs.Knots.{first_points, expanded, Point}
use Rattle.tonekit_expect.proofs.Bound.{points_bounded}
use Rattle.tonekit_expect.proofs.expand_knots.Goals as goal

pub loop-i-init : goal.loop-i-init
unfolding first_points
loop-i-init c = (search rules, refl, refl)

pub loop-i-preserved : goal.loop-i-preserved
unfolding first_points
loop-i-preserved c =
    let l = c.loop-i in
    let h : l.i < length l.x-items = omega arith in
    (omega arith, length-set l.x-items l.i c.point.result ∙ l.invariant.1, rw (add-one, take-suc-set l.x-items l.i c.point.result h, l.invariant.2, c.point.ensures))

pub returns : goal.returns
returns c =
    let l = c.loop-i in
    let K = c.requires in
    let knots = c.args.knots.now in
    let ten : l.i ≡ 10 = omega arith in
    let e : l.x-items ≡ expanded knots = sym (take_all 10 l.x-items (omega arith)) ∙ (rw ten at l.invariant.2) in
    (e, subst (λ out. (k : ℕ) → k < 10 → Point (get_or out k nan)) (sym e) (points_bounded knots K))
