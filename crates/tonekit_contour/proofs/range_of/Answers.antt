-- `range_of` meets its contract: a turn of the loop is a turn of both searches.
use Rattle.std.proofs.Common.{◌≡◌, ◌∙◌, sym, ap, map, get_or, rules, Float}
use Rattle.std.proofs.lemmas.List.{get_or-map}
use Rattle.std.specs.Float.{nan}
use lib.Ieee.{sub}
use Rattle.tonekit_core.proofs.LoopLaws.{again, ended}
use Rattle.spec_arithmetic.specs.Pick.{lesser, greater}
use Rattle.spec_shape.specs.Range.{range_in}
use Rattle.tonekit_contour.proofs.range_of.Goals as goal
use Rattle.tonekit_contour.proofs.range_of.Goals.{After-greater-high}

-- the point of a turn, as a float
point : (g : _) (c : After-greater-high g) → get_or (map g.F.AnyFloat.float c.args.ten.now) c.loop-x.x-index nan ≡ g.F.AnyFloat.float (get_or c.args.ten.now c.loop-x.x-index c.x-item.result)
point g c = get_or-map g.F.AnyFloat.float c.args.ten.now c.loop-x.x-index c.x-item.result nan (search rules)

pub loop-x-preserved : goal.loop-x-preserved
loop-x-preserved g c =
    let i = c.loop-x.invariant in
    let f = g.F.AnyFloat.float in (
      again _ i.0 (search rules) (ap (lesser (f c.loop-x.low)) (point g c) ∙ sym c.lesser-low.ensures),
      again _ i.1 (search rules) (ap (greater (f c.loop-x.high)) (point g c) ∙ sym c.greater-high.ensures),
    )

pub returns : goal.returns
unfolding range_in
returns g c =
    let i = c.loop-x.invariant in
    let f = g.F.AnyFloat.float in
    g.met.F.AnyFloat.sub_law _ _ _ c.sub.ensures
    ∙ ap (λ (y : Float). sub g.F.AnyFloat.format y (f c.loop-x.low)) (ended _ i.1 (search rules))
    ∙ ap (sub g.F.AnyFloat.format _) (ended _ i.0 (search rules))
