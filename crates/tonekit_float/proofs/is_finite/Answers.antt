-- `is_finite`: the two tests, by the cases of x.
use Rattle.std.proofs.Common.{◌≡◌, true, false, refl, sym, ap, ◌∙◌, subst, Float}
use lib.Ieee.{lt}
use Rattle.tonekit_float.proofs.Nans.{below_infinity, not_above}
use Rattle.tonekit_float.proofs.Picked.{less}
use Rattle.tonekit_float.proofs.is_finite.Goals as goal
use Rattle.tonekit_float.proofs.is_finite.Goals.{Else-lt}

pub returns-then-lt : goal.returns-then-lt
returns-then-lt g c =
    let f = g.F.AnyFloat.float in
    let law = g.met.F.AnyFloat.order_law in
    let low = ap f c.MINUS_INFINITY.ensures ∙ g.met.F.AnyFloat.minus_infinity_law in
    let high = ap f c.INFINITY.ensures ∙ g.met.F.AnyFloat.infinity_law in
    sym (less f c.args.x c.INFINITY.result _ law c.lt-then-lt.ensures refl)
    ∙ ap (lt (f c.args.x)) high
    ∙ below_infinity (f c.args.x) (subst (λ (y : Float). lt y (f c.args.x) ≡ true) low (less f c.MINUS_INFINITY.result c.args.x _ law c.lt.ensures c.if-lt.true))

pub returns-else-lt : goal.returns-else-lt
returns-else-lt g c =
    let f = g.F.AnyFloat.float in
    let law = g.met.F.AnyFloat.order_law in
    let low = ap f c.MINUS_INFINITY.ensures ∙ g.met.F.AnyFloat.minus_infinity_law in
    let h = subst (λ (y : Float). lt y (f c.args.x) ≡ false) low (less f c.MINUS_INFINITY.result c.args.x _ law c.lt.ensures c.if-lt.false) in
    c.if-lt.false ∙ sym h ∙ not_above (f c.args.x) h
