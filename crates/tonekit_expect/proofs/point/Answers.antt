use Rattle.std.proofs.Common.{rules, sym, subst, false, ◌-◌, arith, T, pos, length, Float}
use lib.Ieee.{fin, le, lt}
use Rattle.tonekit_contour.proofs.Places.{position_in, position_lt}
use Rattle.tonekit_expect.proofs.point.Goals as goal

-- a position among the knots is no less than 0, and small
pub segment-j-requires : goal.segment-j-requires
segment-j-requires c =
    let e = sym c.position-x.ensures in
    let i = c.args.i in
    let last = length c.args.knots.now - 1 in (
      subst (λ (x : Float). T (le (fin false 0 (pos 0)) x)) e (position_in i last (search rules) (omega arith)).low,
      subst (λ (x : Float). T (lt x (fin false 1 (pos 53)))) e (position_lt i last (search rules) (omega arith)),
      search rules,
    )
