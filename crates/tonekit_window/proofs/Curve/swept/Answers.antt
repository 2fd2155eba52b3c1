use Rattle.std.proofs.Common.{arith}
use Rattle.tonekit_window.proofs.Walk.{going_start, going_again, going_done}
use Rattle.tonekit_window.proofs.Curve.swept.Goals as goal

pub loop-s-init : goal.loop-s-init
loop-s-init c =
    (omega arith, rw (c.f64_of-next.ensures, c.whole-from.ensures.0, c.at-v0.ensures) (going_start _ _ _ c.args.a.inside c.args.b.inside))

pub step-s-requires : goal.step-s-requires
step-s-requires c = let i = c.loop-s.invariant in (i.1.next_is, omega (arith, i.0))

pub loop-s-preserved : goal.loop-s-preserved
loop-s-preserved c =
    let l = c.loop-s in
    let g = going_again _ _ _ c.args.a.inside c.args.b.inside l.frame _ _ l.invariant.1 c.loop-s-test.true c.step-s.ensures in
    (omega (arith, g.room), g)

pub returns : goal.returns
returns c =
    let l = c.loop-s in
    going_done _ _ _ c.args.a.inside c.args.b.inside l.frame _ l.invariant.1 c.loop-s-test.false
