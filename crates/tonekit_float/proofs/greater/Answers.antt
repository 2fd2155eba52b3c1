-- `greater`: its three ways out are those of the definition.
use Rattle.spec_arithmetic.specs.Pick.{greater}
use Rattle.tonekit_float.proofs.Picked.{of_nan, later, earlier, differs, less}
use Rattle.tonekit_float.proofs.greater.Goals as goal

pub returns-then-ne : goal.returns-then-ne
unfolding greater
returns-then-ne g c =
    let f = g.F.AnyFloat.float in
    of_nan (f c.args.a) (f c.args.b) _ (differs f c.args.a c.args.a _ g.met.F.AnyFloat.eq_law c.ne.ensures c.if-ne.true)

pub returns-then-lt : goal.returns-then-lt
unfolding greater
returns-then-lt g c =
    let f = g.F.AnyFloat.float in
    later (f c.args.a) (f c.args.b) (differs f c.args.a c.args.a _ g.met.F.AnyFloat.eq_law c.ne.ensures c.if-ne.false) (less f c.args.a c.args.b _ g.met.F.AnyFloat.order_law c.lt.ensures c.if-lt.true)

pub returns-else-lt : goal.returns-else-lt
unfolding greater
returns-else-lt g c =
    let f = g.F.AnyFloat.float in
    earlier (f c.args.a) (f c.args.b) (differs f c.args.a c.args.a _ g.met.F.AnyFloat.eq_law c.ne.ensures c.if-ne.false) (less f c.args.a c.args.b _ g.met.F.AnyFloat.order_law c.lt.ensures c.if-lt.false)
