use Rattle.std.proofs.Common.{sym, ◌∙◌}
use Rattle.tonekit_sheet_plan.proofs.Alike.{names_differ, weights_differ, weights_agree, points_ten}
use Rattle.tonekit_sheet_plan.proofs.curves.Curves.same_component.Goals as goal

pub returns-then-ne : goal.returns-then-ne
returns-then-ne c =
    let a = c.args.self in
    let b = c.args.other in
    names_differ a.bytes.now a.listing b.bytes.now b.listing c.args.j (sym c.if-ne.true ∙ c.ne.ensures)

pub returns-then-bits : goal.returns-then-bits
returns-then-bits c =
    let a = c.args.self in
    let b = c.args.other in
    weights_differ a.bytes.now a.listing b.bytes.now b.listing c.args.j c.component-x.ensures c.component-y.ensures (sym c.if-ne.false ∙ c.ne.ensures)
    (λ e. c.if-bits.true (c.bits.ensures ∙ e ∙ sym c.bits-2.ensures))

pub same_points-requires : goal.same_points-requires
same_points-requires c =
    let a = c.args.self in
    let b = c.args.other in
    (points_ten a.bytes.now a.listing c.args.j c.component-x.ensures, points_ten b.bytes.now b.listing c.args.j c.component-y.ensures)

pub returns : goal.returns
returns c =
    let a = c.args.self in
    let b = c.args.other in
    c.same_points.ensures
    ∙ weights_agree a.bytes.now a.listing b.bytes.now b.listing c.args.j c.component-x.ensures c.component-y.ensures (sym c.if-ne.false ∙ c.ne.ensures)
    (sym c.bits.ensures ∙ c.if-bits.false ∙ c.bits-2.ensures)
