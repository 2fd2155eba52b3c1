use Rattle.std.proofs.Common.{⊎_elim, sym, ◌∙◌, ap, ap₂, arith, length, List}
use Rattle.std.specs.Float.{Float}
use Rattle.tonekit_sheet_plan.proofs.Alike.{bits, points_on, points_off, points_done}
use Rattle.tonekit_sheet.specs.Parts.{same_numbers}
use Rattle.tonekit_sheet_plan.proofs.curves.same_points.Goals as goal

pub returns-then-bits : goal.returns-then-bits
returns-then-bits c =
    let x = c.in-Some.x.now in
    let y = c.in-Some.y.now in
    let n = c.in-Some.ensures.steps in
    points_off x y _ _ (λ e. c.if-bits.true (c.bits.ensures ∙ e ∙ sym c.bits-in-loop-x.ensures))
    ∙ ap₂ (λ (a b : List Float). same_numbers (bits a) (bits b)) (sym n.0) (sym n.1)
    ∙ c.loop-x.invariant.1

pub loop-x-preserved : goal.loop-x-preserved
loop-x-preserved c =
    let x = c.in-Some.x.now in
    let y = c.in-Some.y.now in
    let n = c.in-Some.ensures.steps in (
      omega (arith, c.loop-x.invariant.0, ap length n.0, ap length n.1),
      points_on x y _ _ (sym c.bits.ensures ∙ c.if-bits.false ∙ c.bits-in-loop-x.ensures)
          ∙ ap₂ (λ (a b : List Float). same_numbers (bits a) (bits b)) (sym n.0) (sym n.1)
          ∙ c.loop-x.invariant.1,
    )

pub returns : goal.returns
returns c =
    let same = c.loop-x.invariant.0 in
    ⊎_elim
    (λ n. points_done _ _ n.1.0 (omega (arith, n.1.0, same)) ∙ c.loop-x.invariant.1)
    (λ n. points_done _ _ (omega (arith, n.1.0, same)) n.1.0 ∙ c.loop-x.invariant.1)
    c.in-None.ensures.steps
