-- `mark_points` meets its contract: what is left to mix in gives what the whole gives. Assumes nothing.
use Rattle.std.proofs.Common.{rules, ℕ, ◌+◌, arith, refl, sym, ◌∙◌, ap}
use Rattle.tonekit_core.specs.Loop.{fold}
use Rattle.tonekit_sheet.specs.Marks.{mixed}
use Rattle.tonekit_sheet_plan.proofs.Marks.{left, point_on, points_done}
use Rattle.tonekit_sheet_plan.proofs.curves.mark_points.Goals as goal

pub loop-x-init : goal.loop-x-init
loop-x-init c = (search rules, c.requires, refl)

pub loop-x-preserved : goal.loop-x-preserved
loop-x-preserved c =
    let a = c.args in
    let point = c.mix-mark.ensures ∙ ap (mixed c.loop-x.mark) c.bits.ensures in (
      omega arith,
      c.loop-x.invariant.1,
      ap (λ (x : ℕ). fold mixed x (left a.points.now (c.loop-x.x-index + 1))) point ∙ sym (point_on a.points.now c.loop-x.x-index c.loop-x.mark (omega arith)) ∙ c.loop-x.invariant.2,
    )

pub returns : goal.returns
returns c =
    sym (points_done c.args.points.now c.loop-x.x-index c.loop-x.mark (omega arith)) ∙ c.loop-x.invariant.2
