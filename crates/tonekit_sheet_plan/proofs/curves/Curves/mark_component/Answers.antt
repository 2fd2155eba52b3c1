-- The weight, then the points, of the component read. Assumes nothing.
use Rattle.std.proofs.Common.{ℕ, ◌∙◌, ap, map, to_bits}
use lib.Ieee.{binary32}
use Rattle.tonekit_core.specs.Loop.{fold}
use Rattle.tonekit_sheet.specs.Marks.{mixed}
use Rattle.tonekit_sheet_plan.proofs.Alike.{points_ten}
use Rattle.tonekit_sheet_plan.proofs.Marks.{component_is}
use Rattle.tonekit_sheet_plan.proofs.curves.Curves.mark_component.Goals as goal

pub mark_points-requires : goal.mark_points-requires
mark_points-requires c =
    let a = c.args in
    points_ten a.self.bytes.now a.self.listing a.j c.component-c.ensures

pub returns : goal.returns
returns c =
    let a = c.args in
    let weighed = c.mix-weighed.ensures ∙ ap (mixed a.m) c.bits.ensures in
    c.mark_points.ensures
    ∙ ap (λ (x : ℕ). fold mixed x (map (to_bits binary32) c.component-c.result.points)) weighed
    ∙ component_is a.self.bytes.now a.self.listing a.j a.m c.component-c.ensures
