use Rattle.std.proofs.Common.{ℕ, rules, ap, ◌∙◌}
use Rattle.std.proofs.lemmas.List.{map-id}
use Rattle.std.specs.Float.{binary32}
use Rattle.spec_shape.specs.Range.{range_in}
use Rattle.spec_shape.specs.Extract.{drawn}
use Rattle.tonekit_shape.proofs.Built.{built}
use Rattle.tonekit_shape.proofs.measured.Goals as goal

pub returns : goal.returns
returns c =
    built _ c.args.e _ _ _ _
    (c.draw.ensures ∙ ap (λ (n : ℕ). drawn c.args.bytes.now c.args.e.first n c.args.q.floor c.args.q.ceil) c.requires.1)
    c.contour_of-contour.ensures
    c.weights_of-weights.ensures
    c.mean_of.ensures
    c.line_slope-slope.ensures
    c.narrow.ensures
    c.quadratic_coefficient-curvature.ensures
    c.narrow-2.ensures
    c.turn_of-turn.ensures.0
    (search rules)
    (c.range_of.ensures ∙ ap (range_in binary32) (map-id c.contour_of-contour.result))
    c.span_frames-span.ensures
    c.f32_of.ensures
    c.confidence_of-confidence.ensures
