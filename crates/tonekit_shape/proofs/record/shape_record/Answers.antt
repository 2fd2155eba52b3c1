use Rattle.std.proofs.Common.{◌≡◌, ◌∙◌, sym, length, replicate, rules}
use Rattle.tonekit_shape.proofs.Parts.{shape_parts, shape_length, whole}
use Rattle.tonekit_shape.proofs.record.shape_record.Goals as goal
use Rattle.tonekit_shape.proofs.record.shape_record.Goals.{Start}

-- the arrays' lengths, which owning the shape tells
ten : (c : Start) → length c.args.x.contour ≡ 10
ten c = search rules

ten-weights : (c : Start) → length c.args.x.weights ≡ 10
ten-weights c = search rules

pub returns : goal.returns
returns c =
    let t = ten (goal.at.returns c).Start in
    let w = ten-weights (goal.at.returns c).Start in
    shape_parts _ _ _ c.args.x t w (replicate 124 0) c.united-all.ensures c.put_span.ensures c.put_f32s.ensures c.put_f32s-2.ensures c.put_fits.ensures c.put_measures.ensures
    ∙ whole (replicate 124 0) _ (sym (shape_length c.args.q.start c.args.q.end c.args.q.issues c.args.x t w))
