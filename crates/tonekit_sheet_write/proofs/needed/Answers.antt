use Rattle.tonekit_bytes.specs.Places.{in_order}
use Rattle.tonekit_bytes.proofs.InOrder.{order_length}
use Rattle.tonekit_sheet_plan.specs.Plans.{planned_by}
use Rattle.tonekit_sheet_write.proofs.Together.{sheet_length}
use Rattle.tonekit_sheet_write.proofs.needed.Goals as goal

pub returns : goal.returns
returns c =
    let r = c.args.d.now.rows in
    let a = r.accents in
    sheet_length r.view.bytes.now r.view.pack (in_order a.at a.count) a.count (planned_by c.args.d.now.plan.now) r.sorted.ordered (order_length a.at a.count) _ _ _ c.row_count-rows.ensures.0 c.sheet_row_at.ensures c.lists_size.ensures.0
