use Rattle.tonekit_bytes.specs.Places.{in_order}
use Rattle.tonekit_bytes.proofs.InOrder.{order_length}
use Rattle.tonekit_pack.specs.Held.{records_of}
use Rattle.spec_sheet.specs.Pieces.{Wrote}
use Rattle.tonekit_sheet_plan.specs.Plans.{planned_by}
use Rattle.tonekit_sheet_write.specs.Pieces.{tone_made, accent_made, records_part}
use Rattle.tonekit_sheet_write.proofs.Bytes.{wrote_size}
use Rattle.tonekit_sheet_write.proofs.Together.{first, second, third, fourth, fifth, last, all_written}
use Rattle.tonekit_sheet_write.proofs.fill.Goals as goal
use Rattle.tonekit_sheet_write.proofs.fill.Goals.{After-write_records-accents, After-write_records-rows}

-- tones and accents are written by the offsets that are lent
tones : (c : After-write_records-accents) → Wrote (records_part tone_made c.args.d.now.rows.view.bytes.now (records_of c.args.d.now.rows.view.pack).tones) c.write_record-tones.result c.write_record-tones.new.out c.write_records-accents.new.out c.write_records-accents.result
tones c = rw c.offsets.ensures at c.write_records-accents.ensures

accents : (c : After-write_records-rows) → Wrote (records_part accent_made c.args.d.now.rows.view.bytes.now (in_order c.args.d.now.rows.accents.at c.args.d.now.rows.accents.count)) c.write_records-accents.result c.write_records-accents.new.out c.write_records-rows.new.out c.write_records-rows.result
accents c = rw c.offsets-2.ensures at c.write_records-rows.ensures

pub write_record-tones-requires : goal.write_record-tones-requires
write_record-tones-requires c =
    let r = c.args.d.now.rows in
    let a = r.accents in
    first r.view.bytes.now r.view.pack (in_order a.at a.count) a.count (planned_by c.args.d.now.plan.now) r.sorted.ordered (order_length a.at a.count) c.args.out.now c.requires

pub write_records-accents-requires : goal.write_records-accents-requires
write_records-accents-requires c =
    let r = c.args.d.now.rows in
    let a = r.accents in
    rw c.offsets.ensures (second r.view.bytes.now r.view.pack (in_order a.at a.count) a.count (planned_by c.args.d.now.plan.now) r.sorted.ordered (order_length a.at a.count) c.args.out.now c.requires c.write_record-tones.ensures)

pub write_records-rows-requires : goal.write_records-rows-requires
write_records-rows-requires c =
    let r = c.args.d.now.rows in
    let a = r.accents in
    rw c.offsets-2.ensures (third r.view.bytes.now r.view.pack (in_order a.at a.count) a.count (planned_by c.args.d.now.plan.now) r.sorted.ordered (order_length a.at a.count) c.args.out.now c.requires c.write_record-tones.ensures (tones (goal.at.write_records-rows-requires c).After-write_records-accents))

pub write_rows-lists-requires : goal.write_rows-lists-requires
write_rows-lists-requires c =
    let r = c.args.d.now.rows in
    let a = r.accents in
    fourth r.view.bytes.now r.view.pack (in_order a.at a.count) a.count (planned_by c.args.d.now.plan.now) r.sorted.ordered (order_length a.at a.count) c.args.out.now c.requires c.write_record-tones.ensures (tones (goal.at.write_rows-lists-requires c).After-write_records-accents) (accents (goal.at.write_rows-lists-requires c).After-write_records-rows)

pub write_lists-end-requires : goal.write_lists-end-requires
write_lists-end-requires c =
    let r = c.args.d.now.rows in
    let a = r.accents in
    fifth r.view.bytes.now r.view.pack (in_order a.at a.count) a.count (planned_by c.args.d.now.plan.now) r.sorted.ordered (order_length a.at a.count) c.args.out.now c.requires c.write_record-tones.ensures (tones (goal.at.write_lists-end-requires c).After-write_records-accents) (accents (goal.at.write_lists-end-requires c).After-write_records-rows) c.write_rows-lists.ensures

pub write_end-requires : goal.write_end-requires
write_end-requires c =
    let r = c.args.d.now.rows in
    let a = r.accents in
    last r.view.bytes.now r.view.pack (in_order a.at a.count) a.count (planned_by c.args.d.now.plan.now) r.sorted.ordered (order_length a.at a.count) c.args.out.now c.requires c.write_record-tones.ensures (tones (goal.at.write_end-requires c).After-write_records-accents) (accents (goal.at.write_end-requires c).After-write_records-rows) c.write_rows-lists.ensures c.write_lists-end.ensures

pub returns : goal.returns
returns c =
    let r = c.args.d.now.rows in
    let a = r.accents in
    all_written r.view.bytes.now r.view.pack (in_order a.at a.count) a.count (planned_by c.args.d.now.plan.now) r.sorted.ordered (order_length a.at a.count) c.args.out.now c.requires c.write_record-tones.ensures (tones (goal.at.returns c).After-write_records-accents) (accents (goal.at.returns c).After-write_records-rows) c.write_rows-lists.ensures c.write_lists-end.ensures c.write_end.ensures

pub shape_of-out : goal.shape_of-out
shape_of-out c = wrote_size (returns c)
