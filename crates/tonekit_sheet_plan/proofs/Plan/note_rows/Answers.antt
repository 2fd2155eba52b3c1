use Rattle.std.proofs.Common.{rules, arith, ◌≤◌, ℕ, sym, ◌∙◌, ap, refl, subst, List, length}
use Rattle.tonekit_core.proofs.LoopLaws.{again, ended}
use Rattle.tonekit_bytes.specs.Places.{in_order}
use Rattle.tonekit_bytes.proofs.InOrder.{order_length}
use Rattle.spec_pack.specs.Pack.{read_pack}
use Rattle.tonekit_pack.specs.Held.{records_of}
use Rattle.tonekit_sheet.specs.Parts.{note_turn}
use Rattle.tonekit_sheet_limits.proofs.OfPack.{few_lists}
use Rattle.tonekit_sheet_plan.specs.Rows.{pack_view, end_of}
use Rattle.tonekit_sheet_plan.specs.Plans.{planned_by}
use Rattle.tonekit_sheet_plan.proofs.Views.{turn_room, lists_begun}
use Rattle.tonekit_sheet_plan.proofs.Plan.note_rows.Goals as goal

pub loop-i-init : goal.loop-i-init
loop-i-init c =
    let r = c.args.rows.now in
    let os = in_order r.accents.at r.accents.count in
    let n = c.row_count-i-end.ensures in (
      search rules,
      n.1,
      c.requires.0,
      lists_begun r.view.bytes.now r.view.pack os r.sorted.ordered c.row_count-i-end.result (planned_by c.args.self.now) (rw (order_length r.accents.at r.accents.count) n.0) (rw c.requires.1.no_lists refl),
    )

pub note_row-requires : goal.note_row-requires
note_row-requires c =
    let v = c.args.rows.now.view in
    let s = v.bytes.now in
    let l = c.loop-i in
    let few = few_lists s (records_of v.pack) (end_of (read_pack s)) c.args.rows.now.sorted.reads.loads in
    let room = turn_room (pack_view s (records_of v.pack)) (planned_by l.self) l.invariant.3 c.loop-i-test.true few in
    (l.invariant.2, subst (λ (s : List ℕ). length (note_turn (pack_view s (records_of v.pack)) l.i (planned_by l.self)) ≤ 128) (sym l.invariant.2) room)

pub loop-i-preserved : goal.loop-i-preserved
loop-i-preserved c =
    let v = c.args.rows.now.view in
    let t = c.loop-i-test.true in
    let l = c.loop-i in
    let on = c.note_row.ensures.same ∙ ap (λ s. note_turn (pack_view s (records_of v.pack)) l.i (planned_by l.self)) l.invariant.2 in
    (omega (arith, t), l.invariant.1, c.note_row.ensures.bytes ∙ l.invariant.2, again _ l.invariant.3 t (sym on))

pub returns : goal.returns
returns c = record { bytes = c.loop-i.invariant.2; same = ended _ c.loop-i.invariant.3 c.loop-i-test.false }
