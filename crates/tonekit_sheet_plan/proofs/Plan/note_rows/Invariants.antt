use Rattle.std.proofs.Common.{◌≤◌, ◌≡◌}
use Rattle.tonekit_core.specs.Loop.{range}
use Rattle.tonekit_pack.specs.Held.{records_of}
use Rattle.spec_sheet.specs.Sheet.{lists_of}
use Rattle.tonekit_sheet.specs.Parts.{note_turn}
use Rattle.tonekit_sheet_plan.specs.Rows.{pack_view}
use Rattle.tonekit_sheet_plan.specs.Plans.{planned_by}
use Rattle.tonekit_sheet_plan.proofs.Plan.note_rows.Given as goal

abbrev pub invariant-loop-i : goal.invariant-loop-i
invariant-loop-i l =
    let v = pack_view l.rows.view.bytes.now (records_of l.rows.view.pack) in
    (l.i ≤ l.i-end) × (l.i-end ≤ 576) × (l.self.bytes.now ≡ l.rows.view.bytes.now) × (range (note_turn v) l.i l.i-end (planned_by l.self) ≡ lists_of v)
