use Rattle.std.proofs.Common.{sym, ◌∙◌, ap, length}
use Rattle.std.proofs.lemmas.List.Edits.{sets}
use Rattle.tonekit_bytes.proofs.Write.{wrote, refused_short}
use Rattle.tonekit_sheet_plan.specs.Plans.{planned_by}
use Rattle.tonekit_sheet_write.proofs.Together.{sheet_is}
use Rattle.tonekit_sheet_write.proofs.write_loaded.Goals as goal

pub returns-then-out-size : goal.returns-then-out-size
returns-then-out-size c =
    let n = c.needed-size in
    let v = c.args.view in
    let e = sheet_is v.bytes.now v.pack (planned_by c.note_rows.new.self) c.note_rows.ensures.same in
    rw c.at.ensures (refused_short _ c.args.out.now n.result (sym (n.ensures ∙ ap length e)) c.if-out-size.true)

pub returns : goal.returns
returns c =
    let n = c.needed-size in
    let v = c.args.view in
    let e = sheet_is v.bytes.now v.pack (planned_by c.note_rows.new.self) c.note_rows.ensures.same in
    wrote _ c.args.out.now _ n.result (sym (n.ensures ∙ ap length e)) c.if-out-size.false (c.fill.ensures.same ∙ ap (sets c.args.out.now 0) e)
