use Rattle.std.proofs.Common.{◌∙◌, refl}
use Rattle.tonekit_pack.specs.Held.{records_of}
use Rattle.tonekit_sheet_plan.specs.Rows.{pack_view}
use Rattle.tonekit_sheet_plan.proofs.Views.{first_room}
use Rattle.tonekit_sheet_plan.proofs.Plan.note_row.Goals as goal

pub note-requires : goal.note-requires
note-requires c =
    let s = c.args.rows.now.view.bytes.now in
    let few = rw c.requires.0 at c.requires.1 in
    rw (c.requires.0, c.look.ensures.gives) (first_room (pack_view s (records_of c.args.rows.now.view.pack)) c.args.i 128 _ few, c.look.ensures.kept)

pub note-requires-2 : goal.note-requires-2
note-requires-2 c =
    let few = rw c.requires.0 at c.requires.1 in
    rw (c.note.ensures.same, c.note.ensures.bytes, c.requires.0, c.look.ensures.gives, c.look-2.ensures.gives) (few, c.look-2.ensures.kept)

pub returns : goal.returns
returns c = record {
  bytes = c.note-2.ensures.bytes ∙ c.note.ensures.bytes;
  same = c.note-2.ensures.same ∙ rw (c.note.ensures.same, c.note.ensures.bytes, c.requires.0, c.look.ensures.gives, c.look-2.ensures.gives) refl;
}
