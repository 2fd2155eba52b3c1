-- `list_number` meets its contract, at a phrase's end and not.
use Rattle.std.proofs.Common.{◌∙◌}
use Rattle.tonekit_bytes.proofs.Stepped.{stepped_length}
use Rattle.tonekit_sheet_inventory.proofs.HeldSheet.list_number.Goals as goal

pub returns-then-c : goal.returns-then-c
returns-then-c c =
    c.byte_at.ensures ∙ simp (c.sheet_row_at-o.ensures, c.row_place-row.ensures.0, stepped_length, c.if-c.true)

pub returns : goal.returns
returns c =
    c.byte_at-2.ensures ∙ simp (c.sheet_row_at-o.ensures, c.row_place-row.ensures.0, stepped_length, c.if-c.false)
