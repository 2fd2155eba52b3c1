use Rattle.std.proofs.Common.{◌≡◌}
use Rattle.tonekit_sheet.proofs.Gather.{Writing}
use Rattle.spec_sheet.specs.Sheet.{row_count}
use Rattle.tonekit_sheet_write.specs.Drafts.{row_of, rows_of}
use Rattle.tonekit_sheet_write.proofs.parts.write_rows.Given as goal

abbrev pub invariant-loop-i : goal.invariant-loop-i
invariant-loop-i l =
    let n = row_count l.d.rows.accents.count l.d.rows.view.pack.tones.count in
    (l.i-end ≡ n) × Writing (row_of l.d) n l.at (rows_of l.d) l.initial.out l.out l.i l.o
