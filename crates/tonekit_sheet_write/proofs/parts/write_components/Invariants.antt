use Rattle.std.proofs.Common.{◌≡◌}
use Rattle.tonekit_sheet.proofs.Gather.{Writing}
use Rattle.tonekit_sheet_write.specs.Pieces.{component_piece, components_part}
use Rattle.tonekit_sheet_write.proofs.parts.write_components.Given as goal

abbrev pub invariant-loop-j : goal.invariant-loop-j
invariant-loop-j lt =
    let s = lt.c.bytes.now in
    let l = lt.c.listing in
    (lt.j-end ≡ l.count) × Writing (component_piece s l) l.count lt.at (components_part s l) lt.initial.out lt.out lt.j lt.o
