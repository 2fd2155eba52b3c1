use Rattle.std.proofs.Common.{get_or, length}
use Rattle.tonekit_sheet.proofs.Gather.{Writing}
use Rattle.tonekit_sheet_write.specs.Pieces.{records_part}
use Rattle.tonekit_sheet_write.proofs.parts.write_records.Given as goal

abbrev pub invariant-loop-o : goal.invariant-loop-o
invariant-loop-o g l = Writing (λ i. g.R.Record.made l.s (get_or l.offsets i 0)) (length l.offsets) l.at (records_part g.R.Record.made l.s l.offsets) l.initial.out l.out l.o-index l.next
