-- Where a row is due there are tones, so it can be divided by their number. Assumes nothing.
use Rattle.std.proofs.Common.{◌+◌, arith, mul-pos}
use Rattle.tonekit_sheet_read.proofs.Rows.{a_tone}
use Rattle.tonekit_sheet_read.proofs.SheetView.row_due.Goals as goal

pub nonzero_div-a : goal.nonzero_div-a
nonzero_div-a c = omega (arith, mul-pos {n = c.args.self.now.sheet.tones + 1} (a_tone c.args.self.now.sheet c.args.r c.requires) (omega arith))

pub nonzero_rem-t : goal.nonzero_rem-t
nonzero_rem-t c = omega (arith, a_tone c.args.self.now.sheet c.args.r c.requires)
