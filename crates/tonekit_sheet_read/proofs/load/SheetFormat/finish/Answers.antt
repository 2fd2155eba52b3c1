-- `finish` meets its contract: a fine End ends the reading. Assumes nothing.
use Rattle.std.proofs.Common.{eqb-true, ◌∙◌}
use Rattle.tonekit_sheet_read.proofs.Reading.{ends}
use Rattle.tonekit_sheet_read.proofs.load.SheetFormat.finish.Goals as goal

pub judged-requires : goal.judged-requires
judged-requires c = c.requires.read.placed.few_rows

pub returns : goal.returns
returns c = let a = c.args in let r = c.requires in c.judged.ensures ∙ ends _ a.self a.o r.read r.fine (eqb-true _ _ r.kind)
