-- `add` meets its contract: what is kept of a fine record has room, and is what was read before the next one. Assumes nothing.
use Rattle.std.proofs.Common.{◌∙◌}
use borrow.Author.Tests.{eqb-false}
use Rattle.tonekit_sheet_read.proofs.Reading.{follows, goes}
use Rattle.tonekit_sheet_read.proofs.load.SheetFormat.add.Goals as goal

pub keep-requires : goal.keep-requires
keep-requires c =
    let a = c.args in
    let r = c.requires in
    rw (r.kind.0, c.byte_at.ensures) (follows _ a.self.now a.o r.read r.fine)

pub returns : goal.returns
returns c =
    let a = c.args in
    let r = c.requires in
    let k = r.kind.0 in
    rw k (goes _ a.self.now a.o r.read r.fine _ (λ e. eqb-false _ _ r.kind.1 (k ∙ e)) (rw (k, c.byte_at.ensures) at c.keep.ensures))
