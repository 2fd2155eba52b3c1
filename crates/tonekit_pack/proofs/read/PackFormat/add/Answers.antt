-- `add` meets its contract: what is kept of a fine record has room, and is what was read before the next one. Assumes nothing.
use Rattle.std.proofs.Common.{◌∙◌, sym}
use borrow.Author.Tests.{eqb-false}
use Rattle.tonekit_pack.proofs.Reading.{close, room2, room3, room4, room5, goes}
use Rattle.tonekit_pack.proofs.read.PackFormat.add.Goals as goal

pub keep-requires : goal.keep-requires
keep-requires c =
    let a = c.args in
    let r = c.requires in
    let k = r.kind.0 in
    (close _ a.self.now a.o r.read, (λ e. room2 _ a.self.now a.o r.read r.fine (sym k ∙ e)), (λ e. room3 _ a.self.now a.o r.read r.fine (sym k ∙ e)), (λ e. room4 _ a.self.now a.o r.read r.fine (sym k ∙ e)), (λ e. room5 _ a.self.now a.o r.read r.fine (sym k ∙ e)))

pub returns : goal.returns
returns c =
    let a = c.args in
    let r = c.requires in
    let k = r.kind.0 in
    rw k (goes _ a.self.now a.o r.read r.fine _ (λ e. eqb-false _ _ r.kind.1 (k ∙ e)) (rw k at c.keep.ensures))
