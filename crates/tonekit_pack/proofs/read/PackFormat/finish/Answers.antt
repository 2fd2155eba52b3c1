-- `finish` meets its contract: an End ends the reading, with what is said of the whole. Assumes nothing.
use Rattle.std.proofs.Common.{eqb-true, sym, ◌∙◌}
use Rattle.tonekit_pack.proofs.Reading.{ends}
use Rattle.tonekit_pack.proofs.read.PackFormat.finish.Goals as goal

pub returns-in-Err : goal.returns-in-Err
returns-in-Err c =
    let a = c.args in
    let r = c.requires in
    rw (c.at.ensures) (rw (sym c.end_verdict.ensures ∙ c.in-Err.is) at (ends _ a.self a.o r.read r.fine (eqb-true _ _ r.kind)))

pub returns : goal.returns
returns c =
    let a = c.args in
    let r = c.requires in
    rw (sym c.end_verdict.ensures ∙ c.in_default.is) at (ends _ a.self a.o r.read r.fine (eqb-true _ _ r.kind))
