use Rattle.std.proofs.Common.{sym}
use Rattle.std.proofs.lemmas.Result.{err_from_is_err_and}
use Rattle.tonekit_core.proofs.Calls.{delivers_refused}
use Rattle.tonekit_sheet_write.proofs.Answers.{reads, is-written, is_refused}
use Rattle.tonekit_sheet_write.proofs.write_sheet.Goals as goal

pub write_loaded-requires : goal.write_loaded-requires
write_loaded-requires c = reads c.args.pack.now c.load_pack.result c.load_pack.ensures _ c.in_ok-loaded.was

pub returns : goal.returns
returns c = rw (← (is-written c.args.pack.now c.load_pack.result c.load_pack.ensures _ c.in_ok-loaded.was)) c.write_loaded.ensures

pub returns-in_err-loaded : goal.returns-in_err-loaded
returns-in_err-loaded c =
    let p = err_from_is_err_and c.from_residual.result c.from_residual.ensures.1 in
    rw (p.1, p.2) (delivers_refused _ _ _ _ (sym (is_refused c.args.pack.now c.load_pack.result c.load_pack.ensures _ c.in_err-loaded.was)))
