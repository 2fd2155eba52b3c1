-- What the reader refuses is handed on; what it reads has at most 1,024 frames.
use Rattle.std.proofs.Common.{sym, ◌∙◌}
use Rattle.std.proofs.lemmas.Result.{err_from_is_err_and}
use Rattle.tonekit_core.proofs.Calls.{delivers_refused}
use Rattle.tonekit_query.proofs.Laws.{load_reads, read_holds}
use Rattle.tonekit_shape.proofs.Outcomes.{query_bad}
use Rattle.tonekit_shape.proofs.write_shape.Goals as goal

pub returns-in_err-q : goal.returns-in_err-q
returns-in_err-q c =
    let p = err_from_is_err_and c.from_residual.result c.from_residual.ensures.1 in
    rw (p.1, p.2) (delivers_refused _ _ _ _ (query_bad _ _ (sym c.load_query.ensures ∙ c.in_err-q.was)))

pub write_shaped-requires : goal.write_shaped-requires
write_shaped-requires c = (read_holds _ _ (load_reads _ _ (sym c.load_query.ensures ∙ c.in_ok-q.was))).count
