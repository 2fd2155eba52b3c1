-- `replay` meets its contract: what is left of the vectors, from here, gives what all give.
use Rattle.std.proofs.Common.{◌+◌, drop, sym, ap, ◌∙◌, arith, rules}
use Rattle.tonekit_core.specs.Loop.{fold}
use Rattle.tonekit_core.proofs.LoopLaws.{fold_step, fold_done}
use Rattle.arithmetic_vectors.specs.declared.Count.{Count}
use Rattle.arithmetic_vectors.specs.Replay.{tally, replayed}
use Rattle.arithmetic_vectors.proofs.replay.Goals as goal

pub loop-vector-init : goal.loop-vector-init
unfolding replayed
loop-vector-init g c = (omega arith, omega arith, ap (fold (tally c.args.op) (record { run = 0; differ = 0 })) c.as_chunks.ensures.front)

pub loop-vector-preserved : goal.loop-vector-preserved
loop-vector-preserved g c =
    let at = c.loop-vector in
    let more = c.tally-c.ensures.more in
    let all = c.as_chunks.result.0.now in
    let f = tally c.args.op in
    (omega arith, omega arith, ap (λ (s : Count). fold f s (drop (at.vector-index + 1) all)) c.tally-c.ensures.value ∙ sym (fold_step f at.c all at.vector-index _ c.loop-vector-test.true) ∙ at.invariant.2)

pub returns : goal.returns
returns g c = let at = c.loop-vector in sym (fold_done (tally c.args.op) at.c c.as_chunks.result.0.now at.vector-index (search rules)) ∙ at.invariant.2
