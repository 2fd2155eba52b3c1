use Rattle.std.proofs.Common.{◌≡◌, ◌≤◌, drop}
use Rattle.tonekit_core.specs.Loop.{fold}
use Rattle.arithmetic_vectors.specs.Replay.{tally, replayed}
use Rattle.arithmetic_vectors.proofs.replay.Given as goal

abbrev pub invariant-loop-vector : goal.invariant-loop-vector
invariant-loop-vector g l =
    (l.c.run ≤ l.vector-index) × (l.c.differ ≤ l.vector-index) × (fold (tally l.op) l.c (drop l.vector-index l.vectors) ≡ replayed l.s l.op)
