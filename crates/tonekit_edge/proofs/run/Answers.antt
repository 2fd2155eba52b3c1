-- `run` calls `answer` with what `read_full` read.
use Rattle.std.proofs.Common.{rules, refl}
use Rattle.tonekit_edge.proofs.run.Goals as goal

pub returns-clause-answers : goal.returns-clause-answers
returns-clause-answers g c = (
  c.in_ok-n.n,
  c.answer-m.result,
  search rules,
  search rules,
  search rules,
  record { shown = _; shows = search rules; lent = _; lends = refl; left = _; met = c.answer-m.ensures; leaves = refl },
)
