-- `query_verdict` meets its contract, by the ways through its code.
use Rattle.std.proofs.Common.{lt-ltb}
use Rattle.spec_judgement.specs.Judgement.{query_verdict}
use Rattle.tonekit_station.proofs.query_verdict.Goals as goal

pub returns-then-voiced-lt3 : goal.returns-then-voiced-lt3
unfolding query_verdict
returns-then-voiced-lt3 c = rw (lt-ltb _ 3 c.if-voiced-lt3.true)
