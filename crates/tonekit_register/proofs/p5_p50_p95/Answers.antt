-- `p5_p50_p95`: of no keys there are no percentiles, and of some there are three.
use Rattle.std.proofs.Common.{rules}
use Rattle.tonekit_register.proofs.KeyLists.{none_of, some_of}
use Rattle.tonekit_register.proofs.p5_p50_p95.Goals as goal

pub returns-then-is_empty : goal.returns-then-is_empty
returns-then-is_empty c = λ st k. none_of c.args.keys.now st (search rules) k

pub returns : goal.returns
returns c = λ st k. some_of c.args.keys.now st (search rules) c.percentile.ensures c.percentile-2.ensures c.percentile-3.ensures k
