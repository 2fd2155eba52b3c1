use Rattle.std.proofs.Common.{arith, rules}
use Rattle.tonekit_shape.proofs.Fill.{listed_none, listed_more, listed_all}
use Rattle.tonekit_shape.proofs.ten.Goals as goal

pub loop-k-init : goal.loop-k-init
loop-k-init g c = λ f h. listed_none f _

pub loop-k-preserved : goal.loop-k-preserved
loop-k-preserved g c = λ f h. listed_more f _ _ _ _ (search rules) (c.loop-k.invariant f h) (h _ _ (omega arith) c.f.ensures)

pub returns : goal.returns
returns g c = λ f h. listed_all f _ _ _ _ (search rules) (search rules) (c.loop-k.invariant f h)
