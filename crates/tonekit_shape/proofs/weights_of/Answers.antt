use Rattle.std.proofs.Common.{rules}
use Rattle.spec_shape.specs.Window.{weight_at}
use Rattle.tonekit_shape.proofs.weights_of.Goals as goal

pub returns : goal.returns
returns c = let v = c.args.frames in c.ten.ensures (weight_at v.bytes.now v.first c.args.n) (λ k x h p. search rules)
