use Rattle.std.proofs.Common.{rules}
use Rattle.tonekit_window.specs.Promises.{contour_at}
use Rattle.tonekit_shape.proofs.contour_of.Goals as goal

pub returns : goal.returns
returns c = c.ten.ensures (contour_at c.args.chao.now) (λ k x h p. search rules)
