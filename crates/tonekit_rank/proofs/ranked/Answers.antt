-- `ranked`: the loop begins with every number possible, and ends with one.
use Rattle.std.proofs.Common.{ap, ◌∙◌, arith}
use Rattle.tonekit_rank.specs.Rank.{value_of}
use Rattle.tonekit_rank.proofs.Halving.{sought_start, found}
use Rattle.tonekit_rank.proofs.ranked.Goals as goal

pub loop-bit-init : goal.loop-bit-init
loop-bit-init c = sought_start c.args.keys.now c.args.k c.requires.one_of_them (λ i. let fits = c.type_inv.keys i in omega arith)

pub returns : goal.returns
returns c = c.value_of.ensures ∙ ap value_of (found c.args.keys.now c.args.k c.loop-bit.key c.loop-bit.bit c.loop-bit.invariant c.loop-bit-test.false)
