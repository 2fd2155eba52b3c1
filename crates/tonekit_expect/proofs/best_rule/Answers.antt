use Rattle.std.proofs.Common.{◌∙◌, ◌+◌, lt-ltb, le-ltb}
use Rattle.spec_lookup.specs.Lookup.{best_rule}
use Rattle.tonekit_bytes.proofs.InOrder.{order_length, order_get}
use Rattle.tonekit_expect.proofs.best_rule.Goals as goal
use Rattle.tonekit_expect.proofs.best_rule.Goals.{then-i-v, else-i-v}

pub returns : goal.returns
unfolding best_rule
returns c =
    let p = c.args.v.pack in
    let n = p.accents.count in
    let i = c.args.i in
    c.best_among.ensures
    ∙ elim c.if-i-v.branch [
      | then-i-v w ↦ simp (← c.offsets.ensures, w.to-is, w.from-to.ensures, c.from-from.ensures, order_length p.accents.at n, lt-ltb _ _ w.if-i-v.true, order_get p.firstrule n i c.requires, order_get p.firstrule n (i + 1) w.if-i-v.true)
      | else-i-v w ↦ simp (← c.offsets.ensures, w.to-is, c.from-from.ensures, order_length p.accents.at n, order_length p.rules.at p.rules.count, le-ltb _ _ w.if-i-v.false, order_get p.firstrule n i c.requires)
    ]
