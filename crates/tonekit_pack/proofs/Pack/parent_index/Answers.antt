use Rattle.std.proofs.Common.{◌∙◌}
use Rattle.tonekit_bytes.proofs.InOrder.{order_get}
use Rattle.tonekit_pack.proofs.Pack.parent_index.Goals as goal

pub returns : goal.returns
returns c =
    let p = c.args.self.now.accents in
    c.index_of.ensures ∙ simp (c.offsets.ensures, c.byte_at-parent.ensures, c.from-o.ensures, order_get p.at p.count c.args.i c.requires)
