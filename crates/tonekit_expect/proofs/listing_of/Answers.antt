use Rattle.tonekit_bytes.proofs.InOrder.{order_get}
use Rattle.tonekit_expect.proofs.listing_of.Goals as goal

pub returns-in-Some : goal.returns-in-Some
returns-in-Some c =
    let p = c.args.v.pack.accents in
    let w = c.in-Some.is in
    let e = order_get p.at p.count _ (c.requires _ w).0 in
    simp (w, e, ← c.from-a.ensures, ← c.byte_at-owner.ensures, ← c.rule_listing.ensures)
