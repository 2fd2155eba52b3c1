-- `listings` meets its contract: from each tone on the definition gives what it gives of the whole, and the code's stores are its turns.
use Rattle.std.proofs.Common.{rules}
use Rattle.tonekit_inventory.proofs.Going.{going_starts, going_on, going_ends}
use Rattle.tonekit_inventory.proofs.listings.Goals as goal

pub loop-t-init : goal.loop-t-init
loop-t-init g c =
    let e = c.tones-t-end.ensures in
    record { few = e.few; all = e.count; going = going_starts _ _ _ e.count _ c.requires _ c.new-inventory.ensures }

pub loop-t-preserved : goal.loop-t-preserved
loop-t-preserved g c =
    let v = c.loop-t.invariant in
    let p = c.put-listing.ensures in
    record { few = v.few; all = v.all; going = going_on _ _ _ _ _ _ v.going (search rules) v.few _ c.tone-tone.ensures _ p.name p.few _ c.push.ensures _ p.slots }

pub returns : goal.returns
returns g c = let v = c.loop-t.invariant in going_ends _ _ _ _ _ _ v.going (search rules) v.few
