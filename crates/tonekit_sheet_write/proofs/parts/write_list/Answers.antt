use Rattle.std.proofs.Common.{subst, List, ℕ}
use Rattle.tonekit_sheet.proofs.Gather.{joined, room_then}
use Rattle.tonekit_sheet_plan.specs.Listings.{Kept}
use Rattle.tonekit_sheet_write.specs.Pieces.{components_part}
use Rattle.tonekit_sheet_write.proofs.Bytes.{wrote_as, list_is, list_room}
use Rattle.tonekit_sheet_write.proofs.parts.write_list.Goals as goal
use Rattle.tonekit_sheet_write.proofs.parts.write_list.Goals.{After-curves-c}

-- what the curves are of can be read from the plan's bytes
kept : (c : After-curves-c) → Kept c.args.plan.now.bytes.now c.curves-c.result.listing
kept c = subst (λ (s : List ℕ). Kept s c.curves-c.result.listing) c.curves-c.ensures.bytes c.curves-c.result.kept

pub write_components-requires : goal.write_components-requires
write_components-requires c =
    let p = c.args.plan.now in
    let k = kept (goal.at.write_components-requires c).After-curves-c in
    rw c.curves-c.ensures.bytes
    (room_then (components_part p.bytes.now c.curves-c.result.listing) c.write_head-o.ensures (list_room p.bytes.now p.lists.items c.args.i c.requires.0 c.curves-c.ensures.listing k _ _ c.requires.2))

pub returns : goal.returns
returns c =
    let p = c.args.plan.now in
    let k = kept (goal.at.returns c).After-curves-c in
    let w = rw c.curves-c.ensures.bytes at c.write_components.ensures in
    wrote_as (list_is p.bytes.now p.lists.items c.args.i c.requires.0 c.curves-c.ensures.listing k) (joined c.write_head-o.ensures w)
