-- What a lookup in a sheet lists stands in its slots after.
use Rattle.std.proofs.Common.{refl, sym, arith}
use Rattle.spec_sheet.specs.FromSheet.{source_of_sheet}
use Rattle.spec_judgement.specs.Gather.{put_in}
use Rattle.tonekit_sheet_inventory.specs.Look.{ShortList, name_at}
use Rattle.tonekit_sheet_inventory.proofs.Slots.{list_named}
use Rattle.tonekit_sheet_inventory.proofs.HeldSheetHeld.put.Goals as goal
use Rattle.tonekit_sheet_inventory.proofs.HeldSheetHeld.put.Goals.{In_ok-o}

short : (c : In_ok-o) → ShortList c.args.self.now.view.bytes.now c.in_ok-o.o
short c = c.look.ensures.list _ c.in_ok-o.was

pub fill-requires : goal.fill-requires
fill-requires c = (c.requires, short (goal.at.fill-requires c).In_ok-o)

pub returns : goal.returns
unfolding source_of_sheet name_at
returns c =
    let s = c.args.self.now.view.bytes.now in
    let e = rw c.in_ok-o.was at c.look.ensures.is in
    let h = short (goal.at.returns c).In_ok-o in
    record { name = rw (e, c.name_at.ensures) (sym (list_named s c.in_ok-o.o h.some)); few = rw c.name_at.ensures h.few; slots = rw e c.fill.ensures }

pub returns-in_err-o : goal.returns-in_err-o
unfolding source_of_sheet put_in
returns-in_err-o c =
    let e = rw c.in_err-o.was at c.look.ensures.is in
    rw c.from_residual.ensures (record { name = rw e refl; few = omega arith; slots = rw e refl })
