-- `list_place` meets its contract: no list, or the one at that place, whose offset is held as a u16.
use Rattle.std.proofs.Common.{◌≡◌, arith}
use Rattle.tonekit_sheet_read.specs.Held.{records_of}
use Rattle.tonekit_sheet_inventory.proofs.Lookup.{not_there, place_is}
use Rattle.tonekit_sheet_inventory.proofs.HeldSheet.list_place.Goals as goal

pub returns-then-number-eq0 : goal.returns-then-number-eq0
returns-then-number-eq0 c = record { is = rw c.if-number-eq0.true; near = λ o q. not_there o q }

pub returns : goal.returns
returns c =
    record {
      is = rw (c.from-2.ensures, c.list_at.ensures, c.from.ensures) (place_is (records_of c.args.self.now.view.sheet) c.args.number c.if-number-eq0.false);
      near = λ o q. let e : c.from-2.result ≡ o = cc in omega (arith, c.from-2.ensures, c.list_at.type_inv);
    }
