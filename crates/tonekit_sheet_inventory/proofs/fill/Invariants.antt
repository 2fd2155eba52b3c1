use Rattle.std.proofs.Common.{◌≡◌, ◌+◌, ◌-◌, ◌*◌, length}
use Rattle.spec_arithmetic.specs.Fields.{byte_at}
use Rattle.spec_judgement.specs.declared.Slots.{Slots}
use Rattle.spec_judgement.specs.Gather.{put_in}
use Rattle.tonekit_inventory.proofs.Slots.{about}
use Rattle.spec_sheet.specs.FromSheet.{carried_from}
use Rattle.tonekit_sheet_inventory.proofs.fill.Given as goal

abbrev pub invariant-loop-j : goal.invariant-loop-j
invariant-loop-j l = record {
  many : length l.own ≡ byte_at l.s (l.o + 6);
  stored : ◌≡◌ {A = Slots} (record { list = about (4 * l.t) (4 * l.t + l.count - 4 * l.t) l.fn.slots.list l.own }) (put_in l.t (carried_from l.s l.o l.j) l.fn.slots);
}
