use Rattle.std.proofs.Common.{◌≡◌, ◌+◌, ◌-◌, ◌*◌, length}
use Rattle.spec_lookup.specs.Source.{components}
use Rattle.spec_judgement.specs.declared.Slots.{Slots}
use Rattle.spec_judgement.specs.Gather.{put_in}
use Rattle.tonekit_inventory.proofs.Slots.{about}
use Rattle.tonekit_inventory.proofs.pack.fill.Given as goal

abbrev pub invariant-loop-j : goal.invariant-loop-j
invariant-loop-j l = record {
  many : length l.own ≡ l.l.count;
  stored : ◌≡◌ {A = Slots} (record { list = about (4 * l.t) (4 * l.t + l.l.count - 4 * l.t) l.fn.slots.list l.own }) (put_in l.t (components l.s l.l l.j) l.fn.slots);
}
