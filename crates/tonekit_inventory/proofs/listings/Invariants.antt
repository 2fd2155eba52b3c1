use Rattle.std.proofs.Common.{◌≡◌, ◌≤◌, length}
use Rattle.tonekit_inventory.proofs.Going.{Going}
use Rattle.tonekit_inventory.proofs.listings.Given as goal

abbrev pub invariant-loop-t : goal.invariant-loop-t
invariant-loop-t g l = record {
  few : l.t-end ≤ 8;
  all : l.t-end ≡ length (g.H.Held.source l.held).tones;
  going : Going (g.H.Held.source l.held) l.t-end l.c l.slots l.inventory l.t;
}
