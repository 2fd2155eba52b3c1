-- The places so far are those of the accents' parents, and the accents that are left say what all say of being held.
use Rattle.std.specs.Prelude.{None}
use Rattle.std.proofs.Common.{ℕ, ◌<◌, ◌≡◌, length, get_or, drop}
use Rattle.spec_pack.specs.Pack.{parents_held, parent_of}
use Rattle.tonekit_pack.specs.Held.{records_of}
use Rattle.tonekit_pack.proofs.Pack.parents.Given as goal

abbrev pub invariant-loop-i : goal.invariant-loop-i
invariant-loop-i l = record {
  slots : length l.up ≡ 8;
  places : (j : ℕ) → j < l.i → get_or l.up j None ≡ parent_of l.s (records_of l.self) j;
  left : parents_held l.s (records_of l.self).accents (drop l.i (records_of l.self).accents) ≡ parents_held l.s (records_of l.self).accents (records_of l.self).accents;
}
