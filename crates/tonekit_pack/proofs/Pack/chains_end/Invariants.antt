-- The chains so far end, and those that are left say what all say.
use Rattle.std.proofs.Common.{ℕ, true, ◌<◌, ◌-◌, ◌≡◌, length}
use Rattle.spec_pack.specs.Pack.{chain_ends, chains_end}
use Rattle.tonekit_pack.specs.Held.{records_of}
use Rattle.tonekit_pack.proofs.Pack.chains_end.Given as goal

abbrev pub invariant-loop-start : goal.invariant-loop-start
invariant-loop-start l = record {
  ended : (j : ℕ) → j < l.start → chain_ends l.s (records_of l.self) (length (records_of l.self).accents) j ≡ true;
  rest : chains_end l.s (records_of l.self) (l.self.accents.count - l.start) l.start ≡ chains_end l.s (records_of l.self) (length (records_of l.self).accents) 0;
}
