-- What is left of the walk, from here, says what the whole says; and where the chain from here ends, so does the whole.
use Rattle.std.proofs.Common.{ℕ, ◌<◌, ◌-◌, ◌≡◌, length}
use Rattle.spec_pack.specs.Pack.{chain_ends}
use Rattle.tonekit_pack.specs.Held.{records_of}
use Rattle.tonekit_pack.proofs.Chains.{Ends}
use Rattle.tonekit_pack.proofs.Pack.chain_ends.Given as goal

abbrev pub invariant-loop : goal.invariant-loop
invariant-loop l = record {
  inside : l.a < l.self.accents.count;
  rest : chain_ends l.s (records_of l.self) (l.self.accents.count - l.counter) l.a ≡ chain_ends l.s (records_of l.self) (length (records_of l.self).accents) l.i;
  above : (n : ℕ) → Ends l.s (records_of l.self) n l.a → (m : ℕ) × Ends l.s (records_of l.self) m l.i;
}
