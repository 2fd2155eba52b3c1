-- What the loop of a reader of files keeps: from here it gives what it gives of the whole.
use Rattle.std.specs.Prelude.{ℕ, ◌+◌, ◌≤◌, ◌<◌, ◌≡◌, List, length, Err}
use Rattle.std.proofs.Common.{arith}
use Rattle.tonekit_core.specs.Loop.{Turn, loop_to, loop_stop}
use Rattle.tonekit_core.specs.declared.Refusal.{Refusal}
use Rattle.tonekit_core.specs.declared.Refusal.TheVariants.{CutShort}
use Rattle.spec_arithmetic.specs.Files.{Out, refused, Here, Reader, on_verdict, read}

-- one record
abbrev pub record_turn : {S : Type 0} → Reader S → List ℕ → Here S → Turn (Here S) (Out S)
record_turn f s h = on_verdict f s h (f.verdict s h.at h.st)

-- from this place on reading gives what it gives of the whole
pub record Onward {S : Type 0} (f : Reader S) (s : List ℕ) (at : ℕ) (st : S) : Type 0 where
  pub inside : at ≤ length s
  pub fuel : ℕ
  pub enough : length s < fuel + at
  pub same : loop_to (record_turn f s) (refused CutShort (length s)) fuel (record { at = at; st = st }) ≡ read f s

-- a record that is refused ends it
pub refuses : {S : Type 0} (f : Reader S) (s : List ℕ) (at : ℕ) (st : S) → Onward f s at st → (r : Refusal) → f.verdict s at st ≡ Err r → refused r at ≡ read f s
refuses f s at st g r v = loop_stop (record_turn f s) (refused CutShort (length s)) g.same (omega arith) (rw v)
