-- What a program writes on standard output: the bytes that a call makes of its input, or of a refusal "52, number, u32 place" (document 01, Bench cases).
use Rattle.std.specs.Prelude.{ℕ, ◌≡◌, List, ◌∷◌, ◌++◌, length, drop, Result, Ok, Err}
use Rattle.std.proofs.lemmas.List.Edits.{sets}
use Rattle.tonekit_core.specs.Calls.{Outcome, written, refused}
use Rattle.tonekit_core.specs.declared.layout.TheConstants.{REFUSAL_KIND, REFUSAL_SIZE}
use Rattle.tonekit_core.specs.Words.{refusal_number}
use Rattle.tonekit_core.specs.declared.Refusal.{Refusal}
use Rattle.tonekit_core.specs.declared.Rejection.{Rejection}
use Rattle.spec_arithmetic.specs.Fields.{le32}

-- six bytes; the place's low 32 bits
abbrev pub refusal_bytes : Refusal → ℕ → List ℕ
refusal_bytes r place = REFUSAL_KIND ∷ refusal_number r ∷ le32 place

-- all that a program writes of what a call makes of its input
abbrev pub output_of : Outcome → List ℕ
output_of (written bs) = bs
output_of (refused r place) = refusal_bytes r place

-- what a program's function owes of an outcome: the number of bytes to write, these bytes at the front of the lent buffer, and what it held behind them
pub record Told (o : Outcome) (held : List ℕ) (n : ℕ) (out : List ℕ) : Type 0 where
  pub count : n ≡ length (output_of o)
  pub buffer : out ≡ output_of o ++ drop (length (output_of o)) held
  pub same : length out ≡ length held

-- of a call's answer: how many bytes there are to write, and the buffer, with the refusal's record at its front
abbrev pub told_count : Result ℕ Rejection → ℕ
told_count (Ok n) = n
told_count (Err e) = REFUSAL_SIZE

abbrev pub told_buffer : List ℕ → Result ℕ Rejection → List ℕ
told_buffer held (Ok n) = held
told_buffer held (Err e) = sets held 0 (refusal_bytes e.why e.place)
