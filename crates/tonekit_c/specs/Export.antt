-- What the exported calls hand to C of an answer: a number, 0 where nothing was refused, and a place or a length.
use Rattle.std.specs.Prelude.{ℕ, ◌≡◌, Result, Ok, Err, List, length}
use Rattle.tonekit_core.specs.Calls.{Outcome, answer_in, buffer_after}
use Rattle.tonekit_core.specs.Words.{refusal_number}
use Rattle.tonekit_core.specs.declared.Rejection.{Rejection}

abbrev pub answer_number : {A : Type 0} → Result A Rejection → ℕ
answer_number (Ok a) = 0
answer_number (Err e) = refusal_number e.why

-- of a call that checks, and of one that writes: the place, or the bytes written
abbrev pub checked_place : Result (Unit {0}) Rejection → ℕ
checked_place (Ok u) = 0
checked_place (Err e) = e.place

abbrev pub answer_place : Result ℕ Rejection → ℕ
answer_place (Ok n) = n
answer_place (Err e) = e.place

-- what an exported call with a lent buffer owes of an outcome: number and place of its answer, and what the buffer holds after
pub record Hands (o : Outcome) (held : List ℕ) (n place : ℕ) (out : List ℕ) : Type 0 where
  pub number : n ≡ answer_number (answer_in (length held) o)
  pub at : place ≡ answer_place (answer_in (length held) o)
  pub buffer : out ≡ buffer_after held o
