-- What a call makes of its inputs, and what that means for a lent buffer ("Turned back").
use Rattle.std.specs.Prelude.{ℕ, cond, ◌≡◌, List, ◌++◌, leb, length, drop, Result, Ok, Err}
use Rattle.tonekit_core.specs.declared.Refusal.{Refusal}
use Rattle.tonekit_core.specs.declared.Refusal.TheVariants.{ShortBuffer}
use Rattle.tonekit_core.specs.declared.Rejection.{Rejection}

-- refused, by its word and its place; or the bytes that document 01 fixes
pub data Outcome : Type 0 where
  refused : Refusal → ℕ → Outcome
  written : List ℕ → Outcome

-- "short buffer: output longer than lent"; its place is "the needed length"
unfoldable pub answer_in : ℕ → Outcome → Result ℕ Rejection
answer_in room (refused r place) = Err (record { why = r; place = place })
answer_in room (written bs) = cond (leb (length bs) room) (Ok (length bs)) (Err (record { why = ShortBuffer; place = length bs }))

-- "Refused calls leave buffers unaltered; accepted ones leave the bytes past their output."
unfoldable pub buffer_after : List ℕ → Outcome → List ℕ
buffer_after held (refused r place) = held
buffer_after held (written bs) = cond (leb (length bs) (length held)) (bs ++ drop (length bs) held) held

-- what a call that is lent a buffer owes of an outcome: its answer, and what the buffer holds after
pub record Delivers (o : Outcome) (held : List ℕ) (a : Result ℕ Rejection) (out : List ℕ) : Type 0 where
  pub answer : a ≡ answer_in (length held) o
  pub buffer : out ≡ buffer_after held o
