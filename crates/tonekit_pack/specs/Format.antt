-- What reading a file, loading it and checking it answer: `single_file` and `said` of tonekit_bytes/specs/Files, of a Result.
use Rattle.std.specs.Prelude.{ℕ, ◌≡◌, cond, ltb, Result, Ok, Err}
use Rattle.tonekit_core.specs.declared.Refusal.TheVariants.{Overrun}
use Rattle.tonekit_core.specs.declared.Rejection.{Rejection}
use Rattle.spec_arithmetic.specs.Files.{Out, loaded, refused}
use Rattle.tonekit_pack.specs.declared.Loaded.{Loaded}

-- a single file in n bytes: 3 at the first byte behind it
abbrev pub alone : {F : Type 0} → ℕ → Result (Loaded F) Rejection → Result (Loaded F) Rejection
alone n (Ok l) = cond (ltb l.end n) (Err (record { why = Overrun; place = l.end })) (Ok l)
alone n (Err e) = Err e

-- what loading answers where reading answers this
abbrev pub Alone : {F : Type 0} → (Result (Loaded F) Rejection → Type 0) → ℕ → Result (Loaded F) Rejection → Type 0
Alone {F} reads n result = (r : Result (Loaded F) Rejection) × reads r × (result ≡ alone n r)

-- and a check
abbrev pub checked_as : {F : Type 0} → Result (Loaded F) Rejection → Result Unit Rejection
checked_as (Ok l) = Ok tt
checked_as (Err e) = Err e

abbrev pub Checked : {F : Type 0} → (Result (Loaded F) Rejection → Type 0) → ℕ → Result Unit Rejection → Type 0
Checked {F} reads n result = (r : Result (Loaded F) Rejection) × reads r × (result ≡ checked_as (alone n r))

-- the same as the reader's answer, where what is kept is shown to be what was read
abbrev pub answer : {F S : Type 0} → (F → S) → Result (Loaded F) Rejection → Out S
answer records_of (Ok l) = loaded (records_of l.held) l.end
answer records_of (Err e) = refused e.why e.place
