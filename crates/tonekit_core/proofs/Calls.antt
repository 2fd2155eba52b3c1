-- What a call owes of an outcome: of a refusal the buffer as it was, and of the same outcome the same; what is said of an outcome's bytes. Assumes nothing.
use Rattle.std.proofs.Common.{ℕ, ◌≡◌, refl, subst, List, Result, Err}
use Rattle.tonekit_core.specs.Calls.{Outcome, refused, written, answer_in, buffer_after, Delivers}
use Rattle.tonekit_core.specs.declared.Refusal.{Refusal}
use Rattle.tonekit_core.specs.declared.Rejection.{Rejection}

pub delivers_refused : (held : List ℕ) (r : Refusal) (place : ℕ) (o : Outcome) → o ≡ refused r place → Delivers o held (Err (record { why = r; place = place })) held
unfolding answer_in buffer_after
delivers_refused held r place o e = rw e (record { answer = refl; buffer = refl })

pub delivers_same : (held out : List ℕ) (a : Result ℕ Rejection) (o p : Outcome) → o ≡ p → Delivers o held a out → Delivers p held a out
delivers_same held out a o p e d = subst (λ (x : Outcome). Delivers x held a out) e d

-- an outcome's bytes are so, where it has some
abbrev pub Writes : (List ℕ → Type 0) → Outcome → Type 0
Writes P (refused r place) = Unit {0}
Writes P (written bs) = P bs
