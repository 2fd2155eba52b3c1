-- Offsets that the code holds: the filled front of an array, and those of records one behind the other; and a turn of the search among them.
use Rattle.std.specs.Prelude.{ℕ, zero, suc, ◌+◌, ◌*◌, cond, List, [], ◌∷◌, ◌++◌, eqb, get_or, Option, Some}
use Rattle.tonekit_core.specs.Loop.{Turn, next, stop}
use Rattle.spec_arithmetic.specs.Places.{number_at}

-- the first n, in order
unfoldable pub in_order : List ℕ → ℕ → List ℕ
in_order xs zero = []
in_order xs (suc n) = in_order xs n ++ (get_or xs n 0 ∷ [])

-- n offsets from o on, each step behind the one before
unfoldable pub stepped : ℕ → ℕ → ℕ → List ℕ
stepped o step zero = []
stepped o step (suc n) = stepped o step n ++ ((o + step * n) ∷ [])

-- a turn of `index_of`
abbrev pub index_turn : List ℕ → List ℕ → ℕ → ℕ → ℕ → Turn ℕ (Option ℕ)
index_turn s os n = λ i u. cond (eqb (number_at s (get_or os i 0)) n) (stop (Some i)) (next u)
