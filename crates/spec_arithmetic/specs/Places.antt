-- Records held by their offsets: of each its number, and the search among them by number.
use Rattle.std.specs.Prelude.{ℕ, ◌+◌, cond, List, eqb, length, get_or, Option, Some, None}
use Rattle.tonekit_core.specs.Loop.{next, stop, range_to}
use Rattle.tonekit_core.specs.declared.layout.TheConstants.{OWN_NUMBER}
use Rattle.spec_arithmetic.specs.Fields.{byte_at}

-- the number of a tone's, an accent's or a list's record: its own
abbrev pub number_at : List ℕ → ℕ → ℕ
number_at s o = byte_at s (o + OWN_NUMBER)

-- the place of the first record with number n among the records at these offsets
unfoldable pub index_of : List ℕ → List ℕ → ℕ → Option ℕ
index_of s os n = range_to (λ (i u : ℕ). cond (eqb (number_at s (get_or os i 0)) n) (stop (Some i)) (next u)) (λ u. None) 0 (length os) 0
