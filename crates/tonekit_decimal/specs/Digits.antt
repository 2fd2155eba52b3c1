-- Arithmetic on decimal digits, the ones first: what the code's loops do. The laws of proofs/Digits join it to whole numbers.
use Rattle.std.specs.Int.{from_bool}
use Rattle.std.specs.Prelude.{ℕ, zero, suc, ◌+◌, ◌*◌, ◌/◌, ◌%◌, Bool, false, not, cond, List, [], ◌∷◌, ◌++◌, ltb, drop, replicate, Option, Some, None, unwrap_or}

-- the n lowest decimal digits of x
unfoldable pub digits : ℕ → ℕ → List ℕ
digits zero x = []
digits (suc n) x = x % 10 ∷ digits n (x / 10)

-- k times the digits, plus c, the carry handed up and dropped at the end
unfoldable pub mul_add : ℕ → ℕ → List ℕ → List ℕ
mul_add k c [] = []
mul_add k c (d ∷ ds) = (k * d + c) % 10 ∷ mul_add k ((k * d + c) / 10) ds

-- k times what stands from place p up, plus c, with p zeros below
unfoldable pub scaled : ℕ → ℕ → ℕ → List ℕ → List ℕ
scaled k p c ds = replicate p 0 ++ mul_add k c (drop p ds)

-- k times the digits, n times over
unfoldable pub times_all : ℕ → ℕ → List ℕ → List ℕ
times_all k zero ds = ds
times_all k (suc n) ds = times_all k n (scaled k 0 0 ds)

-- whether xs is at most ys, or less where it must be: the difference leaves nothing to borrow
unfoldable pub at_most : Bool → List ℕ → List ℕ → Bool
at_most less [] ys = not less
at_most less (x ∷ xs) [] = false
at_most less (x ∷ xs) (y ∷ ys) = at_most (ltb y (x + from_bool less)) xs ys

-- whether ds lies between lo and hi, the ends left out where odd is true
unfoldable pub reads_in : List ℕ → List ℕ → Bool → List ℕ → Bool
reads_in lo hi odd ds = cond (at_most odd lo ds) (at_most odd ds hi) false

-- `choice` and `shortest` of specs/Decimal, on digits
unfoldable pub choice_in : List ℕ → List ℕ → List ℕ → Bool → ℕ → Option (List ℕ)
choice_in lo v hi odd p =
    cond (reads_in lo hi odd (scaled 1 p 0 v))
    (cond (reads_in lo hi odd (scaled 1 p 1 v))
    (cond (at_most false (scaled 2 0 0 v) (scaled 2 p 1 v)) (Some (scaled 1 p 0 v)) (Some (scaled 1 p 1 v))) (Some (scaled 1 p 0 v)))
    (cond (reads_in lo hi odd (scaled 1 p 1 v)) (Some (scaled 1 p 1 v)) None)

unfoldable pub search_in : List ℕ → List ℕ → List ℕ → Bool → ℕ → List ℕ
search_in lo v hi odd zero = v
search_in lo v hi odd (suc p) = unwrap_or (choice_in lo v hi odd (suc p)) (search_in lo v hi odd p)
