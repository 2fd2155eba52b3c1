-- The first entries of an array, as a list. Assumes nothing.
use Rattle.std.proofs.Common.{ℕ, zero, suc, ◌+◌, ◌-◌, ◌≤◌, ◌<◌, ◌≡◌, refl, ◌∙◌, List, [], ◌∷◌, ◌++◌, arith, add-one, ltb, ltb-true, ltb-false, length, get_or, set, take, length-append, get_or-set_other, get_or-set_same, take-suc}
use lib.ListN.{get_or-append}
use lib.Seq.{get_or_at}
use Rattle.tonekit_bytes.specs.Places.{in_order}
use Rattle.tonekit_core.proofs.Split.{split}

pub order_length : (xs : List ℕ) (n : ℕ) → length (in_order xs n) ≡ n
unfolding in_order
order_length xs zero = refl
order_length xs (suc n) = simp (length-append, order_length xs n, add-one)

pub order_get : (xs : List ℕ) (n i : ℕ) → i < n → get_or (in_order xs n) i 0 ≡ get_or xs i 0
unfolding in_order
order_get xs zero i h = absurd (omega arith)
order_get xs (suc n) i h =
    split (ltb i n)
    (λ l. get_or-append (in_order xs n) (get_or xs n 0 ∷ []) 0 i (rw (order_length xs n) (ltb-true i n l)) ∙ order_get xs n i (ltb-true i n l))
    (λ l. let e : i ≡ n = omega (arith, ltb-false i n l) in rw e (get_or_at (in_order xs n) (get_or xs n 0) [] 0 n (order_length xs n)))

pub order_take : (xs : List ℕ) (n : ℕ) → n ≤ length xs → take n xs ≡ in_order xs n
unfolding in_order
order_take xs zero h = refl
order_take xs (suc n) h = rw (take-suc xs n 0 (omega arith), order_take xs n (omega arith))

-- a store behind the first n changes none of them
order_kept : (xs : List ℕ) (n m v : ℕ) → n ≤ m → in_order (set xs m v) n ≡ in_order xs n
unfolding in_order
order_kept xs zero m v h = refl
order_kept xs (suc n) m v h = rw (order_kept xs n m v (omega arith), get_or-set_other xs m n v 0 (λ e. omega arith))

-- and is one entry more
pub order_set : (xs : List ℕ) (n v : ℕ) → n < length xs → in_order (set xs n v) (n + 1) ≡ in_order xs n ++ (v ∷ [])
unfolding in_order
order_set xs n v h = rw add-one (rw (order_kept xs n n v (omega arith), get_or-set_same xs n v 0 h))

module _ (xs : List ℕ) (n : ℕ) where
  pub last_none : n ≡ 0 → 0 ≡ get_or (in_order xs n) (length (in_order xs n) - 1) 0
  unfolding in_order
  last_none e = rw e

  pub last_read : 0 < n → get_or (in_order xs n) (length (in_order xs n) - 1) 0 ≡ get_or xs (n - 1) 0
  last_read p = rw order_length (order_get xs n (n - 1) (omega arith))

-- a bound on every entry
pub set_bounded : (xs : List ℕ) (n v b : ℕ) → ((i : ℕ) → get_or xs i 0 ≤ b) → v ≤ b → (i : ℕ) → get_or (set xs n v) i 0 ≤ b
set_bounded [] n v b h l i = h i
set_bounded (x ∷ xs) zero v b h l zero = l
set_bounded (x ∷ xs) zero v b h l (suc i) = h (suc i)
set_bounded (x ∷ xs) (suc n) v b h l zero = h zero
set_bounded (x ∷ xs) (suc n) v b h l (suc i) = set_bounded xs n v b (λ j. h (suc j)) l i
