-- Lists that are tabulated: how long they are, their entries, and a list as such. Assumes nothing.
use Rattle.std.proofs.Common.{ℕ, zero, suc, ◌+◌, ◌≤◌, ◌<◌, ◌≡◌, refl, sym, ap, List, [], ◌∷◌, map, arith, add-one, length, get_or, drop, drop_of_length-le, drop-cons}
use Rattle.tonekit_book.specs.Book.{tabulate}

pub tabulate_length : {A : Type 0} (f : ℕ → A) (k i : ℕ) → length (tabulate f k i) ≡ k
unfolding tabulate
tabulate_length f zero i = refl
tabulate_length f (suc k) i = ap suc (tabulate_length f k (i + 1))

-- none; or the first, and those behind it
pub tabulate_none : {A : Type 0} (f : ℕ → A) (k i : ℕ) → k ≡ 0 → tabulate f k i ≡ []
unfolding tabulate
tabulate_none f zero i e = refl
tabulate_none f (suc k) i e = absurd (omega arith)

pub tabulate_some : {A : Type 0} (f : ℕ → A) (k m i : ℕ) → k ≡ m + 1 → tabulate f k i ≡ f i ∷ tabulate f m (i + 1)
unfolding tabulate
tabulate_some f zero m i e = absurd (omega arith)
tabulate_some f (suc k) m i e = let q : k ≡ m = omega arith in rw q

pub map_tabulate : {A B : Type 0} (h : A → B) (f : ℕ → A) (k i : ℕ) → map h (tabulate f k i) ≡ tabulate (λ j. h (f j)) k i
unfolding tabulate
map_tabulate h f zero i = refl
map_tabulate h f (suc k) i = ap (λ l. h (f i) ∷ l) (map_tabulate h f k (i + 1))

-- by the places in a list of offsets, from place i on, and all of them
tabulate_drop : {A : Type 0} (h : ℕ → A) (os : List ℕ) (k i : ℕ) → k + i ≡ length os → tabulate (λ j. h (get_or os j 0)) k i ≡ map h (drop i os)
unfolding tabulate
tabulate_drop h os zero i e = let l : length os ≤ i = omega arith in rw (drop_of_length-le os l)
tabulate_drop h os (suc k) i e =
    let l : i < length os = omega arith in
    rw (drop-cons os i 0 l, add-one i) (ap (λ m. h (get_or os i 0) ∷ m) (tabulate_drop h os k (suc i) (omega arith)))

pub tabulate_all : {A : Type 0} (h : ℕ → A) (os : List ℕ) → map h os ≡ tabulate (λ j. h (get_or os j 0)) (length os) 0
tabulate_all h os = sym (tabulate_drop h os (length os) 0 (omega arith))
