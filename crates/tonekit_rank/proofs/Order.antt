-- Sorting keeps the counts, and in sorted keys the one at place k has at most k below it, and more than k at or below it. Assumes nothing.
use Rattle.std.proofs.Common.{ℕ, zero, suc, ◌+◌, ◌≤◌, ◌<◌, ◌≡◌, refl, ◌∙◌, ap, Bool, true, false, not, cond, T, ltb, leb, List, [], ◌∷◌, length, get_or, le_trans, zero-le, arith, ltb→lt, nltb→le, leb→le, lt-ltb, le-ltb}
use lib.Dec.{nleb→lt}
use Rattle.std.specs.List.{count_by, All}
use Rattle.std.proofs.lemmas.List.Elements.{All-nil, All-cons, All-head, All-tail}
use Rattle.std.proofs.lemmas.List.Sums.{sum_by-cons}
use Rattle.tonekit_rank.specs.Rank.{insert, sorted}

-- how many are below x
abbrev pub count_below : List ℕ → ℕ → ℕ
count_below l x = count_by (λ key. ltb key x) l

abbrev one : Bool → ℕ
one t = cond t 1 0

count_cons : (a : ℕ) (l : List ℕ) (x : ℕ) → count_below (a ∷ l) x ≡ one (ltb a x) + count_below l x
count_cons a l x = sum_by-cons (λ key. one (ltb key x)) a l

length_insert : (a : ℕ) (l : List ℕ) → length (insert a l) ≡ suc (length l)
unfolding insert
length_insert a [] = refl
length_insert a (b ∷ l) = go (leb a b) (length_insert a l)
  where
    go : (t : Bool) → length (insert a l) ≡ suc (length l) → length (cond t (a ∷ (b ∷ l)) (b ∷ insert a l)) ≡ suc (suc (length l))
    go true r = refl
    go false r = ap suc r

pub length_sorted : (l : List ℕ) → length (sorted l) ≡ length l
unfolding sorted
length_sorted [] = refl
length_sorted (a ∷ l) = length_insert a (sorted l) ∙ ap suc (length_sorted l)

count_insert : (a : ℕ) (l : List ℕ) (x : ℕ) → count_below (insert a l) x ≡ one (ltb a x) + count_below l x
unfolding insert
count_insert a [] x = count_cons a [] x
count_insert a (b ∷ l) x = go (leb a b) (count_insert a l x)
  where
    go : (t : Bool) → count_below (insert a l) x ≡ one (ltb a x) + count_below l x → count_below (cond t (a ∷ (b ∷ l)) (b ∷ insert a l)) x ≡ one (ltb a x) + count_below (b ∷ l) x
    go true r = count_cons a (b ∷ l) x
    go false r = omega (arith, count_cons b (insert a l) x, count_cons b l x)

pub count_sorted : (l : List ℕ) (x : ℕ) → count_below (sorted l) x ≡ count_below l x
unfolding sorted
count_sorted [] x = refl
count_sorted (a ∷ l) x = omega (arith, count_insert a (sorted l) x, count_sorted l x, count_cons a l x)

pub count_none : (l : List ℕ) → count_below l 0 ≡ 0
count_none [] = refl
count_none (a ∷ l) = omega (arith, count_cons a l 0, ap one (le-ltb a 0 zero-le), count_none l)

pub count_all : (l : List ℕ) (x : ℕ) → ((i : ℕ) → get_or l i 0 < x) → count_below l x ≡ length l
count_all [] x h = refl
count_all (a ∷ l) x h = omega (arith, count_cons a l x, ap one (lt-ltb a x (h 0)), count_all l x (λ i. h (suc i)))

-- ---- an ascending list
abbrev From : ℕ → List ℕ → Type 0
From a l = All (λ b. a ≤ b) l

abbrev Up : List ℕ → Type 0
Up [] = Unit
Up (a ∷ l) = From a l × Up l

insert_from : (c a : ℕ) (l : List ℕ) → c ≤ a → From c l → From c (insert a l)
unfolding insert
insert_from c a [] h f = All-cons (λ b. c ≤ b) a [] h f
insert_from c a (b ∷ l) h f = go (leb a b) (insert_from c a l h (All-tail (λ b. c ≤ b) b l f))
  where
    go : (t : Bool) → From c (insert a l) → From c (cond t (a ∷ (b ∷ l)) (b ∷ insert a l))
    go true r = All-cons (λ b. c ≤ b) a (b ∷ l) h f
    go false r = All-cons (λ b. c ≤ b) b (insert a l) (All-head (λ b. c ≤ b) b l f) r

from_less : (a b : ℕ) (l : List ℕ) → a ≤ b → From b l → From a l
from_less a b l h f = λ k d i. le_trans h (f k d i)

insert_up : (a : ℕ) (l : List ℕ) → Up l → Up (insert a l)
unfolding insert
insert_up a [] u = (All-nil (λ b. a ≤ b), tt)
insert_up a (b ∷ l) u = go (leb a b) (leb→le a b) (nleb→lt a b) (insert_up a l u.1)
  where
    go : (t : Bool) → (T t → a ≤ b) → (T (not t) → b < a) → Up (insert a l) → Up (cond t (a ∷ (b ∷ l)) (b ∷ insert a l))
    go true i j r = (All-cons (λ b. a ≤ b) b l (i tt) (from_less a b l (i tt) u.0), u)
    go false i j r = (insert_from b a l (let z = j tt in omega arith) u.0, r)

pub sorted_up : (l : List ℕ) → Up (sorted l)
unfolding sorted
sorted_up [] = tt
sorted_up (a ∷ l) = insert_up a (sorted l) (sorted_up l)

-- ---- the number at a place
none_below : (a x : ℕ) (l : List ℕ) → From a l → x ≤ a → count_below l x ≡ 0
none_below a x [] f h = refl
none_below a x (b ∷ l) f h = omega (arith, count_cons b l x, ap one (le-ltb b x (le_trans h (All-head (λ b. a ≤ b) b l f))), none_below a x l (All-tail (λ b. a ≤ b) b l f) h)

abbrev Placed : List ℕ → ℕ → Type 0
Placed l x = (k : ℕ) → count_below l x ≤ k → k < count_below l (x + 1) → get_or l k 0 ≡ x

pub at_place : (l : List ℕ) (x : ℕ) → Up l → Placed l x
at_place [] x u k lo hi = absurd (omega arith)
at_place (a ∷ l) x u k lo hi =
    go (ltb a x) (ltb a (x + 1)) (ltb→lt a x) (nltb→le a x) (ltb→lt a (x + 1)) (nltb→le a (x + 1)) (at_place l x u.1) (omega (arith, count_cons a l x)) (omega (arith, count_cons a l (x + 1)))
  where
    -- a is x itself, and stands at k or before it
    here : (k : ℕ) → Placed l x → a ≡ x → k < 1 + count_below l (x + 1) → get_or (a ∷ l) k 0 ≡ x
    here zero r e h = e
    here (suc k) r e h = r k (omega (arith, none_below a x l u.0 (omega arith))) (omega arith)

    -- a is below x, and stands before k
    past : (k : ℕ) → Placed l x → 1 + count_below l x ≤ k → k < 1 + count_below l (x + 1) → get_or (a ∷ l) k 0 ≡ x
    past zero r h g = absurd (omega arith)
    past (suc k) r h g = r k (omega arith) (omega arith)

    go : (s t : Bool) → (T s → a < x) → (T (not s) → x ≤ a) → (T t → a < x + 1) → (T (not t) → x + 1 ≤ a) → Placed l x
        → one s + count_below l x ≤ k → k < one t + count_below l (x + 1) → get_or (a ∷ l) k 0 ≡ x
    go true true i j m n r lo hi = past k r lo hi
    go true false i j m n r lo hi = let z = i tt in let y = n tt in absurd (omega arith)
    go false true i j m n r lo hi = let z = j tt in let y = m tt in here k r (omega arith) hi
    go false false i j m n r lo hi = let y = n tt in absurd (omega (arith, none_below a (x + 1) l u.0 y))
