-- Loops of which every turn is known: counted, for all, for any, and to their end without a stop. Assumes nothing.
use Rattle.std.proofs.Common.{ℕ, zero, suc, ◌+◌, ◌≤◌, ◌<◌, ◌≡◌, refl, sym, ◌∙◌, Bool, true, false, ◌&&◌, ◌||◌, arith, eqb, eqb-true}
use borrow.Author.Tests.{eqb-false}
use Rattle.tonekit_core.specs.Loop.{Turn, next, range, range_to}
use Rattle.tonekit_core.proofs.LoopLaws.{to_again, to_ended, range_keeps}
use Rattle.tonekit_core.proofs.Split.{split, both}

-- every test from lo on passes, and only then does the loop say so
pub range_all : (t : ℕ → Bool) (lo hi : ℕ) → lo ≤ hi → ((i : ℕ) → lo ≤ i → i < hi → t i ≡ true) → range (λ i ok. ok && t i) lo hi true ≡ true
range_all t lo hi l h =
    (range_keeps (λ (i : ℕ) (ok : Bool). ok && t i) (λ (j : ℕ) (ok : Bool). (lo ≤ j) × (ok ≡ true)) lo hi true l
    (λ j ok b p. (omega (arith, p.0), rw (p.1, h j p.0 b)))
    (omega arith, refl)).1

pub range_each : (t : ℕ → Bool) (lo hi : ℕ) → lo ≤ hi → range (λ i ok. ok && t i) lo hi true ≡ true → (i : ℕ) → lo ≤ i → i < hi → t i ≡ true
range_each t lo hi l =
    range_keeps (λ (i : ℕ) (ok : Bool). ok && t i) (λ (j : ℕ) (ok : Bool). ok ≡ true → (i : ℕ) → lo ≤ i → i < j → t i ≡ true) lo hi true l
    (λ j ok b p e i a c. let q = both ok (t j) e in
    split (eqb i j)
    (λ z. rw (eqb-true i j z) q.1)
    (λ z. let ne : i ≡ j → ⊥ = eqb-false i j z in p q.0 i a (omega arith)))
    (λ e i a c. absurd (omega arith))

-- one test passes, or none
pub range_any : (t : ℕ → Bool) (n k : ℕ) → k < n → t k ≡ true → range (λ i hit. hit || t i) 0 n false ≡ true
range_any t n k l h =
    range_keeps (λ (i : ℕ) (hit : Bool). hit || t i) (λ (j : ℕ) (hit : Bool). k < j → hit ≡ true) 0 n false (omega arith)
    (λ j hit b p c. split hit (λ e. rw e)
    (λ e. split (eqb k j)
    (λ z. rw (e, ← eqb-true k j z) h)
    (λ z. let ne : k ≡ j → ⊥ = eqb-false k j z in rw (p (omega arith)))))
    (λ c. absurd (omega arith))
    l

pub range_none : (t : ℕ → Bool) (n : ℕ) → ((i : ℕ) → i < n → t i ≡ false) → range (λ i hit. hit || t i) 0 n false ≡ false
range_none t n h =
    range_keeps (λ (i : ℕ) (hit : Bool). hit || t i) (λ (j : ℕ) (hit : Bool). hit ≡ false) 0 n false (omega arith) (λ j hit b e. rw (e, h j b)) refl

-- no turn stops: at turn i the state is x i
module _ {S R : Type 0} (f : ℕ → S → Turn S R) (g : S → R) (x : ℕ → S) where
  through : (k i hi : ℕ) → i + k ≡ hi → ((j : ℕ) → j < hi → f j (x j) ≡ next (x (j + 1))) → range_to f g i hi (x i) ≡ g (x hi)
  through zero i hi e h = let q : i ≡ hi = omega arith in rw q (sym (to_ended f g refl (omega arith)))
  through (suc k) i hi e h = sym (to_again f g refl (omega arith) (h i (omega arith))) ∙ through k (i + 1) hi (omega arith) h

  pub to_through : (n : ℕ) → ((j : ℕ) → j < n → f j (x j) ≡ next (x (j + 1))) → range_to f g 0 n (x 0) ≡ g (x n)
  to_through n h = through n 0 n (omega arith) h
