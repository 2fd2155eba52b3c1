-- The search by number: a record that it finds has the number, and what a list says of the first record with a number is what it finds. Assumes nothing.
use Rattle.std.proofs.Common.{ℕ, zero, suc, ◌+◌, ◌-◌, ◌≤◌, ◌<◌, ◌≡◌, refl, ◌∙◌, ap, subst, cond, List, [], ◌∷◌, arith, add-one, eqb, eqb-true, length, get_or, drop, drop_of_length-le, drop-cons}
use Rattle.std.specs.Prelude.{Option, Some, None}
use Rattle.tonekit_core.specs.Loop.{Turn, next, stop, turns_to, range_to}
use Rattle.tonekit_core.proofs.Split.{split}
use Rattle.spec_arithmetic.specs.Places.{number_at, index_of}
use Rattle.tonekit_bytes.specs.Places.{index_turn}

-- what is said of the record that a search found: hit of its offset, or miss
abbrev pub pick : {R : Type 0} → (ℕ → R) → R → List ℕ → Option ℕ → R
pick hit miss os (Some i) = hit (get_or os i 0)
pick hit miss os None = miss

module _ {R : Type 0} (s : List ℕ) (n : ℕ) (hit : ℕ → R) (miss : R) (says : List ℕ → R) (ends : says [] ≡ miss) (goes : (o : ℕ) (os : List ℕ) → says (o ∷ os) ≡ cond (eqb (number_at s o) n) (hit o) (says os)) where
  abbrev on : List ℕ → ℕ → ℕ → Turn ℕ (Option ℕ) → Option ℕ
  on os = turns_to (index_turn s os n) (λ u. None)

  stopped : (os : List ℕ) (k j : ℕ) (f : Option ℕ) → on os k j (stop f) ≡ f
  unfolding turns_to
  stopped os zero j f = refl
  stopped os (suc k) j f = refl

  from : (os : List ℕ) (k j : ℕ) → k + j ≡ length os → says (drop j os) ≡ pick hit miss os (on os k j (next 0))
  unfolding turns_to
  from os zero j h = let e : drop j os ≡ [] = drop_of_length-le os {i = j} (omega arith) in ap says e ∙ ends
  from os (suc k) j h =
      ap says (drop-cons os j 0 (omega arith))
      ∙ (goes (get_or os j 0) (drop (suc j) os)
      ∙ split (eqb (number_at s (get_or os j 0)) n)
      (λ t. rw (t, stopped os k (j + 1) (Some j)))
      (λ f. rw (f, ← add-one j) (from os k (j + 1) (omega arith))))

  pub searched : (os : List ℕ) → says os ≡ pick hit miss os (index_of s os n)
  unfolding index_of range_to
  searched os = from os (length os - 0) 0 (omega arith)

module _ (s os : List ℕ) (n : ℕ) where
  -- record i has the number
  pub record Numbered (i : ℕ) : Type 0 where
    pub inside : i < length os
    pub number : number_at s (get_or os i 0) ≡ n

  numbered : (j u r : ℕ) → j < length os → index_turn s os n j u ≡ stop (Some r) → Numbered r
  numbered j u r h e =
      split (eqb (number_at s (get_or os j 0)) n)
      (λ t. let q : j ≡ r = let e' = rw t at e in cc in subst Numbered q (record { inside = h; number = eqb-true (number_at s (get_or os j 0)) n t }))
      (λ f. let z : ◌≡◌ {A = ℕ} 0 1 = let e' = rw f at e in cc in absurd (omega arith))

  walked : (k j i : ℕ) (t : Turn ℕ (Option ℕ)) → k + j ≤ length os → ((r : ℕ) → t ≡ stop (Some r) → Numbered r) → turns_to (index_turn s os n) (λ u. None) k j t ≡ Some i → Numbered i
  unfolding turns_to
  walked zero j i (next u) h p e = let z : ◌≡◌ {A = ℕ} 0 1 = cc in absurd (omega arith)
  walked zero j i (stop f) h p e = p i (ap stop e)
  walked (suc k) j i (next u) h p e = walked k (j + 1) i (index_turn s os n j u) (omega arith) (λ r q. numbered j u r (omega arith) q) e
  walked (suc k) j i (stop f) h p e = p i (ap stop e)

  -- what is found has the number
  pub index_found : (i : ℕ) → index_of s os n ≡ Some i → Numbered i
  unfolding index_of range_to
  index_found i e = walked (length os - 0) 0 i (next 0) (omega arith) (λ r q. let z : ◌≡◌ {A = ℕ} 0 1 = cc in absurd (omega arith)) e
