-- Loops of tests: what a loop that found no fault has tested, what a loop that found one has met. Assumes nothing.
use Rattle.std.proofs.Common.{ℕ, zero, suc, ◌+◌, ◌≤◌, ◌<◌, ◌≡◌, sym, ◌∙◌, Bool, true, false, cond, ◌||◌, arith, eqb, eqb-true, Option, Some, None}
use borrow.Author.Tests.{eqb-false}
use Rattle.tonekit_core.specs.Loop.{Turn, next, stop, range, range_to}
use Rattle.tonekit_core.proofs.LoopLaws.{range_done, range_last, to_again, to_stop, range_keeps}
use Rattle.tonekit_core.proofs.Split.{split, absurd_bool, either}
use Rattle.tonekit_sheet_laws.proofs.Loops.{range_any}

-- a test at each turn, of a state that each turn changes; the first that fails is found
module _ {S : Type 0} (t : ℕ → S → Bool) (g : ℕ → S → S) (o : ℕ → ℕ) (n : ℕ) (m : S) where
  abbrev turn : ℕ → S → Turn S (Option ℕ)
  turn i u = cond (t i u) (next (g i u)) (stop (Some (o i)))

  went : (k i : ℕ) → i + k ≡ n → range_to turn (λ u. None) i n (range g 0 i m) ≡ None
      → (j : ℕ) → i ≤ j → j < n → t j (range g 0 j m) ≡ true
  went zero i e h j a b = absurd (omega arith)
  went (suc k) i e h j a b =
      split (t i (range g 0 i m))
      (λ w. split (eqb i j)
      (λ q. rw (← eqb-true i j q) w)
      (λ q. let ne : i ≡ j → ⊥ = eqb-false i j q in
      let r = to_again turn (λ u. None) h (omega arith) (rw w) in
      went k (i + 1) (omega arith) (rw (range_last g i m) r) j (omega arith) b))
      (λ w. let e : Some (o i) ≡ None = to_stop turn (λ u. None) h (omega arith) (rw w) in absurd cc)

  -- none failed
  pub none_failed : range_to turn (λ u. None) 0 n m ≡ None → (j : ℕ) → j < n → t j (range g 0 j m) ≡ true
  none_failed h j b = went n 0 (omega arith) (rw (range_done g 0 0 m (omega arith)) h) j (omega arith) b

-- the turn at which a test passed, and a test that none passed
pub range_some : (t : ℕ → Bool) (n : ℕ) → range (λ i hit. hit || t i) 0 n false ≡ true → (i : ℕ) × (i < n) × (t i ≡ true)
range_some t n =
    range_keeps (λ (i : ℕ) (hit : Bool). hit || t i) (λ (j : ℕ) (hit : Bool). hit ≡ true → (i : ℕ) × (i < j) × (t i ≡ true)) 0 n false (omega arith)
    (λ j hit b p e. either hit (t j) e (λ q. let x = p q in (x.0, omega (arith, x.1), x.2)) (λ q. (j, omega arith, q)))
    (λ e. absurd_bool e)

pub range_no : (t : ℕ → Bool) (n : ℕ) → range (λ i hit. hit || t i) 0 n false ≡ false → (i : ℕ) → i < n → t i ≡ false
range_no t n h i b = split (t i) (λ e. absurd_bool (sym h ∙ range_any t n i b e)) (λ e. e)
