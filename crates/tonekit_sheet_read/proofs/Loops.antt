-- Laws of tonekit_core's loops: a state that no turn changes, and a loop in two parts. Assumes nothing.
use Rattle.std.proofs.Common.{ℕ, zero, suc, ◌+◌, ◌-◌, ◌≤◌, ◌<◌, ◌≡◌, refl, sym, ◌∙◌, Bool, true, false, arith}
use Rattle.tonekit_core.specs.Loop.{turns, range}
use Rattle.tonekit_core.proofs.LoopLaws.{again}
use Rattle.tonekit_core.proofs.Split.{split}

module _ {S : Type 0} (f : ℕ → S → S) where
  turns_stay : (k i : ℕ) (w : S) → ((j : ℕ) → f j w ≡ w) → turns f k i w ≡ w
  unfolding turns
  turns_stay zero i w h = refl
  turns_stay (suc k) i w h = rw (h i) (turns_stay k (i + 1) w h)

  range_stays : (lo hi : ℕ) (w : S) → ((j : ℕ) → f j w ≡ w) → range f lo hi w ≡ w
  unfolding range
  range_stays lo hi w h = turns_stay (hi - lo) lo w h

  -- a turn gives what no turn changes: so does the loop
  pub settled : {i hi : ℕ} {s w z : S} → range f i hi s ≡ z → i < hi → f i s ≡ w → ((j : ℕ) → f j w ≡ w) → w ≡ z
  settled {i} {hi} {s} {w} {z} r l e h = sym (range_stays (i + 1) hi w h) ∙ again f r l e

  turns_parts : (k m n i j : ℕ) (s : S) → n ≡ k + m → j ≡ i + k → turns f n i s ≡ turns f m j (turns f k i s)
  unfolding turns
  turns_parts zero m n i j s e q =
      let a : n ≡ m = omega arith in
      let b : j ≡ i = omega arith in
      rw (a, b)
  turns_parts (suc k) m n i j s e q =
      let a : n ≡ suc (k + m) = omega arith in
      rw a (turns_parts k m (k + m) (i + 1) j (f i s) refl (omega arith))

  -- a loop in two parts
  pub range_parts : (lo mid hi : ℕ) (s : S) → lo ≤ mid → mid ≤ hi → range f lo hi s ≡ range f mid hi (range f lo mid s)
  unfolding range
  range_parts lo mid hi s a b = turns_parts (mid - lo) (hi - mid) (hi - lo) lo mid s (omega arith) (omega arith)

-- what is found from a place on is found from an earlier one on
pub found_before : (f : ℕ → Bool → Bool) (lo mid hi : ℕ) → lo ≤ mid → mid ≤ hi → ((j : ℕ) → f j true ≡ true) → range f mid hi false ≡ true → range f lo hi false ≡ true
found_before f lo mid hi a b h e =
    split (range f lo mid false)
    (λ t. rw (range_parts f lo mid hi false a b, t) (range_stays f mid hi true h))
    (λ t. rw (range_parts f lo mid hi false a b, t) e)
