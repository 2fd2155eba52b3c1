-- Laws on the loops of specs/Loop: by which a proof follows one (`again`, `ended`, `to_again`, ..), what every turn of a `range` keeps
-- holds at its end, loops whose turns give the same give the same, and a `while` with a limit on its turns ends by its own test (`while_ends`), with
-- what so many turns keep (`while_keeps`). Assumes nothing.
use Rattle.std.proofs.Common.{ℕ, zero, suc, ◌+◌, ◌-◌, ◌≤◌, ◌<◌, ◌≡◌, refl, sym, ◌∙◌, ap, subst, Bool, true, false, List, length, drop, get_or, drop_of_length-le, drop-cons, arith, add-one, sub-one}
use Rattle.tonekit_core.specs.Loop.{Turn, next, stop, range, turns, fold, range_to, turns_to, while, while_if, loop_on, loop_to}

module _ {S : Type 0} (f : ℕ → S → S) where
  pub range_done : (i hi : ℕ) (s : S) → hi ≤ i → range f i hi s ≡ s
  unfolding turns range
  range_done i hi s h = let e : hi - i ≡ 0 = omega arith in rw e

  pub range_step : (i hi : ℕ) (s : S) → i < hi → range f i hi s ≡ range f (i + 1) hi (f i s)
  unfolding turns range
  range_step i hi s h = let e : hi - i ≡ suc (hi - (i + 1)) = omega arith in rw e

  -- a turn ends: z is what the whole loop gives
  pub again : {i hi : ℕ} {s t z : S} → range f i hi s ≡ z → i < hi → f i s ≡ t → range f (i + 1) hi t ≡ z
  again {i} {hi} {s} {t} {z} r h e = ap (range f (i + 1) hi) (sym e) ∙ (sym (range_step i hi s h) ∙ r)

  -- the loop ends
  pub ended : {i hi : ℕ} {s z : S} → range f i hi s ≡ z → hi ≤ i → s ≡ z
  ended {i} {hi} {s} {z} r h = sym (range_done i hi s h) ∙ r

  last_turn : (k i : ℕ) (s : S) → turns f (suc k) i s ≡ f (i + k) (turns f k i s)
  unfolding turns
  last_turn zero i s = let e : i + 0 ≡ i = omega arith in rw e
  last_turn (suc k) i s = last_turn k (i + 1) (f i s) ∙ (let e : i + 1 + k ≡ i + suc k = omega arith in rw e)

  -- one turn more at the end
  pub range_last : (n : ℕ) (s : S) → range f 0 (n + 1) s ≡ f n (range f 0 n s)
  unfolding range
  range_last n s =
      let a : n + 1 - 0 ≡ suc n = omega arith in
      let b : n - 0 ≡ n = omega arith in
      let c : 0 + n ≡ n = omega arith in
      rw (a, b) (last_turn n 0 s ∙ rw c)

module _ {S A : Type 0} (f : S → A → S) where
  pub fold_step : (s : S) (l : List A) (i : ℕ) (d : A) → i < length l → fold f s (drop i l) ≡ fold f (f s (get_or l i d)) (drop (i + 1) l)
  unfolding fold
  fold_step s l i d h = rw (drop-cons l i d h, add-one)

  pub fold_done : (s : S) (l : List A) (i : ℕ) → length l ≤ i → fold f s (drop i l) ≡ s
  unfolding fold
  fold_done s l i h = rw (drop_of_length-le l h)

module _ {S : Type 0} (test : S → Bool) (f : S → S) where
  turn : (n : ℕ) (s t z : S) → while test f n s ≡ z → 0 < n → test s ≡ true → f s ≡ t → while test f (n - 1) t ≡ z
  unfolding while_if while
  turn zero s t z r h b e = absurd (omega arith)
  turn (suc n) s t z r h b e = rw (sub-one, ← e) (rw b at r)

  halt : (n : ℕ) (s z : S) → while test f n s ≡ z → test s ≡ false → s ≡ z
  unfolding while_if while
  halt zero s z r b = r
  halt (suc n) s z r b = rw b at r

  out : (n : ℕ) (s z : S) → while test f n s ≡ z → n ≤ 0 → s ≡ z
  unfolding while_if while
  out zero s z r h = r
  out (suc n) s z r h = absurd (omega arith)

  pub while_again : {n : ℕ} {s t z : S} → while test f n s ≡ z → 0 < n → test s ≡ true → f s ≡ t → while test f (n - 1) t ≡ z
  while_again {n} {s} {t} {z} = turn n s t z

  pub while_ended : (n : ℕ) {s z : S} → while test f n s ≡ z → test s ≡ false → s ≡ z
  while_ended n {s} {z} = halt n s z

  pub while_out : {n : ℕ} {s z : S} → while test f n s ≡ z → n ≤ 0 → s ≡ z
  while_out {n} {s} {z} = out n s z

module _ {S R : Type 0} (f : ℕ → S → Turn S R) (g : S → R) where
  stopped : (k i : ℕ) (r : R) → turns_to f g k i (stop r) ≡ r
  unfolding turns_to
  stopped zero i r = refl
  stopped (suc k) i r = refl

  pub to_ended : {i hi : ℕ} {s : S} {z : R} → range_to f g i hi s ≡ z → hi ≤ i → g s ≡ z
  unfolding turns_to range_to
  to_ended {i} {hi} {s} {z} r h = let e : hi - i ≡ 0 = omega arith in rw e at r

  to_step : (i hi : ℕ) (s : S) → i < hi → range_to f g i hi s ≡ turns_to f g (hi - (i + 1)) (i + 1) (f i s)
  unfolding turns_to range_to
  to_step i hi s h = let k : hi - i ≡ suc (hi - (i + 1)) = omega arith in rw k

  pub to_again : {i hi : ℕ} {s t : S} {z : R} → range_to f g i hi s ≡ z → i < hi → f i s ≡ next t → range_to f g (i + 1) hi t ≡ z
  unfolding range_to
  to_again {i} {hi} {s} {t} {z} r h e = ap (turns_to f g (hi - (i + 1)) (i + 1)) (sym e) ∙ (sym (to_step i hi s h) ∙ r)

  pub to_stop : {i hi : ℕ} {s : S} {a z : R} → range_to f g i hi s ≡ z → i < hi → f i s ≡ stop a → a ≡ z
  unfolding range_to
  to_stop {i} {hi} {s} {a} {z} r h e =
      sym (stopped (hi - (i + 1)) (i + 1) a) ∙ (ap (turns_to f g (hi - (i + 1)) (i + 1)) (sym e) ∙ (sym (to_step i hi s h) ∙ r))

module _ {S R : Type 0} (f : S → Turn S R) (d : R) where
  loop_step : (n : ℕ) (s : S) → 0 < n → loop_to f d n s ≡ loop_on f d (n - 1) (f s)
  unfolding loop_on loop_to
  loop_step zero s h = absurd (omega arith)
  loop_step (suc n) s h = rw sub-one

  pub loop_again : {n : ℕ} {s t : S} {z : R} → loop_to f d n s ≡ z → 0 < n → f s ≡ next t → loop_to f d (n - 1) t ≡ z
  unfolding loop_to
  loop_again {n} {s} {t} {z} r h e = ap (loop_on f d (n - 1)) (sym e) ∙ (sym (loop_step n s h) ∙ r)

module _ {S : Type 0} (f : ℕ → S → S) (P : ℕ → S → Type 0) where
  keeps : (k i hi : ℕ) (s : S) → i + k ≡ hi → ((j : ℕ) (t : S) → j < hi → P j t → P (j + 1) (f j t)) → P i s → P hi (turns f k i s)
  unfolding turns
  keeps zero i hi s e step p = let q : i ≡ hi = omega arith in subst (λ (n : ℕ). P n s) q p
  keeps (suc k) i hi s e step p = keeps k (i + 1) hi (f i s) (omega arith) step (step i s (omega arith) p)

  -- P i s holds at the start of each turn i
  pub range_keeps : (lo hi : ℕ) (s : S) → lo ≤ hi → ((j : ℕ) (t : S) → j < hi → P j t → P (j + 1) (f j t)) → P lo s → P hi (range f lo hi s)
  unfolding range
  range_keeps lo hi s h step p = keeps (hi - lo) lo hi s (omega arith) step p

-- two loops whose turns give the same
module _ {S : Type 0} (f g : ℕ → S → S) where
  turns_same : (k i hi : ℕ) (s : S) → i + k ≤ hi → ((j : ℕ) (t : S) → j < hi → f j t ≡ g j t) → turns f k i s ≡ turns g k i s
  unfolding turns
  turns_same zero i hi s e h = refl
  turns_same (suc k) i hi s e h = rw (h i s (omega arith)) (turns_same k (i + 1) hi (g i s) (omega arith) h)

  pub range_same : (lo hi : ℕ) (s : S) → lo ≤ hi → ((j : ℕ) (t : S) → j < hi → f j t ≡ g j t) → range f lo hi s ≡ range g lo hi s
  unfolding range
  range_same lo hi s e h = turns_same (hi - lo) lo hi s (omega arith) h

-- the same of loops that may stop
module _ {S R : Type 0} (f g : ℕ → S → Turn S R) (end : S → R) where
  stops_same : (k i : ℕ) (t : Turn S R) → ((j : ℕ) (s : S) → j < k + i → f j s ≡ g j s) → turns_to f end k i t ≡ turns_to g end k i t
  unfolding turns_to
  stops_same zero i (next s) h = refl
  stops_same zero i (stop r) h = refl
  stops_same (suc k) i (next s) h = ap (turns_to f end k (i + 1)) (h i s (omega arith)) ∙ stops_same k (i + 1) (g i s) (λ j s l. h j s (omega arith))
  stops_same (suc k) i (stop r) h = refl

  pub to_same : (n : ℕ) (s : S) → ((j : ℕ) (s : S) → j < n → f j s ≡ g j s) → range_to f end 0 n s ≡ range_to g end 0 n s
  unfolding range_to
  to_same n s h = stops_same (n - 0) 0 (next s) (λ j s l. h j s (omega arith))

-- Left k s says that at most k turns are left at the state s
module _ {S : Type 0} (test : S → Bool) (f : S → S) (Left : ℕ → S → Type 0) (none : (s : S) → Left zero s → test s ≡ false)
    (one_less : (k : ℕ) (s : S) → Left (suc k) s → test s ≡ true → Left k (f s)) where
  on : (n : ℕ) (b : Bool) (s : S) → test s ≡ b → Left n s → test (while_if test f n b s) ≡ false
  unfolding while_if
  on zero b s e h = none s h
  on (suc n) false s e h = e
  on (suc n) true s e h = on n (test (f s)) (f s) refl (one_less n s h e)

  pub while_ends : (n : ℕ) (s : S) → Left n s → test (while test f n s) ≡ false
  unfolding while
  while_ends n s h = on n (test s) s refl h

-- P k s holds after k turns, of which there are at most hi
module _ {S : Type 0} (test : S → Bool) (f : S → S) (P : ℕ → S → Type 0) (hi : ℕ) (step : (k : ℕ) (s : S) → k < hi → P k s → P (k + 1) (f s)) where
  -- after at most hi turns
  abbrev pub Turned : S → Type 0
  Turned s = (k : ℕ) × (k ≤ hi) × P k s

  keeps_on : (n k : ℕ) (b : Bool) (s : S) → k + n ≤ hi → P k s → Turned (while_if test f n b s)
  unfolding while_if
  keeps_on zero k b s h p = (k, omega arith, p)
  keeps_on (suc n) k false s h p = (k, omega arith, p)
  keeps_on (suc n) k true s h p = keeps_on n (k + 1) (test (f s)) (f s) (omega arith) (step k s (omega arith) p)

  pub while_keeps : (s : S) → P 0 s → Turned (while test f hi s)
  unfolding while
  while_keeps s p = keeps_on hi 0 (test s) s (omega arith) p
