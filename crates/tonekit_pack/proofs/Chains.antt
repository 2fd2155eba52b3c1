-- Chains of parents. One that ends has no more accents than there are (`ends_within`), so a walk of that many steps decides whether a chain ends at all
-- (`decides`), and the test of all chains whether some chain never does (`all_end`, `some_endless`). Assumes nothing.
use Rattle.std.specs.Prelude.{Option, Some, None}
use Rattle.std.proofs.Common.{ℕ, zero, suc, ◌+◌, ◌-◌, ◌≤◌, ◌<◌, ◌≡◌, ◌↔◌, refl, sym, ◌∙◌, ap, subst, Bool, true, false, true≢false, cond, List, arith, sub-one, eqb, ltb, length, eqb-true, ltb-true, ltb-false}
use borrow.Author.Tests.{eqb-false}
use Rattle.tonekit_core.proofs.Split.{split, both, absurd_bool}
use Rattle.tonekit_bytes.proofs.Searched.{index_found}
use Rattle.spec_pack.specs.Pack.{PackRead, parent_of, or_ends, chain_ends, chains_end}

-- the chain from accent i up its parents has at most n accents
pub data Ends (s : List ℕ) (st : PackRead) : ℕ → ℕ → Type 0 where
  top : {n i : ℕ} → parent_of s st i ≡ None → Ends s st (suc n) i
  up : {n i j : ℕ} → parent_of s st i ≡ Some j → Ends s st n j → Ends s st (suc n) i

-- ---- its accents differ, as each has its own distance from the end
data Exact (s : List ℕ) (st : PackRead) : ℕ → ℕ → Type 0 where
  last : {i : ℕ} → parent_of s st i ≡ None → Exact s st 1 i
  more : {n i j : ℕ} → parent_of s st i ≡ Some j → Exact s st n j → Exact s st (suc n) i

module _ (s : List ℕ) (st : PackRead) where
  exactly : {n i : ℕ} → Ends s st n i → (k : ℕ) × (k ≤ n) × Exact s st k i
  exactly (top p) = (1, omega arith, last p)
  exactly (up p x) = let y = exactly x in (suc y.0, omega (arith, y.1), more p y.2)

  at_most_lem : {k n i : ℕ} → Exact s st k i → k ≤ n → Ends s st n i
  at_most_lem {n = zero} (last p) h = absurd (omega arith)
  at_most_lem {n = suc n} (last p) h = top p
  at_most_lem {n = zero} (more p x) h = absurd (omega arith)
  at_most_lem {n = suc n} (more p x) h = up p (at_most_lem {n = n} x (omega arith))

  unique : {k m i : ℕ} → Exact s st k i → Exact s st m i → k ≡ m
  unique (last p) (last q) = refl
  unique (last p) (more q y) = let z : ◌≡◌ {A = ℕ} 0 1 = cc in absurd (omega arith)
  unique (more p x) (last q) = let z : ◌≡◌ {A = ℕ} 0 1 = cc in absurd (omega arith)
  unique (more {j = j} p x) (more {n = m} {j = l} q y) = let e : j ≡ l = cc in ap suc (unique {m = m} x (subst (λ (i : ℕ). Exact s st m i) (sym e) y))

  -- the accent of the chain from which m + 1 are left
  node : {k i : ℕ} → Exact s st k i → ℕ → ℕ
  node {i = i} (last p) m = i
  node {i = i} (more {n = n} p x) m = cond (ltb m n) (node x m) i

  node_exact : {k i : ℕ} (x : Exact s st k i) (m : ℕ) → m < k → Exact s st (suc m) (node x m)
  unfolding node
  node_exact {i = i} (last p) m h = let e : 0 ≡ m = omega arith in subst (λ (n : ℕ). Exact s st (suc n) i) e (last p)
  node_exact {i = i} (more {n = n} p x) m h =
      split (ltb m n)
      (λ t. rw t (node_exact x m (ltb-true m n t)))
      (λ f. let e : n ≡ m = omega (arith, ltb-false m n f) in rw f (subst (λ (k : ℕ). Exact s st (suc k) i) e (more p x)))

  node_in : {k i : ℕ} (x : Exact s st k i) (m : ℕ) → i < length st.accents → node x m < length st.accents
  unfolding node
  node_in (last p) m h = h
  node_in (more {n = n} {j = j} p x) m h =
      split (ltb m n)
      (λ t. rw t (node_in x m (index_found _ _ _ j p).inside))
      (λ f. rw f h)

-- ---- as many differing numbers below m are at most m
pigeon : (n m : ℕ) (f : ℕ → ℕ) → ((i : ℕ) → i < n → f i < m) → ((i j : ℕ) → i < n → j < n → f i ≡ f j → i ≡ j) → n ≤ m
pigeon zero m f low inj = omega arith
pigeon (suc n) zero f low inj = absurd (omega (arith, low 0 (omega arith)))
pigeon (suc n) (suc m) f low inj = let r = pigeon n m g g_low g_inj in omega arith
  where
    -- the value m goes to the last's
    g : ℕ → ℕ
    g i = cond (eqb (f i) m) (f n) (f i)

    differ : (i : ℕ) → i < n → f i ≡ f n → ⊥
    differ i h e = let q = inj i n (omega arith) (omega arith) e in omega arith

    g_low : (i : ℕ) → i < n → g i < m
    g_low i h =
        split (eqb (f i) m)
        (λ t. let e = eqb-true (f i) m t in rw t (below (f n) m (low n (omega arith)) (λ q. differ i h (e ∙ sym q))))
        (λ t. rw t (below (f i) m (low i (omega arith)) (eqb-false (f i) m t)))
      where
        below : (a b : ℕ) → a < suc b → (a ≡ b → ⊥) → a < b
        below a b h d = omega (arith, h, d)

    g_inj : (i j : ℕ) → i < n → j < n → g i ≡ g j → i ≡ j
    g_inj i j h k e =
        split (eqb (f i) m)
        (λ t. split (eqb (f j) m)
        (λ u. inj i j (omega arith) (omega arith) (eqb-true (f i) m t ∙ sym (eqb-true (f j) m u)))
        (λ u. absurd (differ j k (sym (rw (t, u) at e)))))
        (λ t. split (eqb (f j) m)
        (λ u. absurd (differ i h (rw (t, u) at e)))
        (λ u. inj i j (omega arith) (omega arith) (rw (t, u) at e)))

module _ (s : List ℕ) (st : PackRead) where
  -- a chain that ends has no more accents than there are
  pub ends_within : {n i : ℕ} → i < length st.accents → Ends s st n i → Ends s st (length st.accents) i
  ends_within {i = i} h x =
      let y = exactly s st x in
      let k = y.0 in
      let few = pigeon k (length st.accents) (node s st y.2) (λ m g. node_in s st y.2 m h)
      (λ m l g1 g2 e. let q = unique s st (node_exact s st y.2 m g1) (subst (λ (a : ℕ). Exact s st (suc l) a) (sym e) (node_exact s st y.2 l g2)) in omega arith) in
      at_most_lem s st y.2 few

  -- ---- what the test of one chain says
  ends_from : (n i : ℕ) → ((j : ℕ) → chain_ends s st n j ≡ true → Ends s st n j) → (f : Option ℕ) → parent_of s st i ≡ f → or_ends (chain_ends s st n) f ≡ true → Ends s st (suc n) i
  ends_from n i ih None e h = top e
  ends_from n i ih (Some j) e h = up e (ih j h)

  ends_is : (n i : ℕ) → chain_ends s st n i ≡ true → Ends s st n i
  unfolding chain_ends
  ends_is zero i h = absurd_bool h
  ends_is (suc n) i h = ends_from n i (ends_is n) (parent_of s st i) refl h

  is_ends : {n i : ℕ} → Ends s st n i → chain_ends s st n i ≡ true
  unfolding chain_ends
  is_ends (top e) = rw e
  is_ends (up e x) = rw e (is_ends x)

  -- a walk of as many steps as there are accents decides whether a chain ends at all
  pub decides : (i : ℕ) → i < length st.accents → (chain_ends s st (length st.accents) i ≡ true) ↔ ((n : ℕ) × Ends s st n i)
  decides i h = (λ e. (length st.accents, ends_is (length st.accents) i e), λ x. is_ends (ends_within h x.1))

  endless : (i : ℕ) → i < length st.accents → chain_ends s st (length st.accents) i ≡ false → (n : ℕ) → Ends s st n i → ⊥
  endless i h e n x = true≢false (sym ((decides i h).1 (n, x)) ∙ e)

  -- ---- and that of all chains
  all_from : (k i : ℕ) → chains_end s st k i ≡ true → (j : ℕ) → i ≤ j → j < k + i → chain_ends s st (length st.accents) j ≡ true
  unfolding chains_end
  all_from zero i e j l h = absurd (omega arith)
  all_from (suc k) i e j l h =
      let b = both (chain_ends s st (length st.accents) i) (chains_end s st k (i + 1)) e in
      split (eqb i j)
      (λ t. ap (chain_ends s st (length st.accents)) (sym (eqb-true i j t)) ∙ b.0)
      (λ t. all_from k (i + 1) b.1 j (omega (arith, eqb-false i j t)) (omega arith))

  -- "Every chain must reach an accent with no parent"
  pub all_end : chains_end s st (length st.accents) 0 ≡ true → (i : ℕ) → i < length st.accents → (n : ℕ) × Ends s st n i
  all_end e i h = (decides i h).0 (all_from (length st.accents) 0 e i (omega arith) (omega arith))

  some_from : (k i : ℕ) → chains_end s st k i ≡ false → (j : ℕ) × (j < k + i) × (chain_ends s st (length st.accents) j ≡ false)
  unfolding chains_end
  some_from zero i e = absurd_bool (sym e)
  some_from (suc k) i e =
      split (chain_ends s st (length st.accents) i)
      (λ t. let x = some_from k (i + 1) (rw t at e) in (x.0, omega (arith, x.1), x.2))
      (λ t. (i, omega arith, t))

  -- "20 when some chain never ends"
  pub some_endless : chains_end s st (length st.accents) 0 ≡ false → (i : ℕ) × (i < length st.accents) × ((n : ℕ) → Ends s st n i → ⊥)
  some_endless e =
      let x = some_from (length st.accents) 0 e in
      let l : x.0 < length st.accents = omega (arith, x.1) in
      (x.0, l, endless x.0 l x.2)

-- ---- the code's loops: from each turn on, what is left gives what the whole gives
module _ (s : List ℕ) (st : PackRead) where
  pub walk_top : (n i : ℕ) {z : Bool} → chain_ends s st n i ≡ z → 0 < n → parent_of s st i ≡ None → true ≡ z
  unfolding chain_ends
  walk_top zero i r h e = absurd (omega arith)
  walk_top (suc n) i r h e = rw e at r

  pub walk_up : (n i j : ℕ) {z : Bool} → chain_ends s st n i ≡ z → 0 < n → parent_of s st i ≡ Some j → chain_ends s st (n - 1) j ≡ z
  unfolding chain_ends
  walk_up zero i j r h e = absurd (omega arith)
  walk_up (suc n) i j r h e = rw sub-one (rw e at r)

  pub walk_out : (n i : ℕ) {z : Bool} → chain_ends s st n i ≡ z → n ≡ 0 → false ≡ z
  unfolding chain_ends
  walk_out zero i r h = r
  walk_out (suc n) i r h = absurd (omega arith)

  pub all_on : (k i : ℕ) {z : Bool} → chains_end s st k i ≡ z → 0 < k → chain_ends s st (length st.accents) i ≡ true → chains_end s st (k - 1) (i + 1) ≡ z
  unfolding chains_end
  all_on zero i r h e = absurd (omega arith)
  all_on (suc k) i r h e = rw sub-one (rw e at r)

  pub all_stop : (k i : ℕ) {z : Bool} → chains_end s st k i ≡ z → 0 < k → chain_ends s st (length st.accents) i ≡ false → false ≡ z
  unfolding chains_end
  all_stop zero i r h e = absurd (omega arith)
  all_stop (suc k) i r h e = rw e at r

  pub all_none : (k i : ℕ) {z : Bool} → chains_end s st k i ≡ z → k ≡ 0 → true ≡ z
  unfolding chains_end
  all_none zero i r h = r
  all_none (suc k) i r h = absurd (omega arith)
