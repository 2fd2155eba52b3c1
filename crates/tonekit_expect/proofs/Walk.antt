-- The walk up the parents: one step of it, and what it ends with.
use Rattle.std.specs.Prelude.{Option}
use Rattle.std.proofs.Common.{ℕ, zero, suc, ◌+◌, ◌-◌, ◌≤◌, ◌<◌, ◌≡◌, refl, sym, ◌∙◌, ap, subst, ◌&&◌, List, arith, length, get_or}
use Rattle.tonekit_core.specs.Loop.{Turn, next, stop, turns, range, loop_on, loop_to}
use Rattle.spec_arithmetic.specs.Places.{index_of}
use Rattle.tonekit_bytes.proofs.Searched.{index_found}
use Rattle.spec_pack.specs.Pack.{PackRead, parent_of}
use Rattle.tonekit_core.proofs.Split.{split}
use Rattle.std.specs.Prelude.{Some, None}
use Rattle.spec_lookup.specs.declared.Winner.{Winner}
use Rattle.spec_lookup.specs.declared.Context.{Context}
use Rattle.spec_lookup.specs.Lookup.{matches, more_than, better_of, to_rule, best_rule, or_parent, to_parent, climb_turn, find_rule, listed, look_at, look_up}
use Rattle.tonekit_expect.specs.Pieces.{best_turn, won}

-- ---- a step
module _ (s : List ℕ) (st : PackRead) (c : Context) (i : ℕ) where
  pub climb_hit : (r : ℕ) → best_rule s st c i ≡ Some r → climb_turn s st c i ≡ stop (Some (won i r))
  unfolding climb_turn
  climb_hit r e = ap (or_parent s st i) e

  pub climb_top : best_rule s st c i ≡ None → parent_of s st i ≡ None → climb_turn s st c i ≡ stop None
  unfolding climb_turn
  climb_top e p = ap (or_parent s st i) e ∙ ap to_parent p

  pub climb_on : (j : ℕ) → best_rule s st c i ≡ None → parent_of s st i ≡ Some j → climb_turn s st c i ≡ next j
  unfolding climb_turn
  climb_on j e p = ap (or_parent s st i) e ∙ ap to_parent p

-- a walk with no step left
pub loop_out : {S R : Type 0} (f : S → Turn S R) (d : R) (n : ℕ) (s : S) (z : R) → loop_to f d n s ≡ z → n ≡ 0 → d ≡ z
unfolding loop_to loop_on
loop_out f d zero s z r h = r
loop_out f d (suc n) s z r h = absurd (omega arith)

-- ---- what a walk ends with: a rule of one of the accents, of which P holds if it holds of every accent's own rules
module _ (s : List ℕ) (st : PackRead) (c : Context) (P : ℕ → ℕ → Type 0) (each : (i k : ℕ) → get_or st.firsts i 0 ≤ k → k < to_rule st i → P i (get_or st.rules k 0)) where
  Best : ℕ → Option ℕ → Type 0
  Best i f = (r : ℕ) → f ≡ Some r → P i r

  better_is : (i k : ℕ) (f : Option ℕ) → get_or st.firsts i 0 ≤ k → k < to_rule st i → Best i f → Best i (best_turn s st.rules c k f)
  unfolding Best better_of
  better_is i k f l h b =
      split (matches s c (get_or st.rules k 0) && more_than s f (get_or st.rules k 0))
      (λ t r e. let q : get_or st.rules k 0 ≡ r = let e' = rw t at e in cc in subst (P i) q (each i k l h))
      (λ t r e. b r (rw t at e))

  best_turns : (i k j : ℕ) (f : Option ℕ) → get_or st.firsts i 0 ≤ j → (0 < k → k + j ≤ to_rule st i) → Best i f → Best i (turns (best_turn s st.rules c) k j f)
  unfolding turns
  best_turns i zero j f l h b = b
  best_turns i (suc k) j f l h b =
      let g = h (omega arith) in
      best_turns i k (j + 1) (best_turn s st.rules c j f) (omega arith) (λ p. omega arith) (better_is i j f l (omega arith) b)

  best_is : (i r : ℕ) → best_rule s st c i ≡ Some r → P i r
  unfolding best_rule range Best
  best_is i r e = best_turns i (to_rule st i - get_or st.firsts i 0) (get_or st.firsts i 0) None (omega arith) (λ p. omega arith) (λ r q. let z : ◌≡◌ {A = ℕ} 0 1 = cc in absurd (omega arith)) r e

  -- a turn goes on to an accent, or stops with such a rule
  record Right (t : Turn ℕ (Option Winner)) : Type 0 where
    onward : (j : ℕ) → t ≡ next j → j < length st.accents
    ending : (a r : ℕ) → t ≡ stop (Some (won a r)) → (a < length st.accents) × P a r

  parent_right : (i : ℕ) (f : Option ℕ) → parent_of s st i ≡ f → Right (to_parent f)
  parent_right i (Some j) e = record {
    onward = λ k q. let h : j ≡ k = cc in subst (λ (n : ℕ). n < length st.accents) h (index_found _ _ _ j e).inside;
    ending = λ a r q. let z : ◌≡◌ {A = ℕ} 0 1 = cc in absurd (omega arith);
  }
  parent_right i None e = record {
    onward = λ k q. let z : ◌≡◌ {A = ℕ} 0 1 = cc in absurd (omega arith);
    ending = λ a r q. let z : ◌≡◌ {A = ℕ} 0 1 = cc in absurd (omega arith);
  }

  turn_right : (i : ℕ) → i < length st.accents → (f : Option ℕ) → best_rule s st c i ≡ f → Right (or_parent s st i f)
  turn_right i h (Some r) e = record {
    onward = λ k q. let z : ◌≡◌ {A = ℕ} 0 1 = cc in absurd (omega arith);
    ending = λ a b q.
        let same : won i r ≡ won a b = cc in
        let g : i ≡ a = ap (λ (w : Winner). w.accent) same in
        let k : r ≡ b = ap (λ (w : Winner). w.rule) same in
        (subst (λ (n : ℕ). n < length st.accents) g h, subst (λ (n : ℕ). P n b) g (subst (P i) k (best_is i r e)));
  }
  turn_right i h None e = parent_right i (parent_of s st i) refl

  walk_right : (n : ℕ) (t : Turn ℕ (Option Winner)) (a r : ℕ) → Right t → loop_on (climb_turn s st c) None n t ≡ Some (won a r) → (a < length st.accents) × P a r
  unfolding loop_on climb_turn
  walk_right zero (next j) a r R e = let z : ◌≡◌ {A = ℕ} 0 1 = cc in absurd (omega arith)
  walk_right zero (stop w) a r R e = R.ending a r (ap stop e)
  walk_right (suc n) (next j) a r R e = walk_right n (climb_turn s st c j) a r (turn_right j (R.onward j refl) (best_rule s st c j) refl) e
  walk_right (suc n) (stop w) a r R e = R.ending a r (ap stop e)

  found_is : (n i a r : ℕ) → i < length st.accents → loop_to (climb_turn s st c) None n i ≡ Some (won a r) → (a < length st.accents) × P a r
  unfolding loop_to
  found_is n i a r h e =
      walk_right n (next i) a r
      (record { onward = λ j q. let g : i ≡ j = cc in subst (λ (n : ℕ). n < length st.accents) g h; ending = λ a r q. let z : ◌≡◌ {A = ℕ} 0 1 = cc in absurd (omega arith) }) e

  pub winner_of : (i a r : ℕ) → i < length st.accents → find_rule s st c i ≡ Some (won a r) → (a < length st.accents) × P a r
  unfolding find_rule
  winner_of i a r h e = found_is (length st.accents) i a r h e

-- the same of what holds of every rule, whichever accent's
pub winner_is : (s : List ℕ) (st : PackRead) (c : Context) (P : ℕ → Type 0) → ((i k : ℕ) → k < to_rule st i → P (get_or st.rules k 0)) → (i a r : ℕ) → i < length st.accents → find_rule s st c i ≡ Some (won a r) → (a < length st.accents) × P r
winner_is s st c P each = winner_of s st c (λ a. P) (λ i k l. each i k)

-- what a lookup gives whose accent and tone are held: the listing of the tone's record and of the rule that was found
pub look_found : (s : List ℕ) (st : PackRead) (c : Context) (i t o : ℕ) (w : Option Winner) → index_of s st.accents c.accent ≡ Some i → index_of s st.tones c.tone ≡ Some t → o ≡ get_or st.tones t 0 → w ≡ find_rule s st c i → listed s st c o w ≡ look_up s st c
unfolding look_up
look_found s st c i t o w a b p q = ap (λ n. listed s st c n w) p ∙ ap (listed s st c (get_or st.tones t 0)) q ∙ sym (ap (λ f. look_at s st c f (index_of s st.tones c.tone)) a ∙ ap (look_at s st c (Some i)) b)
