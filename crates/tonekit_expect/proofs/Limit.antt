-- The limit on the walk's steps never ends it: a chain of parents that ends at all has no more accents than there are (`limit_idle`), and in a pack that
-- loads every chain ends (`loads_idle`).
use Rattle.std.specs.Prelude.{Option, Some, None}
use Rattle.std.proofs.Common.{ℕ, ◌-◌, ◌≤◌, ◌<◌, ◌≡◌, refl, sym, ◌∙◌, ap, List, arith, sub-one, length}
use Rattle.tonekit_core.specs.Loop.{loop_to, loop_stop}
use Rattle.tonekit_core.proofs.LoopLaws.{loop_again}
use Rattle.spec_arithmetic.specs.Files.{loaded}
use Rattle.spec_pack.specs.Pack.{PackRead, read_pack}
use Rattle.spec_lookup.specs.declared.Winner.{Winner}
use Rattle.spec_lookup.specs.declared.Context.{Context}
use Rattle.spec_lookup.specs.Lookup.{best_rule, climb_turn, find_rule}
use Rattle.tonekit_pack.proofs.Chains.{Ends, top, up, ends_within}
use Rattle.tonekit_pack.proofs.Loads.{loads, chain_ended}
use Rattle.tonekit_expect.proofs.Walk.{climb_hit, climb_top, climb_on}

-- a limit past the chain's end changes nothing
module _ (s : List ℕ) (st : PackRead) (c : Context) where
  abbrev walk : ℕ → ℕ → Option Winner
  walk n i = loop_to (climb_turn s st c) None n i

  same : {n i : ℕ} → Ends s st n i → (m : ℕ) → n ≤ m → (f : Option ℕ) → best_rule s st c i ≡ f → walk m i ≡ walk n i
  same {i = i} (top p) m h (Some r) e = sym (loop_stop _ _ {n = m} refl (omega arith) (climb_hit s st c i r e)) ∙ loop_stop _ _ refl (omega arith) (climb_hit s st c i r e)
  same {i = i} (top p) m h None e = sym (loop_stop _ _ {n = m} refl (omega arith) (climb_top s st c i e p)) ∙ loop_stop _ _ refl (omega arith) (climb_top s st c i e p)
  same {i = i} (up p x) m h (Some r) e = sym (loop_stop _ _ {n = m} refl (omega arith) (climb_hit s st c i r e)) ∙ loop_stop _ _ refl (omega arith) (climb_hit s st c i r e)
  same {n} {i} (up {j = j} p x) m h None e =
      sym (loop_again _ _ {n = m} refl (omega arith) (climb_on s st c i j e p))
      ∙ (same x (m - 1) (omega arith) (best_rule s st c j) refl ∙ (ap (λ (k : ℕ). walk k j) (sym (sub-one _)) ∙ loop_again _ _ {n = n} refl (omega arith) (climb_on s st c i j e p)))

-- a walk that is given more steps ends as `find_rule` does
module _ (s : List ℕ) (st : PackRead) where
  pub limit_idle : (c : Context) {n i : ℕ} (m : ℕ) → i < length st.accents → Ends s st n i → length st.accents ≤ m
      → loop_to (climb_turn s st c) None m i ≡ find_rule s st c i
  unfolding find_rule
  limit_idle c {i = i} m h x l = same s st c (ends_within s st h x) m l (best_rule s st c i) refl

-- in a pack that loads a walk with any greater limit ends as `find_rule` does
pub loads_idle : (s : List ℕ) (st : PackRead) (e : ℕ) → read_pack s ≡ loaded st e → (c : Context) (m i : ℕ) → i < length st.accents → length st.accents ≤ m
    → loop_to (climb_turn s st c) None m i ≡ find_rule s st c i
loads_idle s st e p c m i h l = limit_idle s st c m h (chain_ended s st e (loads s st e p) i h) l
