-- Where a lookup's listing comes from in a pack that loads: a rule, under the accent that it stands behind, or a tone's citation, under a held accent.
use Rattle.std.specs.Prelude.{Option}
use Rattle.spec_lookup.specs.declared.Winner.{Winner}
use Rattle.std.proofs.Common.{ℕ, zero, suc, ◌+◌, ◌≤◌, ◌<◌, ◌≡◌, refl, cond, List, arith, eqb, leb, length, get_or, eqb-true, lt-ltb, le-leb}
use borrow.Author.Tests.{eqb-false, lt-leb}
use Rattle.spec_arithmetic.specs.Fields.{byte_at}
use Rattle.spec_arithmetic.specs.Places.{index_of, number_at}
use Rattle.spec_pack.specs.Pack.{PackRead}
use Rattle.tonekit_core.proofs.Split.{split}
use Rattle.tonekit_pack.proofs.Loads.{Loads, firsts_ascend}
use Rattle.std.specs.Prelude.{Some, None}
use Rattle.spec_lookup.specs.declared.Context.{Context}
use Rattle.spec_lookup.specs.declared.Listing.{Listing}
use Rattle.spec_lookup.specs.Lookup.{to_rule, find_rule, rule_listing, citation, listed, look_at, look_up}
use Rattle.tonekit_expect.specs.Pieces.{won}
use Rattle.spec_lookup.specs.Source.{Carried, components}
use Rattle.tonekit_expect.proofs.Curves.{rules_in}
use Rattle.tonekit_bytes.proofs.Searched.{index_found}
use Rattle.tonekit_expect.proofs.Walk.{winner_of}

-- ---- the rule that a walk ends with is one of the accent's that it names
module _ (s : List ℕ) (st : PackRead) (c : Context) where
  -- rule k, at r, stands behind accent a
  pub record Behind (a r : ℕ) : Type 0 where
    pub place : ℕ
    pub from : get_or st.firsts a 0 ≤ place
    pub to : place < to_rule st a
    pub at : get_or st.rules place 0 ≡ r

  pub winner_behind : (i a r : ℕ) → i < length st.accents → find_rule s st c i ≡ Some (won a r) → (a < length st.accents) × Behind a r
  winner_behind = winner_of s st c Behind (λ a k l h. record { place = k; from = l; to = h; at = refl })

-- ---- a rule stands behind one accent
-- the last of the first n accents before which no more rules stood than k
unfoldable pub accent_of : PackRead → ℕ → ℕ → ℕ
accent_of st zero k = 0
accent_of st (suc n) k = cond (leb (get_or st.firsts n 0) k) n (accent_of st n k)

-- the listing of rule k, and that of accent i's citation of tone t
abbrev pub rule_of : List ℕ → PackRead → ℕ → Listing
rule_of s st k = rule_listing s (number_at s (get_or st.accents (accent_of st (length st.accents) k) 0)) (get_or st.rules k 0)

abbrev pub citation_of : List ℕ → PackRead → ℕ → ℕ → Listing
citation_of s st i t = citation (number_at s (get_or st.accents i 0)) (get_or st.tones t 0)

-- the list of a listing
abbrev pub list_of : List ℕ → Listing → List Carried
list_of s m = components s m m.count

-- what a lookup gives is one or the other
pub data Drawn (s : List ℕ) (st : PackRead) (m : Listing) : Type 0 where
  ruled : (k : ℕ) → k < length st.rules → accent_of st (length st.accents) k < length st.accents → rule_of s st k ≡ m → Drawn s st m
  cited : (i t : ℕ) → i < length st.accents → t < length st.tones → (byte_at s (get_or st.tones t 0 + 6) ≡ 0 → ⊥) → citation_of s st i t ≡ m → Drawn s st m

module _ (s : List ℕ) (st : PackRead) (e : ℕ) (l : Loads s st e) where
  -- an accent behind it has more rules before it
  later : (a m k : ℕ) → a < m → m < length st.accents → k < to_rule st a → k < get_or st.firsts m 0
  later a m k h b t =
      let q : k < get_or st.firsts (a + 1) 0 = rw (lt-ltb (a + 1) (length st.accents) (omega arith)) at t in
      split (eqb (a + 1) m)
      (λ x. let y : a + 1 ≡ m = eqb-true (a + 1) m x in rw y at q)
      (λ x. omega (arith, firsts_ascend s st e l (a + 1) m (omega (arith, eqb-false (a + 1) m x)) b))

  accent_is : (n a k : ℕ) → a < n → n ≤ length st.accents → get_or st.firsts a 0 ≤ k → k < to_rule st a → accent_of st n k ≡ a
  unfolding accent_of
  accent_is zero a k h b f t = absurd (omega arith)
  accent_is (suc n) a k h b f t =
      split (eqb n a)
      (λ x. let y : n ≡ a = eqb-true n a x in rw (y, le-leb (get_or st.firsts a 0) k f))
      (λ x. let y : a < n = omega (arith, eqb-false n a x) in
      rw (lt-leb (get_or st.firsts n 0) k (later a n k y (omega arith) t)) (accent_is n a k y (omega arith) f t))

  module _ (c : Context) (m : Listing) where
    of_winner : (i t : ℕ) → i < length st.accents → number_at s (get_or st.accents i 0) ≡ c.accent → t < length st.tones → (w : Option Winner) → find_rule s st c i ≡ w
        → listed s st c (get_or st.tones t 0) w ≡ Some m → Drawn s st m
    of_winner i t hi n ht (Some w) q g =
        let a = w.accent in
        let r = w.rule in
        let b = winner_behind s st c i a r hi q in
        let k = b.1.place in
        let x : accent_of st (length st.accents) k ≡ a = accent_is (length st.accents) a k b.0 (omega arith) b.1.from b.1.to in
        let is : rule_listing s (number_at s (get_or st.accents a 0)) r ≡ m = cc in
        ruled k (omega (arith, b.1.to, rules_in s st e l a)) (rw x b.0) (rw (x, b.1.at) is)
    of_winner i t hi n ht None q g =
        let o = get_or st.tones t 0 in
        split (eqb (byte_at s (o + 6)) 0)
        (λ z. let g' = rw z at g in let y : ◌≡◌ {A = ℕ} 0 1 = cc in absurd (omega arith))
        (λ z. let g' = rw z at g in
        let is : citation c.accent o ≡ m = cc in
        cited i t hi ht (eqb-false (byte_at s (o + 6)) 0 z) (rw n is))

    of_places : (f g : Option ℕ) → index_of s st.accents c.accent ≡ f → index_of s st.tones c.tone ≡ g → look_at s st c f g ≡ Some m → Drawn s st m
    of_places (Some i) (Some t) a b q =
        let x = index_found _ _ _ i a in
        of_winner i t x.inside x.number (index_found _ _ _ t b).inside (find_rule s st c i) refl q
    of_places None g a b q = let n : ◌≡◌ {A = ℕ} 0 1 = cc in absurd (omega arith)
    of_places (Some i) None a b q = let n : ◌≡◌ {A = ℕ} 0 1 = cc in absurd (omega arith)

    pub drawn : look_up s st c ≡ Some m → Drawn s st m
    unfolding look_up
    drawn q = of_places (index_of s st.accents c.accent) (index_of s st.tones c.tone) refl refl q
