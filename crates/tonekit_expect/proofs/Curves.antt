-- Every component that a lookup in a pack that loads lists has a curve (`listed_fine`), and its points are finite and of size at most 128
-- (`points_fine_lem`).
use Rattle.std.specs.Prelude.{Option}
use Rattle.spec_lookup.specs.declared.Winner.{Winner}
use Rattle.std.proofs.Common.{ℕ, zero, suc, ◌+◌, ◌*◌, ◌≤◌, ◌<◌, ◌≡◌, refl, sym, ◌∙◌, subst, ⊎_elim, Bool, true, false, ◌&&◌, List, [], ◌∷◌, arith, le_of_suc-le-suc, eq-or-lt_of_le, T, eqb, ltb, pos, length, get_or, eqb-true, ltb-true, ne_eqb, lt-ltb}
use lib.ListN.{get_or-append}
use lib.Seq.{get_or_at}
use lib.Ieee.{nan, fin, le}
use lib.Ieee.Fits.{and_l, and_r}
use borrow.Author.Tests.{eqb-false}
use Rattle.tonekit_core.specs.Loop.{turns, range}
use Rattle.tonekit_float.proofs.Order.{yes}
use Rattle.spec_arithmetic.specs.Fields.{byte_at, f32_at}
use Rattle.spec_arithmetic.specs.Places.{index_of, number_at}
use Rattle.spec_pack.specs.Ranges.{knot_fine, slot_fine, knots_fine}
use Rattle.spec_arithmetic.specs.Files.{loaded}
use Rattle.spec_pack.specs.Pack.{PackRead, read_pack, parts_from}
use Rattle.tonekit_ranges.proofs.SlotTurn.{slot_turn}
use Rattle.spec_pack.specs.Pack.{PackRead}
use Rattle.std.specs.Prelude.{Some, None}
use Rattle.spec_lookup.specs.declared.Context.{Context}
use Rattle.spec_lookup.specs.declared.Listing.{Listing}
use Rattle.spec_lookup.specs.Knots.{Knot, Point, Knots, knots_at}
use Rattle.spec_lookup.specs.Lookup.{to_rule, find_rule, rule_listing, citation, listed, look_at, look_up, component_of}
use Rattle.tonekit_expect.specs.Pieces.{knots_of, Listed}
use Rattle.tonekit_core.proofs.Split.{split}
use Rattle.tonekit_pack.proofs.Loads.{RuleFine, Loads, loads, firsts_bound}
use Rattle.tonekit_expect.proofs.Bound.{length_knots, points_bounded}
use Rattle.tonekit_bytes.proofs.Searched.{index_found}
use Rattle.tonekit_expect.proofs.Walk.{winner_is}

-- ---- slots that pass their test hold knots
module _ (s : List ℕ) (o n : ℕ) where
  slots : (k j : ℕ) (ok : Bool) → T (turns (slot_turn s o n) k j ok) → T ok × ((m : ℕ) → j ≤ m → m < k + j → T (slot_fine s o n m))
  unfolding turns
  slots zero j ok t = (t, λ m h l. absurd (omega arith))
  slots (suc k) j ok t =
      let r = slots k (j + 1) (ok && slot_fine s o n j) t in (
        and_l ok (slot_fine s o n j) r.0,
        λ m h l.
            split (eqb m j)
            (λ e. subst (λ (i : ℕ). T (slot_fine s o n i)) (sym (eqb-true m j e)) (and_r ok (slot_fine s o n j) r.0))
            (λ f. r.1 m (omega (arith, eqb-false m j f)) (omega arith)),
      )

  knot : (m : ℕ) → m < n → T (slot_fine s o n m) → Knot (f32_at s (o + 4 * m))
  unfolding slot_fine knot_fine
  knot m h t =
      let x = f32_at s (o + 4 * m) in
      let k = rw (lt-ltb m n h) at t in
      record { low = and_l (le (fin true 25 (pos 2)) x) (le x (fin false 25 (pos 2))) k; high = and_r (le (fin true 25 (pos 2)) x) (le x (fin false 25 (pos 2))) k }

knots_at_lem : (s : List ℕ) (o n k : ℕ) → k < n → get_or (knots_at s o n) k nan ≡ f32_at s (o + 4 * k)
unfolding knots_at
knots_at_lem s o zero k h = absurd (omega arith)
knots_at_lem s o (suc n) k h =
    ⊎_elim (λ e. rw e (get_or_at (knots_at s o n) (f32_at s (o + 4 * n)) [] nan n (length_knots s o n)))
    (λ l. get_or-append (knots_at s o n) (f32_at s (o + 4 * n) ∷ []) nan k (rw (length_knots s o n) l) ∙ knots_at_lem s o n k l)
    (eq-or-lt_of_le (le_of_suc-le-suc h))

pub slots_knots : (s : List ℕ) (o n : ℕ) → 1 ≤ n → n ≤ 10 → knots_fine s o n ≡ true → Knots (knots_at s o n)
unfolding knots_fine range
slots_knots s o n some few fine =
    let e = length_knots s o n in
    record {
      some = rw e some;
      few = rw e few;
      each = λ k h. let g : k < n = omega (arith, h, e) in subst Knot (sym (knots_at_lem s o n k g)) (knot s o n k g ((slots s o n 10 0 true (yes fine)).1 k (omega arith) (omega arith)));
    }

-- ---- an accent's rules are among the pack's
module _ (s : List ℕ) (st : PackRead) (e : ℕ) (l : Loads s st e) where
  pub rules_in : (i : ℕ) → to_rule st i ≤ length st.rules
  rules_in i =
      split (ltb (i + 1) (length st.accents))
      (λ t. rw t (firsts_bound s st e l (i + 1) (ltb-true (i + 1) (length st.accents) t)))
      (λ t. rw t (omega arith))

  pub rule_fine : (i k : ℕ) → k < to_rule st i → RuleFine s st.tones (get_or st.rules k 0)
  rule_fine i k h = l.kept.rules k (omega (arith, rules_in i))

-- ---- what a lookup lists
module _ (s : List ℕ) (st : PackRead) (e : ℕ) (l : Loads s st e) (c : Context) where
  -- one of the pack's rules
  abbrev Own : ℕ → Type 0
  Own r = RuleFine s st.tones r

  of_rule : (owner r j : ℕ) → Own r → j < parts_from 4 s (r + 7) → Listed s (rule_listing s owner r) j
  of_rule owner r j R h =
      let p = R.parts j h in
      record {
        inside = p.whole;
        few = omega (arith, h, R.few_parts);
        curve = rw (ne_eqb (byte_at s (r + 6)) 1 (λ q. omega (arith, R.least))) (slots_knots s (r + 7 + 46 * j + 6) (byte_at s (r + 7 + 46 * j + 5)) p.some p.few p.knots);
      }

  of_citation : (t j : ℕ) → t < length st.tones → (byte_at s (get_or st.tones t 0 + 6) ≡ 0 → ⊥) → j < 1 → Listed s (citation c.accent (get_or st.tones t 0)) j
  of_citation t j h n b =
      let f = l.kept.tones t h in
      let o = get_or st.tones t 0 in
      record { inside = omega (arith, f.whole); few = omega arith; curve = slots_knots s (o + 7) (byte_at s (o + 6)) (omega (arith, n)) f.few f.knots }

  of_winner : (m : Listing) (i t j : ℕ) → i < length st.accents → t < length st.tones → (w : Option Winner) → find_rule s st c i ≡ w
      → listed s st c (get_or st.tones t 0) w ≡ Some m → j < m.count → Listed s m j
  of_winner m i t j hi ht (Some w) q g h =
      let a = w.accent in
      let r = w.rule in
      let is : rule_listing s (number_at s (get_or st.accents a 0)) r ≡ m = cc in
      let fine = (winner_is s st c Own (rule_fine s st e l) i a r hi q).1 in
      subst (λ (l : Listing). Listed s l j) is (of_rule (number_at s (get_or st.accents a 0)) r j fine (subst (λ (l : Listing). j < l.count) (sym is) h))
  of_winner m i t j hi ht None q g h =
      let o = get_or st.tones t 0 in
      split (eqb (byte_at s (o + 6)) 0)
      (λ z. let g' = rw z at g in let n : ◌≡◌ {A = ℕ} 0 1 = cc in absurd (omega arith))
      (λ z. let g' = rw z at g in
      let is : citation c.accent o ≡ m = cc in
      subst (λ (l : Listing). Listed s l j) is (of_citation t j ht (eqb-false (byte_at s (o + 6)) 0 z) (subst (λ (l : Listing). j < l.count) (sym is) h)))

  of_places : (m : Listing) (j : ℕ) (f g : Option ℕ) → index_of s st.accents c.accent ≡ f → index_of s st.tones c.tone ≡ g
      → look_at s st c f g ≡ Some m → j < m.count → Listed s m j
  of_places m j (Some i) (Some t) a b q h =
      of_winner m i t j (index_found _ _ _ i a).inside (index_found _ _ _ t b).inside (find_rule s st c i) refl q h
  of_places m j None g a b q h = let n : ◌≡◌ {A = ℕ} 0 1 = cc in absurd (omega arith)
  of_places m j (Some i) None a b q h = let n : ◌≡◌ {A = ℕ} 0 1 = cc in absurd (omega arith)

-- `component_at` takes every component of a lookup in a pack that loads
pub listed_fine : (s : List ℕ) (st : PackRead) (e : ℕ) → read_pack s ≡ loaded st e → (c : Context) (l : Listing) (j : ℕ) → look_up s st c ≡ Some l → j < l.count → Listed s l j
unfolding look_up
listed_fine s st e p c l j q h = of_places s st e (loads s st e p) c l j (index_of s st.accents c.accent) (index_of s st.tones c.tone) refl refl q h

-- ---- points
pub listed_points : (s : List ℕ) (l : Listing) (j : ℕ) → Listed s l j → (k : ℕ) → k < 10 → Point (get_or (component_of s l j).points k nan)
unfolding component_of
listed_points s l j L k h =
    let b = points_bounded (knots_of s l j) L.curve k h in
    split (eqb l.name.form 1) (λ t. rw t (rw t at b)) (λ t. rw t (rw t at b))

pub points_fine_lem : (s : List ℕ) (st : PackRead) (e : ℕ) → read_pack s ≡ loaded st e → (c : Context) (l : Listing) (j : ℕ) → look_up s st c ≡ Some l → j < l.count
    → (k : ℕ) → k < 10 → Point (get_or (component_of s l j).points k nan)
points_fine_lem s st e p c l j q h = listed_points s l j (listed_fine s st e p c l j q h)
