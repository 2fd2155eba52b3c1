-- A pack's lookups are those of its book (`look_same`), and so is all that a station with the pack holds (`pack_source`). Assumes nothing.
use Rattle.std.specs.Prelude.{Option as Found}
use Rattle.spec_lookup.specs.declared.Winner.{Winner}
use Rattle.std.proofs.Common.{ℕ, zero, suc, ◌+◌, ◌-◌, ◌≡◌, refl, sym, ◌∙◌, ap, ap₂, Bool, true, false, cond, ◌&&◌, List, arith, eqb, length, get_or}
use mathlib.Core.Option.{Option, none, some}
use Rattle.tonekit_core.specs.Loop.{Turn, next, stop, fold, turns, range, turns_to, range_to, loop_on, loop_to}
use Rattle.spec_arithmetic.specs.Fields.{byte_at}
use Rattle.spec_arithmetic.specs.Places.{index_of, number_at}
use Rattle.tonekit_bytes.specs.Places.{index_turn}
use Rattle.spec_pack.specs.Pack.{PackRead, parent_of, parts_from}
use Rattle.tonekit_core.proofs.Split.{split}
use Rattle.spec_lookup.specs.declared.Context.{Context}
use Rattle.std.specs.Prelude.{Some, None}
use Rattle.spec_lookup.specs.Lookup.{matches, specificity, more_than, better_of, to_rule, best_rule, or_parent, climb_turn, find_rule, rule_listing, listed, look_at, look_up}
use Rattle.spec_lookup.specs.Source.{Carried, components, carried_of, settings_at, tone_at, accent_at, source_of_pack}
use Rattle.tonekit_book.specs.Book.{Rule, BookAccent, BookTone, first_with, book_accent_in, rule_matches, conditions, better_rule, best_of, given_or, from_parent, climb, or_citation, look_with, look_in, source_of, tabulate, book_tone_at, rule_at, pack_tone, pack_accent, book_of}
use Rattle.tonekit_book.proofs.Tabulate.{tabulate_length, map_tabulate, tabulate_all}

-- ---- a search by number
-- what stands at the place that was found
abbrev pub at_found : {A : Type 0} → (ℕ → A) → Found ℕ → Option A
at_found g (Some i) = some (g i)
at_found g None = none

halted : {S R : Type 0} (f : ℕ → S → Turn S R) (g : S → R) (k i : ℕ) (r : R) → turns_to f g k i (stop r) ≡ r
unfolding turns_to
halted f g zero i r = refl
halted f g (suc k) i r = refl

module _ {A : Type 0} (number : A → ℕ) (s os : List ℕ) (n : ℕ) (g : ℕ → A) (named : (i : ℕ) → number (g i) ≡ number_at s (get_or os i 0)) where
  found_from : (k i u : ℕ) → at_found g (turns_to (index_turn s os n) (λ u. None) k i (next u)) ≡ first_with number (tabulate g k i) n
  unfolding turns_to tabulate first_with
  found_from zero i u = refl
  found_from (suc k) i u =
      split (eqb (number_at s (get_or os i 0)) n)
      (λ t. rw (named i, t, halted (index_turn s os n) (λ u. None) k (i + 1) (Some i)))
      (λ t. rw (named i, t) (found_from k (i + 1) u))

  pub index_same : at_found g (index_of s os n) ≡ first_with number (tabulate g (length os) 0) n
  unfolding index_of range_to
  index_same = let e : length os - 0 ≡ length os = omega arith in rw e (found_from (length os) 0 0)

-- ---- the best rule of an accent
module _ (s : List ℕ) (owner : ℕ) (rules : List ℕ) (c : Context) where
  abbrev rule : ℕ → Rule
  rule o = rule_at s owner o

  found_cond : (t : Bool) (o : ℕ) (f : Found ℕ) → at_found rule (cond t (Some o) f) ≡ cond t (some (rule o)) (at_found rule f)
  found_cond true o f = refl
  found_cond false o f = refl

  better_same : (f : Found ℕ) (o : ℕ) → at_found rule (better_of s c f o) ≡ better_rule c (at_found rule f) (rule o)
  unfolding better_of better_rule matches specificity rule_matches conditions
  better_same (Some b) o = found_cond (matches s c o && more_than s (Some b) o) o (Some b)
  better_same None o = found_cond (matches s c o && true) o None

  abbrev best_turn : ℕ → Found ℕ → Found ℕ
  best_turn k best = better_of s c best (get_or rules k 0)

  best_from : (k i : ℕ) (f : Found ℕ) → at_found rule (turns best_turn k i f) ≡ fold (better_rule c) (at_found rule f) (tabulate (λ k. rule (get_or rules k 0)) k i)
  unfolding turns fold tabulate
  best_from zero i f = refl
  best_from (suc k) i f = best_from k (i + 1) (best_turn i f) ∙ ap (λ o. fold (better_rule c) o (tabulate (λ k. rule (get_or rules k 0)) k (i + 1))) (better_same f (get_or rules i 0))

pub best_same : (s : List ℕ) (st : PackRead) (c : Context) (i owner : ℕ)
    → at_found (rule_at s owner) (best_rule s st c i) ≡ best_of c (tabulate (λ k. rule_at s owner (get_or st.rules k 0)) (to_rule st i - get_or st.firsts i 0) (get_or st.firsts i 0))
unfolding best_rule range best_of
best_same s st c i owner = best_from s owner st.rules c (to_rule st i - get_or st.firsts i 0) (get_or st.firsts i 0) None

-- ---- the walk up the parents
stops : {S R : Type 0} (f : S → Turn S R) (d : R) (n : ℕ) (r : R) → loop_on f d n (stop r) ≡ r
unfolding loop_on
stops f d zero r = refl
stops f d (suc n) r = refl

pub parent_same : (s : List ℕ) (st : PackRead) (i : ℕ)
    → at_found (pack_accent s st) (parent_of s st i) ≡ book_accent_in (tabulate (pack_accent s st) (length st.accents) 0) (pack_accent s st i).parent
parent_same s st i = index_same (λ (a : BookAccent). a.accent.number) s st.accents (pack_accent s st i).parent (pack_accent s st) (λ i. refl)

module _ (s : List ℕ) (st : PackRead) (c : Context) where
  abbrev accents : List BookAccent
  accents = tabulate (pack_accent s st) (length st.accents) 0

  -- the components of the rule that the walk ends with
  abbrev its_list : Found Winner → Option (List Carried)
  its_list (Some w) = some (components s (rule_listing s (number_at s (get_or st.accents w.accent 0)) w.rule) (parts_from 4 s (w.rule + 7)))
  its_list None = none

  -- n accents at most, from accent i on
  abbrev walk : ℕ → ℕ → Found Winner
  walk n i = loop_to (climb_turn s st c) None n i

  step : (n i : ℕ) → ((j : ℕ) → its_list (walk n j) ≡ climb accents c n (pack_accent s st j)) → (f : Found ℕ) → best_rule s st c i ≡ f → (p : Found ℕ) → parent_of s st i ≡ p
      → its_list (loop_on (climb_turn s st c) None n (or_parent s st i f)) ≡ given_or (at_found (rule_at s (number_at s (get_or st.accents i 0))) f)
      (from_parent (climb accents c n) (at_found (pack_accent s st) p))
  unfolding loop_to
  step n i ih (Some o) e p g = rw (stops (climb_turn s st c) None n (Some (record { accent = i; rule = o })))
  step n i ih None e (Some j) g = rw g (ih j)
  step n i ih None e None g = rw (g, stops (climb_turn s st c) None n None)

  pub walk_same : (n i : ℕ) → its_list (walk n i) ≡ climb accents c n (pack_accent s st i)
  unfolding loop_to loop_on climb climb_turn
  walk_same zero i = refl
  walk_same (suc n) i =
      step n i (walk_same n) (best_rule s st c i) refl (parent_of s st i) refl
      ∙ ap₂ (λ r a. given_or r (from_parent (climb accents c n) a)) (best_same s st c i (number_at s (get_or st.accents i 0))) (parent_same s st i)

-- ---- the lookup
module _ (s : List ℕ) (st : PackRead) (c : Context) where
  -- the rule's components, or the citation of the tone at o
  given_same : (o : ℕ) (w : Found Winner) → carried_of s (listed s st c o w) ≡ or_citation c.accent (book_tone_at s o) (its_list s st c w)
  given_same o (Some w) = refl
  given_same o None = split (eqb (byte_at s (o + 6)) 0) (λ t. rw t) (λ t. rw t)

  at_same : (a t : Found ℕ) → carried_of s (look_at s st c a t) ≡ look_with (accents s st c) c (at_found (pack_accent s st) a) (at_found (pack_tone s st) t)
  unfolding find_rule
  at_same None t = refl
  at_same (Some i) None = refl
  at_same (Some i) (Some t) =
      given_same (get_or st.tones t 0) (find_rule s st c i)
      ∙ ap (or_citation c.accent (pack_tone s st t)) (walk_same s st c (length st.accents) i ∙ ap (λ n. climb (accents s st c) c n (pack_accent s st i)) (sym (tabulate_length (pack_accent s st) (length st.accents) 0)))

  pub look_same : (source_of_pack s st).look c ≡ look_in (book_of s st) c
  unfolding source_of_pack look_up look_in book_of
  look_same =
      at_same (index_of s st.accents c.accent) (index_of s st.tones c.tone)
      ∙ ap₂ (λ a t. look_with (accents s st c) c a t)
      (index_same (λ (a : BookAccent). a.accent.number) s st.accents c.accent (pack_accent s st) (λ i. refl))
      (index_same (λ (t : BookTone). t.tone.number) s st.tones c.tone (pack_tone s st) (λ i. refl))

-- ---- all that is held
pub pack_source : (s : List ℕ) (st : PackRead) → source_of_pack s st ≡ source_of (book_of s st)
unfolding source_of_pack source_of book_of
pack_source s st =
    let t = tabulate_all (tone_at 47 7 s) st.tones ∙ sym (map_tabulate (λ (t : BookTone). t.tone) (pack_tone s st) (length st.tones) 0) in
    let a = tabulate_all (accent_at 3 s) st.accents ∙ sym (map_tabulate (λ (a : BookAccent). a.accent) (pack_accent s st) (length st.accents) 0) in
    λ i. record { settings = settings_at s 0; tones = t i; accents = a i; look = λ c. look_same s st c i }
