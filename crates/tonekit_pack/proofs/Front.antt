-- The reader looks at no more than a pack can hold: inputs with the same first 7,063 bytes give the same answer. Assumes nothing.
use Rattle.std.proofs.Common.{ℕ, zero, suc, ◌+◌, ◌-◌, ◌*◌, ◌≤◌, ◌<◌, ◌≡◌, refl, ap, ◌∙◌, Bool, true, ◌&&◌, List, [], ◌∷◌, arith, length, get_or, take, length-append, eqb, eqb-true, ltb, ltb-true, ltb-false}
use lib.ListN.{get_or-eq_default}
use borrow.Author.Tests.{eqb-false}
use Rattle.std.specs.Prelude.{Option, Some, None, Ok}
use Rattle.tonekit_core.proofs.LoopLaws.{range_same, to_same}
use Rattle.spec_arithmetic.specs.Fields.{byte_at}
use Rattle.tonekit_bytes.proofs.Agreeing.{Agree, taken_agrees, four, float}
use Rattle.spec_pack.specs.Ranges.{slot_fine, knots_fine, region_fine, tails_fine, tolerances_fine}
use Rattle.tonekit_ranges.proofs.SlotTurn.{slot_turn}
use Rattle.spec_arithmetic.specs.Places.{number_at, index_of}
use Rattle.tonekit_bytes.specs.Places.{index_turn}
use Rattle.spec_pack.specs.Pack.{PackRead, size_of, holds, zero_or_held, settings_verdict, tone_verdict, tail_verdict, accent_verdict, rule_verdict, part_verdict, body_verdict, due_after, record_verdict, added, parents_held, parent_of, or_ends, chain_ends, chains_end, end_verdict, ended, pack_reader, read_pack, load_pack}
use Rattle.tonekit_core.proofs.Split.{split}
use Rattle.tonekit_pack.proofs.Each.{each_snoc}
use Rattle.tonekit_pack.proofs.Records.{Due, due_is, settings, tone, tail, accent, rule, part, finish, sound, tone_room, accent_room, rule_room, part_room}
use Rattle.tonekit_pack.specs.Going.{Near}
use Rattle.tonekit_pack.proofs.Reading.{near_next}
use Rattle.tonekit_bytes.proofs.Files.{Alike, read_same, single_same}
use Rattle.tonekit_pack.proofs.Turns.{steady}
use Rattle.tonekit_pack.proofs.Loads.{loads, near_end}

-- what a record says, in two inputs that agree up to its end
module _ (n : ℕ) (t s : List ℕ) (a : Agree n t s) where
  slot_same : (o m k : ℕ) → k < 10 → o + 40 ≤ n → slot_fine t o m k ≡ slot_fine s o m k
  unfolding slot_fine
  slot_same o m k l h = rw (float n t s a (o + 4 * k) (omega arith), four n t s a (o + 4 * k) (omega arith))

  knots_same : (o m : ℕ) → o + 40 ≤ n → knots_fine t o m ≡ knots_fine s o m
  unfolding knots_fine
  knots_same o m h = range_same (slot_turn t o m) (slot_turn s o m) 0 10 true (omega arith) (λ j y l. ap (λ (b : Bool). y && b) (slot_same o m j l h))

  pub region_same : (o : ℕ) → o + 9 ≤ n → region_fine t o ≡ region_fine s o
  unfolding region_fine
  region_same o h = rw (a.bytes o (omega arith), four n t s a (o + 1) (omega arith), four n t s a (o + 5) (omega arith))

  pub tails_same : (o : ℕ) → o + 9 ≤ n → tails_fine t o ≡ tails_fine s o
  unfolding tails_fine
  tails_same o h = rw (float n t s a (o + 1) (omega arith), float n t s a (o + 5) (omega arith))

  pub tolerances_same : (o : ℕ) → o + 16 ≤ n → tolerances_fine t o ≡ tolerances_fine s o
  unfolding tolerances_fine
  tolerances_same o h = rw (float n t s a o (omega arith), float n t s a (o + 4) (omega arith), float n t s a (o + 8) (omega arith), float n t s a (o + 12) (omega arith))

  pub holds_same : (os : List ℕ) (x : ℕ) → ((i : ℕ) → i < length os → get_or os i 0 + 7 ≤ n) → holds t os x ≡ holds s os x
  unfolding holds
  holds_same [] x h = refl
  holds_same (o ∷ os) x h = rw (a.bytes (o + 1) (omega (arith, h 0 (omega arith))), holds_same os x (λ i l. h (suc i) (omega arith)))

  pub zero_or_same : (os : List ℕ) (x : ℕ) → ((i : ℕ) → i < length os → get_or os i 0 + 7 ≤ n) → zero_or_held t os x ≡ zero_or_held s os x
  unfolding zero_or_held
  zero_or_same os x h = rw (holds_same os x h)

  -- a search by number finds the same
  index_same : (os : List ℕ) (x : ℕ) → ((i : ℕ) → i < length os → get_or os i 0 + 7 ≤ n) → index_of t os x ≡ index_of s os x
  unfolding index_of
  index_same os x h =
      to_same (index_turn t os x) (index_turn s os x) (λ u. None) (length os) 0 (λ j u l. rw (a.bytes (get_or os j 0 + 1) (omega (arith, h j l))))

  parents_same : (accents os : List ℕ) → ((i : ℕ) → i < length accents → get_or accents i 0 + 7 ≤ n) → ((i : ℕ) → i < length os → get_or os i 0 + 7 ≤ n)
      → parents_held t accents os ≡ parents_held s accents os
  unfolding parents_held
  parents_same accents [] h g = refl
  parents_same accents (o ∷ os) h g =
      rw (a.bytes (o + 2) (omega (arith, g 0 (omega arith))), zero_or_same accents (byte_at s (o + 2)) h, parents_same accents os h (λ i l. g (suc i) (omega arith)))

  -- each accent has the same parent, so chains of parents end in both or in neither
  module _ (st : PackRead) (h : (i : ℕ) → i < length st.accents → get_or st.accents i 0 + 7 ≤ n) (room : 7 ≤ n) where
    near_accent : (i : ℕ) → get_or st.accents i 0 + 7 ≤ n
    near_accent i =
        split (ltb i (length st.accents))
        (λ l. h i (ltb-true i (length st.accents) l))
        (λ l. omega (arith, get_or-eq_default st.accents 0 {n = i} (ltb-false i (length st.accents) l)))

    parent_same : (i : ℕ) → parent_of t st i ≡ parent_of s st i
    parent_same i = rw (a.bytes (get_or st.accents i 0 + 2) (omega (arith, near_accent i))) (index_same st.accents (byte_at s (get_or st.accents i 0 + 2)) h)

    next_same : (f g : ℕ → Bool) (o : Option ℕ) → ((j : ℕ) → f j ≡ g j) → or_ends f o ≡ or_ends g o
    next_same f g None e = refl
    next_same f g (Some j) e = e j

    chain_same : (k i : ℕ) → chain_ends t st k i ≡ chain_ends s st k i
    unfolding chain_ends
    chain_same zero i = refl
    chain_same (suc k) i = ap (or_ends (chain_ends t st k)) (parent_same i) ∙ next_same (chain_ends t st k) (chain_ends s st k) (parent_of s st i) (chain_same k)

    chains_same : (k i : ℕ) → chains_end t st k i ≡ chains_end s st k i
    unfolding chains_end
    chains_same zero i = refl
    chains_same (suc k) i = rw (chain_same (length st.accents) i, chains_same k (i + 1))

    pub end_same : end_verdict t st ≡ end_verdict s st
    unfolding end_verdict
    end_same = rw (parents_same st.accents st.accents h h, chains_same (length st.accents) 0)

-- a place, with what stood before it, that a pack can have
record Low (at : ℕ) (st : PackRead) : Type 0 where
  near : Near at st
  few_tones : length st.tones ≤ 8
  few_accents : length st.accents ≤ 8
  few_rules : length st.rules ≤ 64
  few_in_all : st.total ≤ 128
  tones : (i : ℕ) → i < length st.tones → get_or st.tones i 0 + 7 ≤ at
  accents : (i : ℕ) → i < length st.accents → get_or st.accents i 0 + 7 ≤ at
  rules : (i : ℕ) → i < length st.rules → get_or st.rules i 0 + 7 ≤ at

abbrev Before : ℕ → List ℕ → ℕ → Type 0
Before at os o = o + 7 ≤ at

passed_on : (at m : ℕ) (os : List ℕ) → at ≤ m → ((i : ℕ) → i < length os → get_or os i 0 + 7 ≤ at) → (i : ℕ) → i < length os → get_or os i 0 + 7 ≤ m
passed_on at m os h l i b = omega (arith, l i b)

low_next : (s : List ℕ) (at : ℕ) (st : PackRead) {k : ℕ} → Due st.last k → (k ≡ 6 → ⊥) → body_verdict k s at st ≡ Ok tt → Low at st → Low (at + size_of k) (added k at st)
unfolding added size_of
low_next s at st (settings e) n b p =
    record { near = near_next at st (settings e) n p.near; few_tones = p.few_tones; few_accents = p.few_accents; few_rules = p.few_rules; few_in_all = p.few_in_all; tones = passed_on at (at + 9) st.tones (omega arith) p.tones; accents = passed_on at (at + 9) st.accents (omega arith) p.accents; rules = passed_on at (at + 9) st.rules (omega arith) p.rules }
low_next s at st (tone l u) n b p =
    record { near = near_next at st (tone l u) n p.near; few_tones = simp length-append (omega (arith, tone_room s at st b)); few_accents = p.few_accents; few_rules = p.few_rules; few_in_all = p.few_in_all; tones = each_snoc (Before (at + 56)) st.tones at (passed_on at (at + 56) st.tones (omega arith) p.tones) (omega arith); accents = passed_on at (at + 56) st.accents (omega arith) p.accents; rules = passed_on at (at + 56) st.rules (omega arith) p.rules }
low_next s at st (tail e r) n b p =
    record { near = near_next at st (tail e r) n p.near; few_tones = p.few_tones; few_accents = p.few_accents; few_rules = p.few_rules; few_in_all = p.few_in_all; tones = passed_on at (at + 9) st.tones (omega arith) p.tones; accents = passed_on at (at + 9) st.accents (omega arith) p.accents; rules = passed_on at (at + 9) st.rules (omega arith) p.rules }
low_next s at st (accent l u) n b p =
    record { near = near_next at st (accent l u) n p.near; few_tones = p.few_tones; few_accents = simp length-append (omega (arith, accent_room s at st b)); few_rules = p.few_rules; few_in_all = p.few_in_all; tones = passed_on at (at + 19) st.tones (omega arith) p.tones; accents = each_snoc (Before (at + 19)) st.accents at (passed_on at (at + 19) st.accents (omega arith) p.accents) (omega arith); rules = passed_on at (at + 19) st.rules (omega arith) p.rules }
low_next s at st (rule l u) n b p =
    record { near = near_next at st (rule l u) n p.near; few_tones = p.few_tones; few_accents = p.few_accents; few_rules = simp length-append (omega (arith, rule_room s at st b)); few_in_all = p.few_in_all; tones = passed_on at (at + 7) st.tones (omega arith) p.tones; accents = passed_on at (at + 7) st.accents (omega arith) p.accents; rules = each_snoc (Before (at + 7)) st.rules at (passed_on at (at + 7) st.rules (omega arith) p.rules) (omega arith) }
low_next s at st (part l u) n b p =
    record { near = near_next at st (part l u) n p.near; few_tones = p.few_tones; few_accents = p.few_accents; few_rules = p.few_rules; few_in_all = omega (arith, (part_room s at st b).in_all); tones = passed_on at (at + 46) st.tones (omega arith) p.tones; accents = passed_on at (at + 46) st.accents (omega arith) p.accents; rules = passed_on at (at + 46) st.rules (omega arith) p.rules }
low_next s at st (finish l u) n b p = absurd (n refl)

module _ (n : ℕ) (t s : List ℕ) (a : Agree n t s) (at : ℕ) (st : PackRead) (p : Low at st) (room : 7063 ≤ n) where
  seen : (os : List ℕ) → ((i : ℕ) → i < length os → get_or os i 0 + 7 ≤ at) → (i : ℕ) → i < length os → get_or os i 0 + 7 ≤ n
  seen os h i l = omega (arith, h i l)

  last_seen : get_or st.rules (length st.rules - 1) 0 + 7 ≤ n
  last_seen =
      split (eqb (length st.rules) 0)
      (λ e. let z : length st.rules ≡ 0 = eqb-true (length st.rules) 0 e in
      omega (arith, get_or-eq_default st.rules 0 {n = length st.rules - 1} (omega arith)))
      (λ e. omega (arith, p.rules (length st.rules - 1) (omega (arith, eqb-false (length st.rules) 0 e))))

  -- a record of each kind that is due is the same in both
  body_same : {k : ℕ} → Due st.last k → body_verdict k t at st ≡ body_verdict k s at st
  unfolding body_verdict settings_verdict tone_verdict tail_verdict accent_verdict rule_verdict part_verdict
  body_same (settings e) = rw (four n t s a (at + 1) (omega arith), four n t s a (at + 5) (omega arith))
  body_same (tone l u) =
      let e = p.near.early u in
      rw (a.bytes (at + 6) (omega arith), a.bytes (at + 1) (omega arith), four n t s a (at + 2) (omega arith), knots_same n t s a (at + 7) (byte_at s (at + 6)) (omega arith), region_same n t s a (at + 47) (omega arith), holds_same n t s a st.tones (number_at s at) (seen st.tones p.tones))
  body_same (tail e r) = rw (tails_same n t s a at (omega (arith, p.near.bare e)))
  body_same (accent l u) =
      rw (a.bytes (at + 1) (omega arith), tolerances_same n t s a (at + 3) (omega arith), holds_same n t s a st.accents (number_at s at) (seen st.accents p.accents))
  body_same (rule l u) =
      rw (a.bytes (at + 5) (omega arith), a.bytes (at + 6) (omega arith), a.bytes (at + 3) (omega arith), a.bytes (at + 4) (omega arith), zero_or_same n t s a st.tones (byte_at s (at + 3)) (seen st.tones p.tones), zero_or_same n t s a st.tones (byte_at s (at + 4)) (seen st.tones p.tones))
  body_same (part l u) =
      rw (four n t s a (at + 1) (omega arith), a.bytes (at + 5) (omega arith), knots_same n t s a (at + 6) (byte_at s (at + 5)) (omega arith), a.bytes (get_or st.rules (length st.rules - 1) 0 + 6) (omega (arith, last_seen)))
  body_same (finish l u) = refl

  room_for : {k : ℕ} → Due st.last k → at + size_of k ≤ n
  unfolding size_of
  room_for (settings e) = omega arith
  room_for (tone l u) = omega (arith, p.near.early u)
  room_for (tail e r) = omega (arith, p.near.bare e)
  room_for (accent l u) = omega arith
  room_for (rule l u) = omega arith
  room_for (part l u) = omega arith
  room_for (finish l u) = omega arith

  verdict_same : record_verdict t at st ≡ record_verdict s at st
  unfolding record_verdict
  verdict_same =
      split (due_after st.last (byte_at s at))
      (λ d. let q = due_is st.last (byte_at s at) d in
      rw (a.ends at (omega arith), a.bytes at (omega arith), a.cuts (at + size_of (byte_at s at)) (room_for q), body_same q))
      (λ d. rw (a.ends at (omega arith), a.bytes at (omega arith), d))

low_start : Low 0 pack_reader.start.st
low_start = record {
  near = record { first = λ q. refl; early = λ q. omega arith; bare = λ q. absurd (omega arith); near = omega arith };
  few_tones = omega arith;
  few_accents = omega arith;
  few_rules = omega arith;
  few_in_all = omega arith;
  tones = λ i l. absurd (omega arith);
  accents = λ i l. absurd (omega arith);
  rules = λ i l. absurd (omega arith);
}

alike : (n : ℕ) (t s : List ℕ) → Agree n t s → 7063 ≤ n → Alike pack_reader t s Low
alike n t s a l =
    record {
      kind = λ at st p. a.bytes at (omega (arith, p.near.near, p.few_tones, p.few_accents, p.few_rules, p.few_in_all));
      verdict = λ at st p. verdict_same n t s a at st p l;
      added = λ at st p. ap (λ k. added k at st) (a.bytes at (omega (arith, p.near.near, p.few_tones, p.few_accents, p.few_rules, p.few_in_all)));
      finish = λ at st p v k. ap (ended at st) (end_same n t s a st (λ i h. omega (arith, p.near.near, p.few_tones, p.few_accents, p.few_rules, p.few_in_all, p.accents i h)) (omega arith));
      goes = λ at st p v k. let ok = sound s at st v in low_next s at st ok.due k ok.body p;
    }

read_agrees : (n : ℕ) (t s : List ℕ) → Agree n t s → 7063 ≤ n → read_pack t ≡ read_pack s
unfolding read_pack
read_agrees n t s a l = read_same pack_reader t s Low (alike n t s a l) steady refl low_start

-- what stands past the first 7,063 bytes is no matter but that it is there
pub front_alone : (s : List ℕ) (n : ℕ) → 7063 ≤ n → load_pack (take n s) ≡ load_pack s
unfolding load_pack
front_alone s n l =
    let a = taken_agrees n s in
    rw (read_agrees n (take n s) s a (omega arith))
    (single_same (take n s) s (read_pack s) (λ st e h. a.goes e (omega (arith, near_end s st e (loads s st e h)))))
