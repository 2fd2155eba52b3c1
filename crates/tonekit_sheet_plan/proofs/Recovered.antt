-- Every listing that a lookup in a pack that loads gives is found again from its owner and its record, and can be read. Assumes nothing.
use Rattle.std.specs.Prelude.{Option}
use Rattle.spec_lookup.specs.declared.Winner.{Winner}
use Rattle.std.proofs.Common.{ℕ, ◌+◌, ◌-◌, ◌≤◌, ◌<◌, ◌≡◌, refl, subst, List, arith, eqb, length, get_or, eq-eqb, ne_eqb}
use Rattle.tonekit_core.specs.declared.layout.TheConstants.{TONE_KNOT_COUNT, RULE_KIND, RULE_SIZE, RULE_FORM}
use Rattle.spec_arithmetic.specs.Fields.{byte_at}
use Rattle.spec_arithmetic.specs.Places.{index_of, number_at}
use Rattle.spec_arithmetic.specs.Files.{loaded}
use Rattle.spec_pack.specs.Pack.{PackRead, read_pack}
use Rattle.tonekit_core.proofs.Split.{split}
use Rattle.tonekit_pack.proofs.Loads.{RuleFine, Loads, loads}
use Rattle.std.specs.Prelude.{Some, None}
use Rattle.spec_lookup.specs.declared.Context.{Context}
use Rattle.spec_lookup.specs.declared.Listing.{Listing}
use Rattle.spec_lookup.specs.Lookup.{find_rule, rule_listing, citation, listed, look_at, look_up}
use Rattle.tonekit_bytes.proofs.Searched.{index_found}
use Rattle.tonekit_expect.proofs.Walk.{winner_is}
use Rattle.tonekit_expect.proofs.Curves.{listed_fine, rule_fine}
use Rattle.tonekit_sheet_plan.specs.Listings.{record_of, listing_from, LookKept}

-- found again
record Again (s : List ℕ) (l : Listing) : Type 0 where
  near : record_of l < 65536
  behind : (l.name.form ≡ 1 → ⊥) → RULE_SIZE ≤ l.at
  same : listing_from s l.name.owner (record_of l) ≡ l
  some : 1 ≤ l.count
  few : l.count ≤ 4

module _ (s : List ℕ) (st : PackRead) (e : ℕ) (l : Loads s st e) (rules : (k : ℕ) → get_or st.rules k 0 < 65536) (tones : (k : ℕ) → get_or st.tones k 0 < 65536) (c : Context) where
  -- one of the pack's rules, at an offset as offsets are held
  abbrev Own : ℕ → Type 0
  Own r = RuleFine s st.tones r × (r < 65536)

  of_rule : (owner r : ℕ) → Own r → Again s (rule_listing s owner r)
  unfolding listing_from
  of_rule owner r R =
      let n = ne_eqb (byte_at s (r + RULE_FORM)) 1 (λ q. omega (arith, R.0.least)) in
      let q : r + RULE_SIZE - RULE_SIZE ≡ r = omega arith in
      record {
        near = rw (n, q) R.1;
        behind = λ f. omega arith;
        same = rw (n, q, eq-eqb (byte_at s r) RULE_KIND R.0.kind);
        some = R.0.some_parts;
        few = R.0.few_parts;
      }

  of_citation : (t : ℕ) → t < length st.tones → Again s (citation c.accent (get_or st.tones t 0))
  unfolding listing_from
  of_citation t h =
      record {
        near = tones t;
        behind = λ f. absurd (f refl);
        same = rw (l.kept.tones t h).kind;
        some = omega arith;
        few = omega arith;
      }

  of_winner : (m : Listing) (i t : ℕ) → i < length st.accents → t < length st.tones → (w : Option Winner) → find_rule s st c i ≡ w
      → listed s st c (get_or st.tones t 0) w ≡ Some m → Again s m
  of_winner m i t hi ht (Some w) q g =
      let a = w.accent in
      let r = w.rule in
      let is : rule_listing s (number_at s (get_or st.accents a 0)) r ≡ m = cc in
      subst (Again s) is (of_rule (number_at s (get_or st.accents a 0)) r (winner_is s st c Own (λ j k h. (rule_fine s st e l j k h, rules k)) i a r hi q).1)
  of_winner m i t hi ht None q g =
      let o = get_or st.tones t 0 in
      split (eqb (byte_at s (o + TONE_KNOT_COUNT)) 0)
      (λ z. let g' = rw z at g in let n : ◌≡◌ {A = ℕ} 0 1 = cc in absurd (omega arith))
      (λ z. let g' = rw z at g in
      let is : citation c.accent o ≡ m = cc in
      subst (Again s) is (of_citation t ht))

  of_places : (m : Listing) (f g : Option ℕ) → index_of s st.accents c.accent ≡ f → index_of s st.tones c.tone ≡ g
      → look_at s st c f g ≡ Some m → Again s m
  of_places m (Some i) (Some t) a b q = of_winner m i t (index_found _ _ _ i a).inside (index_found _ _ _ t b).inside (find_rule s st c i) refl q
  of_places m None g a b q = let n : ◌≡◌ {A = ℕ} 0 1 = cc in absurd (omega arith)
  of_places m (Some i) None a b q = let n : ◌≡◌ {A = ℕ} 0 1 = cc in absurd (omega arith)

  again : (m : Listing) → look_up s st c ≡ Some m → Again s m
  unfolding look_up
  again m q = of_places m (index_of s st.accents c.accent) (index_of s st.tones c.tone) refl refl q

pub look_kept : (s : List ℕ) (st : PackRead) (e : ℕ) → read_pack s ≡ loaded st e → ((k : ℕ) → get_or st.rules k 0 < 65536) → ((k : ℕ) → get_or st.tones k 0 < 65536)
    → (c : Context) → LookKept s (look_up s st c)
look_kept s st e p rules tones c m q =
    let g = again s st e (loads s st e p) rules tones c m q in
    record { near = g.near; behind = g.behind; same = g.same; some = g.some; few = g.few; each = λ j h. listed_fine s st e p c m j q h }
