-- The loop over the tones of whatever a station holds: from each tone on the definition gives what it gives of the whole. Assumes nothing.
use Rattle.std.specs.Prelude.{Option, Some, None}
use Rattle.std.proofs.Common.{ℕ, zero, suc, ◌+◌, ◌≤◌, ◌<◌, ◌≡◌, refl, List, [], ◌∷◌, ◌++◌, length, length-append, get_or, arith, ltb, lt-ltb, true}
use Rattle.tonekit_core.specs.Loop.{range}
use Rattle.tonekit_core.proofs.LoopLaws.{again, ended}
use Rattle.spec_lookup.specs.Source.{Carried, Source, absent_tone}
use Rattle.spec_lookup.specs.declared.Context.{Context}
use Rattle.tonekit_entries.specs.declared.ToneEntry.{ToneEntry}
use Rattle.tonekit_entries.specs.declared.ToneListing.{ToneListing}
use Rattle.spec_judgement.specs.declared.Slots.{Slots}
use Rattle.spec_judgement.specs.Inventory.{Inventory, Listings, listing, no_entry, count_in}
use Rattle.tonekit_inventory.specs.Gathers.{Lists}
use Rattle.spec_judgement.specs.Gather.{entry_of, named_of, with_tone, put_in, slotted, given_of, list_tone, listings, no_slots}

-- ---- a listing's name is that of its first component
pub first_named : (cs : List Carried) (d : Carried) → 1 ≤ length cs
    → named_of cs ≡ Some (record { name = record { owner = (get_or cs 0 d).owner; form = (get_or cs 0 d).form; label = (get_or cs 0 d).label }; count = length cs })
first_named [] d h = absurd (omega arith)
first_named (c ∷ cs) d h = refl

-- ---- an entry of a list that was made of another

-- before any tone
abbrev pub nothing_yet : Listings
nothing_yet = listing (record { items = [] }) no_slots

-- ---- the loop over n tones
abbrev count_of : List ToneEntry → ℕ → ℕ
count_of l k = count_in (get_or l k no_entry).listing

push_few : (l : List ToneEntry) (e : ToneEntry) → ((k : ℕ) → count_of l k ≤ 4) → count_in e.listing ≤ 4 → (k : ℕ) → count_of (l ++ (e ∷ [])) k ≤ 4
push_few [] e h q zero = q
push_few [] e h q (suc k) = omega arith
push_few (x ∷ xs) e h q zero = h zero
push_few (x ∷ xs) e h q (suc k) = push_few xs e (λ j. h (suc j)) q k

-- from tone t on the definition gives what it gives of the whole
pub record Going (src : Source) (n : ℕ) (c : Context) (s : Slots) (i : Inventory) (t : ℕ) : Type 0 where
  pub inside : t ≤ n
  pub many : length i.items ≡ t
  pub few : (k : ℕ) → count_of i.items k ≤ 4
  pub same : range (list_tone src c) t n (listing i s) ≡ listings src c

module _ (src : Source) (n : ℕ) (c : Context) where
  pub going_starts : n ≡ length src.tones → (s : Slots) → s ≡ no_slots → (i : Inventory) → i.items ≡ [] → Going src n c s i 0
  unfolding listings
  going_starts e s es i ei = record {
    inside = omega arith;
    many = rw ei;
    few = λ k. rw ei (omega arith);
    same = rw (es, ei, e);
  }

  module _ (s : Slots) (i : Inventory) (t : ℕ) (g : Going src n c s i t) where
    pub going_ends : n ≤ t → n ≤ 8 → Lists src c i s
    going_ends h few_tones = record { is = ended (list_tone src c) g.same h; counted = record { few = omega (arith, g.many, g.inside, few_tones); each = λ k l. g.few k } }

    -- the tone as it was read, what was put for it, the inventory with both, and the slots after
    module _ (h : t < n) (few_tones : n ≤ 8) (e : ToneEntry) (tone : e ≡ entry_of c.last (get_or src.tones t absent_tone) None)
        (l : Option ToneListing) (named : l ≡ named_of (given_of (src.look (record c { tone = e.number })))) (few : count_in l ≤ 4)
        (i' : Inventory) (pushed : i'.items ≡ i.items ++ (record { number = e.number; prior = e.prior; region = e.region; tail = e.tail; listing = l } ∷ []))
        (s' : Slots) (put : s' ≡ put_in t (given_of (src.look (record c { tone = e.number }))) s) where
      kept : ltb (length i.items) 8 ≡ true
      kept = lt-ltb (length i.items) 8 (omega (arith, g.many))

      turned : list_tone src c t (listing i s) ≡ listing i' s'
      unfolding slotted with_tone
      turned = rw (put, pushed, named, tone, kept)

      pub going_on : Going src n c s' i' (t + 1)
      going_on = record {
        inside = omega arith;
        many = rw (pushed, length-append) (omega (arith, g.many));
        few = λ k. rw pushed (push_few i.items _ g.few few k);
        same = again (list_tone src c) g.same h turned;
      }
