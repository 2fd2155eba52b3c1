-- What the listings of a source hold of each tone: its components' number and name, and each in its slot. Assumes nothing.
use Rattle.std.proofs.Common.{ℕ, zero, suc, ◌+◌, ◌*◌, ◌≤◌, ◌<◌, ◌≡◌, refl, Bool, true, ap, ◌∙◌, ⊎_elim, List, [], ◌∷◌, map, le_of_suc-le-suc, not-suc-le-zero, eq-or-lt_of_le, arith, ltb, lt-ltb, length, get_or, set, length-set, length-append, get_or-set_same, get_or-set_other}
use Rattle.std.specs.Float.{nan}
use Rattle.std.proofs.lemmas.List.{get_or_push}
use lib.ListN.{length-map, get_or-append}
use lib.Seq.{sets, length-sets}
use Rattle.tonekit_core.proofs.LoopLaws.{range_keeps}
use Rattle.spec_lookup.specs.Source.{Tone, Carried, Source, absent_tone}
use Rattle.spec_lookup.specs.declared.Context.{Context}
use Rattle.spec_judgement.specs.Inventory.{Listings, no_entry, entry_at, slot_at}
use Rattle.spec_judgement.specs.declared.Slot.{Slot}
use Rattle.tonekit_entries.specs.declared.ToneEntry.{ToneEntry}
use Rattle.spec_judgement.specs.Gather.{entry_of, named_of, with_tone, put_in, slotted, given_of, list_tone, listings}
use Rattle.tonekit_inventory.specs.Fields.{slot_of}
use Rattle.std.proofs.lemmas.List.{get_or-map}
use Rattle.tonekit_inventory.proofs.Going.{nothing_yet}

-- what stands past the end of the slots
abbrev no_slot : Slot
no_slot = record { weight = nan; points = [] }

-- ---- a run of entries that was set
module _ {A : Type 0} (d : A) where
  pub sets_before : (l : List A) (i : ℕ) (vs : List A) (m : ℕ) → m < i → get_or (sets l i vs) m d ≡ get_or l m d
  sets_before l i [] m h = refl
  sets_before l i (v ∷ vs) m h =
      sets_before (set l i v) (suc i) vs m (omega arith) ∙ get_or-set_other l i m v d (λ e. absurd (omega arith))

  pub sets_at : (l : List A) (i : ℕ) (vs : List A) (k : ℕ) → k < length vs → i + length vs ≤ length l → get_or (sets l i vs) (i + k) d ≡ get_or vs k d
  sets_at l i [] k h r = absurd (not-suc-le-zero h)
  sets_at l i (v ∷ vs) zero h r =
      let e : i + 0 ≡ i = omega arith in
      rw e (sets_before (set l i v) (suc i) vs i (omega arith) ∙ get_or-set_same l i v d (omega arith))
  sets_at l i (v ∷ vs) (suc k) h r =
      let e : i + suc k ≡ suc i + k = omega arith in
      rw e (sets_at (set l i v) (suc i) vs k (le_of_suc-le-suc h) (omega (arith, length-set l i v)))

-- ---- listings, of which so many tones are there
record Room (n : ℕ) (l : Listings) : Type 0 where
  entries : length l.inventory.items ≡ n
  slots : length l.slots.list ≡ 32

nothing_room : Room 0 nothing_yet
nothing_room = record { entries = refl; slots = refl }

-- tone t's entry and slots are those of its components
pub record Entered (d : Carried) (cs : List Carried) (t : ℕ) (l : Listings) : Type 0 where
  pub listing : (entry_at l.inventory t).listing ≡ named_of cs
  pub slot : (k : ℕ) → k < length cs → slot_at l.slots (4 * t + k) ≡ slot_of (get_or cs k d)

module _ (d : Carried) (t : ℕ) (last : Bool) (tone : Tone) (cs : List Carried) (l : Listings) (r : Room t l) where
  slotted_room : Room (t + 1) (slotted t last tone cs l)
  unfolding slotted with_tone put_in
  slotted_room = record {
    entries = rw length-append (omega (arith, r.entries));
    slots = length-sets l.slots.list (4 * t) (map slot_of cs) ∙ r.slots;
  }

  module _ (below : t < 8) (few : length cs ≤ 4) where
    kept : ltb (length l.inventory.items) 8 ≡ true
    kept = lt-ltb (length l.inventory.items) 8 (omega (arith, r.entries))

    its_entry : entry_at (slotted t last tone cs l).inventory t ≡ entry_of last tone (named_of cs)
    unfolding slotted with_tone
    its_entry = get_or_push l.inventory.items _ no_entry t r.entries ∙ rw kept refl

    entered_here : Entered d cs t (slotted t last tone cs l)
    unfolding slotted put_in
    entered_here = record {
      listing = ap (λ (e : ToneEntry). e.listing) its_entry;
      slot = λ k h.
          sets_at no_slot l.slots.list (4 * t) (map slot_of cs) k (omega (arith, length-map cs slot_of)) (omega (arith, length-map cs slot_of, r.slots))
          ∙ get_or-map slot_of cs k d no_slot h;
    }

  -- what was entered before stays
  module _ (u : ℕ) (ds : List Carried) (before : u < t) (few : length ds ≤ 4) (e : Entered d ds u l) where
    its_entry_before : entry_at (slotted t last tone cs l).inventory u ≡ entry_at l.inventory u
    unfolding slotted with_tone
    its_entry_before = get_or-append l.inventory.items _ no_entry u (omega (arith, r.entries))

    entered_before : Entered d ds u (slotted t last tone cs l)
    unfolding slotted put_in
    entered_before = record {
      listing = ap (λ (x : ToneEntry). x.listing) its_entry_before ∙ e.listing;
      slot = λ k h. sets_before no_slot l.slots.list (4 * t) (map slot_of cs) (4 * u + k) (omega arith) ∙ e.slot k h;
    }

-- a source whose tones have four components at most in this context
module _ (d : Carried) (src : Source) (c : Context) where
  abbrev pub components_at : ℕ → List Carried
  components_at t = given_of (src.look (record c { tone = (get_or src.tones t absent_tone).number }))

  module _ (tones_few : length src.tones ≤ 8) (few : (t : ℕ) → t < length src.tones → length (components_at t) ≤ 4) where
    record So (n : ℕ) (l : Listings) : Type 0 where
      room : Room n l
      each : (t : ℕ) → t < n → Entered d (components_at t) t l

    so_far : So (length src.tones) (listings src c)
    unfolding listings
    so_far =
        range_keeps (list_tone src c) So 0 (length src.tones) nothing_yet (omega arith)
        (λ t l h p. record {
          room = slotted_room d t c.last _ (components_at t) l p.room;
          each = λ u g. ⊎_elim
              (λ e. rw e (entered_here d t c.last _ (components_at t) l p.room (omega arith) (few t h)))
              (λ b. entered_before d t c.last _ (components_at t) l p.room u (components_at u) b (few u (omega arith)) (p.each u b))
              (eq-or-lt_of_le (let k : u ≤ t = omega arith in k));
        })
        (record { room = nothing_room; each = λ t h. absurd (not-suc-le-zero h) })

    pub listings_enter : (t : ℕ) → t < length src.tones → Entered d (components_at t) t (listings src c)
    listings_enter = so_far.each

-- ---- the listings count the source's tones
module _ (src : Source) (c : Context) where
  one_more : (t : ℕ) (last : Bool) (tone : Tone) (cs : List Carried) (l : Listings) → length (slotted t last tone cs l).inventory.items ≡ length l.inventory.items + 1
  unfolding slotted with_tone
  one_more t last tone cs l = rw length-append refl

  pub listed_tones : length (listings src c).inventory.items ≡ length src.tones
  unfolding listings
  listed_tones =
      range_keeps (list_tone src c) (λ (n : ℕ) (l : Listings). length l.inventory.items ≡ n) 0 (length src.tones) nothing_yet (omega arith)
      (λ t l h p. one_more t c.last _ _ l ∙ ap (λ (n : ℕ). n + 1) p)
      refl
