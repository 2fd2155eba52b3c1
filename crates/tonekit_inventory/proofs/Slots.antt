-- Components put into their slots one after the other: what each turn of the loop stores is one component more of the run. Assumes nothing.
use Rattle.std.proofs.Common.{ℕ, zero, suc, ◌+◌, ◌-◌, ◌*◌, ◌≤◌, ◌<◌, ◌≡◌, refl, sym, ap, ◌∙◌, List, [], ◌∷◌, ◌++◌, map, arith, add-one, length, take, drop, set, length-append, length-take-le, ap₂, Float}
use Rattle.std.proofs.lemmas.List.{set-append_left, set-append_right, take-append-drop}
use lib.ListN.{length-map}
use lib.Seq.{sets}
use Rattle.tonekit_bytes.proofs.Write.{more}
use Rattle.spec_lookup.specs.Lookup.{component_of}
use Rattle.spec_lookup.specs.Source.{Carried, carried, components}
use Rattle.spec_lookup.specs.declared.Listing.{Listing}
use Rattle.spec_judgement.specs.declared.Slot.{Slot}
use Rattle.spec_judgement.specs.declared.Slots.{Slots}
use Rattle.spec_judgement.specs.Gather.{put_in}
use Rattle.tonekit_inventory.specs.Fields.{slot_of}
use Rattle.tonekit_inventory.proofs.Floats.{weight_back, points_back}

slots_snoc : (cs : List Carried) (c : Carried) → map slot_of (cs ++ (c ∷ [])) ≡ map slot_of cs ++ (slot_of c ∷ [])
slots_snoc [] c = refl
slots_snoc (d ∷ cs) c = ap (λ (r : List Slot). slot_of d ∷ r) (slots_snoc cs c)

-- ---- n slots that are filled by themselves, and the slots about them
abbrev pub about : ℕ → ℕ → List Slot → List Slot → List Slot
about a n l own = take a l ++ (own ++ drop n (drop a l))

pub about_whole : (a n : ℕ) (l : List Slot) → about a n l (take n (drop a l)) ≡ l
about_whole a n l = ap (λ (r : List Slot). take a l ++ r) (take-append-drop n (drop a l)) ∙ take-append-drop a l

pub about_set : (a n : ℕ) (l own : List Slot) (j : ℕ) (v : Slot) → a ≤ length l → j < length own → about a n l (set own j v) ≡ set (about a n l own) (a + j) v
about_set a n l own j v h k =
    let m : a + j - a ≡ j = omega arith in
    sym (set-append_right (take a l) (own ++ drop n (drop a l)) a (a + j) v (length-take-le a l h) (omega arith)
    ∙ (ap (λ (i : ℕ). take a l ++ set (own ++ drop n (drop a l)) i v) m
    ∙ ap (λ (r : List Slot). take a l ++ r) (set-append_left own (drop n (drop a l)) j v k)))

-- ---- a run of components: `run j` is the first j, and `part j` the next
module _ (run : ℕ → List Carried) (part : ℕ → Carried) (none : run 0 ≡ []) (grows : (j : ℕ) → run (j + 1) ≡ run j ++ (part j ∷ [])) where
  run_length : (j : ℕ) → length (run j) ≡ j
  run_length zero = ap length none
  run_length (suc j) =
      let e : length (run (j + 1)) ≡ j + 1 = ap length (grows j) ∙ simp length-append (omega (arith, run_length j)) in
      rw add-one at e

  pub run_none : (t : ℕ) (s : Slots) → s ≡ put_in t (run 0) s
  unfolding put_in
  run_none t s = rw none refl

  -- turn j: one slot more
  pub run_more : (t j : ℕ) (s : Slots) {out : Slots} → out ≡ put_in t (run j) s → record { list = set out.list (4 * t + j) (slot_of (part j)) } ≡ put_in t (run (j + 1)) s
  unfolding put_in
  run_more t j s e =
      let w = ap (λ (x : Slots). x.list) e in
      ap (λ (l : List Slot). record { list = l })
      (more s.list (map slot_of (run j)) (slot_of (part j) ∷ []) (4 * t) (4 * t + j) w (omega (arith, length-map (run j) slot_of, run_length j)) refl
      ∙ ap (sets s.list (4 * t)) (sym (ap (map slot_of) (grows j) ∙ slots_snoc (run j) (part j))))

-- ---- a pack's listing
module _ (s : List ℕ) (l : Listing) where
  abbrev part : ℕ → Carried
  part j = carried (component_of s l j)

  none : components s l 0 ≡ []
  unfolding components
  none = refl

  one_more : (j : ℕ) → components s l (j + 1) ≡ components s l j ++ (part j ∷ [])
  unfolding components
  one_more j = rw add-one

  pub put_none : (t : ℕ) (s₀ : Slots) → s₀ ≡ put_in t (components s l 0) s₀
  put_none = run_none (components s l) part none one_more

  pub put_one : (t : ℕ) (s₀ : Slots) (j : ℕ) {out : Slots} → out ≡ put_in t (components s l j) s₀
      → record { list = set out.list (4 * t + j) (record { weight = (component_of s l j).weight; points = (component_of s l j).points }) } ≡ put_in t (components s l (j + 1)) s₀
  put_one t s₀ j {out} e =
      let same = ap₂ (λ (w : Float) (p : List Float). record { weight = w; points = p }) (sym (weight_back s l j)) (sym (points_back s l j)) in
      ap (λ (x : Slot). record { list = set out.list (4 * t + j) x }) same ∙ run_more (components s l) part none one_more t j s₀ e
