-- A judgement depends on nothing but settings, tones, the graded accent's tolerances and the inventory's listings. Assumes nothing.
use Rattle.std.proofs.Common.{ℕ, ◌<◌, ◌≡◌, refl, sym, ◌∙◌, ap, ◌⊎◌, inl, inr, Bool, true, false, ◌||◌, List, arith, eqb, ltb, eqb-true, length, get_or}
use mathlib.Core.Option.{Option, none, some}
use Rattle.tonekit_core.specs.Loop.{range}
use Rattle.tonekit_core.proofs.LoopLaws.{range_same}
use Rattle.spec_query.specs.Query.{load_query, frames_of}
use Rattle.spec_query.specs.declared.Query.{Query}
use Rattle.std.specs.Prelude.{Some, None, Result, Ok, Err}
use Rattle.tonekit_core.specs.declared.Rejection.{Rejection}
use Rattle.spec_judgement.specs.declared.Tolerance.{Tolerance}
use Rattle.tonekit_core.proofs.Split.{split}
use Rattle.spec_lookup.specs.Source.{Tone, Accent, Carried, Source, accent_in, tone_in, absent_tone}
use Rattle.spec_lookup.specs.declared.Context.{Context}
use Rattle.spec_shape.specs.Extract.{extent_of}
use Rattle.spec_sheet.specs.Agree.{Held, Agree}
use Rattle.spec_judgement.specs.Inventory.{Listings}
use Rattle.spec_judgement.specs.Gather.{Gathering, given_of, slotted, list_tone, listings, graded_of, gathered}
use Rattle.tonekit_inventory.specs.Fields.{tolerance_of}
use Rattle.tonekit_inventory.proofs.Going.{nothing_yet}
use Rattle.spec_judgement.specs.Judgement.{query_verdict, judge_gathered, on_query, judgement}
use Rattle.tonekit_station.specs.Asks.{context_of}
use Rattle.tonekit_expect.proofs.Held.{tone_found}

-- nothing stood before, or a held tone
prev_held : (ts : List Tone) (n : ℕ) → (eqb n 0 || tone_in ts n) ≡ true → (n ≡ 0) ⊎ (tone_in ts n ≡ true)
prev_held ts n h = split (eqb n 0) (λ e. inl (eqb-true n 0 e)) (λ e. inr (rw e at h))

-- where the accent is not held, or what stood before, the listings do not count
module _ (g h : Gathering) (s : List ℕ) (q : Query) where
  unheld : g.tolerance ≡ None → h.tolerance ≡ None → judge_gathered g s q ≡ judge_gathered h s q
  unfolding judge_gathered query_verdict
  unheld x y =
      split (ltb (extent_of (frames_of s q) q.count q.start q.end).count 3)
      (λ t. rw t)
      (λ f. rw (f, x, y))

  unheld_prev : (t : Tolerance) → g.tolerance ≡ Some t → h.tolerance ≡ Some t → g.prev ≡ false → h.prev ≡ false → judge_gathered g s q ≡ judge_gathered h s q
  unfolding judge_gathered query_verdict
  unheld_prev t x y u v =
      split (ltb (extent_of (frames_of s q) q.count q.start q.end).count 3)
      (λ t. rw t)
      (λ f. rw (f, x, y, u, v))

-- what is gathered of accent and previous tone
module _ (src : Source) (c : Context) where
  accent_is : (x : Option Accent) → accent_in src.accents c.accent ≡ x → (gathered src c).tolerance ≡ graded_of x
  unfolding gathered
  accent_is x e = rw e

  prev_is : (b : Bool) → (eqb c.prev 0 || tone_in src.tones c.prev) ≡ b → (gathered src c).prev ≡ b
  unfolding gathered
  prev_is b e = rw e

module _ (a b : Source) (agree : Agree a b) where
  -- what a context gathers
  module _ (c : Context) (x : Accent) (accent : accent_in a.accents c.accent ≡ some x) (prev : (eqb c.prev 0 || tone_in a.tones c.prev) ≡ true) where
    turn_same : (t : ℕ) (l : Listings) → t < length a.tones → list_tone a c t l ≡ list_tone b c t l
    turn_same t l h =
        let tone = get_or a.tones t absent_tone in
        let asks : Held a (record c { tone = tone.number }) = record { accent = (x, accent); tone = tone_found a.tones t absent_tone h; prev = prev_held a.tones c.prev prev } in
        rw (← agree.tones) (ap (λ (k : Option (List Carried)). slotted t c.last tone (given_of k) l) (agree.lookups (record c { tone = tone.number }) asks))

    listings_same : listings a c ≡ listings b c
    unfolding listings
    listings_same =
        range_same (list_tone a c) (list_tone b c) 0 (length a.tones) nothing_yet (omega arith) turn_same
        ∙ ap (λ (n : ℕ). range (list_tone b c) 0 n nothing_yet) (ap length agree.tones)

    gathers_same : gathered a c ≡ gathered b c
    unfolding gathered
    gathers_same = rw (listings_same, agree.accents c.accent, agree.settings, agree.tones)

  prev_same : (c : Context) → (eqb c.prev 0 || tone_in a.tones c.prev) ≡ (eqb c.prev 0 || tone_in b.tones c.prev)
  prev_same c = rw agree.tones

  -- a query that loads
  judged_same : (s : List ℕ) (q : Query) → (x : Option Accent) → accent_in a.accents q.accent ≡ x
      → judge_gathered (gathered a (context_of q)) s q ≡ judge_gathered (gathered b (context_of q)) s q
  judged_same s q none h =
      unheld (gathered a (context_of q)) (gathered b (context_of q)) s q (accent_is a (context_of q) none h) (accent_is b (context_of q) none (sym (agree.accents q.accent) ∙ h))
  judged_same s q (some x) h =
      let c = context_of q in
      split (eqb q.prev 0 || tone_in a.tones q.prev)
      (λ t. ap (λ (g : Gathering). judge_gathered g s q) (gathers_same c x h t))
      (λ f. unheld_prev (gathered a c) (gathered b c) s q (tolerance_of x) (accent_is a c (some x) h) (accent_is b c (some x) (sym (agree.accents q.accent) ∙ h)) (prev_is a c false f) (prev_is b c false (sym (prev_same c) ∙ f)))

  read_same : (s : List ℕ) (r : Result Query Rejection) → load_query s ≡ r → on_query a s r ≡ on_query b s r
  read_same s (Err r) e = refl
  read_same s (Ok q) e = judged_same s q (accent_in a.accents q.accent) refl

  pub judgement_same : (s : List ℕ) → judgement a s ≡ judgement b s
  unfolding judgement
  judgement_same s = read_same s (load_query s) refl
