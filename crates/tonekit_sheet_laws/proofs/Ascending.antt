-- The accents of a sheet: those held, each once, ascending by number, and no more than are held. Assumes nothing.
use Rattle.std.proofs.Common.{ℕ, zero, suc, ◌+◌, ◌≤◌, ◌<◌, ◌≡◌, refl, sym, ap, ◌∙◌, ◌⊎◌, inl, inr, ⊎_elim, List, [], ◌∷◌, arith, eqb, ltb, length, get_or, eq-eqb, ne_eqb, eqb-true, ltb-true, ltb-false}
use mathlib.Core.Option.{Option, none, some}
use borrow.Author.Tests.{eqb-false}
use Rattle.tonekit_core.proofs.Split.{split}
use Rattle.spec_lookup.specs.Source.{Accent, accent_in}
use Rattle.spec_sheet.specs.Sheet.{or_skip, asc_from, ascending, absent_accent}

pub by_option : {A : Type 0} {P : Type 0} (o : Option A) → (o ≡ none → P) → ((a : A) → o ≡ some a → P) → P
by_option none f g = f refl
by_option (some a) f g = g a refl

-- ---- the accent of a number is one of those held, and has the number
pub record At (accents : List Accent) (n : ℕ) (a : Accent) : Type 0 where
  pub place : ℕ
  pub there : place < length accents
  pub same : get_or accents place absent_accent ≡ a
  pub number : a.number ≡ n

pub accent_at_lem : (accents : List Accent) (n : ℕ) (a : Accent) → accent_in accents n ≡ some a → At accents n a
unfolding accent_in
accent_at_lem [] n a h = absurd cc
accent_at_lem (x ∷ more) n a h =
    split (eqb x.number n)
    (λ e. let q : x ≡ a = let g = rw e at h in cc in
    record { place = 0; there = omega arith; same = q; number = rw (← q) (eqb-true x.number n e) })
    (λ e. let r = accent_at_lem more n a (rw e at h) in
    record { place = suc r.place; there = omega (arith, r.there); same = r.same; number = r.number })

-- a number that one of them has is found
pub accent_found : (accents : List Accent) (i : ℕ) → i < length accents → (a : Accent) × (accent_in accents (get_or accents i absent_accent).number ≡ some a)
unfolding accent_in
accent_found [] i h = absurd (omega arith)
accent_found (x ∷ more) zero h = (x, rw (eq-eqb x.number x.number refl))
accent_found (x ∷ more) (suc i) h =
    split (eqb x.number (get_or more i absent_accent).number)
    (λ e. (x, rw e))
    (λ e. let r = accent_found more i (omega arith) in (r.0, rw e r.1))

-- one that none of them has is not
pub accent_none : (accents : List Accent) (n : ℕ) → ((i : ℕ) → i < length accents → (get_or accents i absent_accent).number ≡ n → ⊥) → accent_in accents n ≡ none
accent_none accents n h =
    by_option (accent_in accents n) (λ e. e)
    (λ a e. let r = accent_at_lem accents n a e in absurd (h r.place r.there (rw r.same r.number)))

-- ---- those from n on, k numbers
module _ (accents : List Accent) where
  pub record Within (n k : ℕ) (a : Accent) : Type 0 where
    pub least : n ≤ a.number
    pub most : a.number < n + k
    pub held : accent_in accents a.number ≡ some a

  wider : (n k : ℕ) (a : Accent) → Within (suc n) k a → Within n (suc k) a
  wider n k a w = record { least = omega (arith, w.least); most = omega (arith, w.most); held = w.held }

  here : (n k : ℕ) (a : Accent) → accent_in accents n ≡ some a → Within n (suc k) a
  here n k a e =
      let q : a.number ≡ n = (accent_at_lem accents n a e).number in
      record { least = omega arith; most = omega arith; held = ap (accent_in accents) q ∙ e }

  skipped : (n k : ℕ) (o : Option Accent) (rest : List Accent) → accent_in accents n ≡ o → ((i : ℕ) → i < length rest → Within (suc n) k (get_or rest i absent_accent))
      → (i : ℕ) → i < length (or_skip o rest) → Within n (suc k) (get_or (or_skip o rest) i absent_accent)
  skipped n k none rest e h i l = wider n k _ (h i l)
  skipped n k (some a) rest e h zero l = here n k a e
  skipped n k (some a) rest e h (suc i) l = wider n k _ (h i (omega arith))

  pub asc_within : (k n i : ℕ) → i < length (asc_from k n accents) → Within n k (get_or (asc_from k n accents) i absent_accent)
  unfolding asc_from
  asc_within zero n i h = absurd (omega arith)
  asc_within (suc k) n i h = skipped n k (accent_in accents n) (asc_from k (suc n) accents) refl (asc_within k (suc n)) i h

  -- each above the one before it
  abbrev Rising : List Accent → Type 0
  Rising l = (i j : ℕ) → i < j → j < length l → (get_or l i absent_accent).number < (get_or l j absent_accent).number

  rising_skip : (n k : ℕ) (o : Option Accent) (rest : List Accent) → accent_in accents n ≡ o → ((i : ℕ) → i < length rest → Within (suc n) k (get_or rest i absent_accent))
      → Rising rest → Rising (or_skip o rest)
  rising_skip n k none rest e w r i j a b = r i j a b
  rising_skip n k (some x) rest e w r zero zero a b = absurd (omega arith)
  rising_skip n k (some x) rest e w r zero (suc j) a b = omega (arith, (accent_at_lem accents n x e).number, (w j (omega arith)).least)
  rising_skip n k (some x) rest e w r (suc i) zero a b = absurd (omega arith)
  rising_skip n k (some x) rest e w r (suc i) (suc j) a b = r i j (omega arith) (omega arith)

  asc_rising : (k n : ℕ) → Rising (asc_from k n accents)
  unfolding asc_from
  asc_rising zero n i j a b = absurd (omega arith)
  asc_rising (suc k) n i j a b = rising_skip n k (accent_in accents n) (asc_from k (suc n) accents) refl (asc_within k (suc n)) (asc_rising k (suc n)) i j a b

  -- a number in the range is found among them as among all
  found_skip : (n k m : ℕ) (o : Option Accent) (rest : List Accent) → accent_in accents n ≡ o → n ≤ m → m < n + suc k
      → (n < m → accent_in rest m ≡ accent_in accents m) → (m ≡ n → accent_in rest m ≡ none) → accent_in (or_skip o rest) m ≡ accent_in accents m
  unfolding accent_in
  found_skip n k m none rest e a b f g =
      split (eqb m n)
      (λ t. let q : m ≡ n = eqb-true m n t in g q ∙ sym e ∙ ap (accent_in accents) (sym q))
      (λ t. let ne : m ≡ n → ⊥ = eqb-false m n t in f (omega arith))
  found_skip n k m (some x) rest e a b f g =
      let i : x.number ≡ n = (accent_at_lem accents n x e).number in
      split (eqb x.number m)
      (λ t. let q : m ≡ n = omega (arith, eqb-true x.number m t) in rw (t, q) (sym e))
      (λ t. let ne : x.number ≡ m → ⊥ = eqb-false x.number m t in rw t (f (omega arith)))

  asc_below : (k n m : ℕ) → m < n → accent_in (asc_from k n accents) m ≡ none
  asc_below k n m h = accent_none (asc_from k n accents) m (λ i l e. omega (arith, (asc_within k n i l).least))

  pub asc_found : (k n m : ℕ) → n ≤ m → m < n + k → accent_in (asc_from k n accents) m ≡ accent_in accents m
  unfolding asc_from
  asc_found zero n m a b = absurd (omega arith)
  asc_found (suc k) n m a b =
      found_skip n k m (accent_in accents n) (asc_from k (suc n) accents) refl a b
      (λ l. asc_found k (suc n) m (omega arith) (omega arith))
      (λ q. asc_below k (suc n) m (omega arith))

-- ---- there are no more than are held
past : (a : Accent) (more : List Accent) (k n : ℕ) → a.number < n → asc_from k n (a ∷ more) ≡ asc_from k n more
unfolding asc_from accent_in
past a more zero n h = refl
past a more (suc k) n h = rw (ne_eqb a.number n (λ e. omega arith), past a more k (suc n) (omega arith))

skip_length : (o : Option Accent) (l m : List Accent) → length l ≤ 1 + length m → length (or_skip o l) ≤ 1 + length (or_skip o m)
skip_length none l m h = h
skip_length (some a) l m h = omega arith

skip_less : (o : Option Accent) (m : List Accent) → length m ≤ length (or_skip o m)
skip_less none m = omega arith
skip_less (some a) m = omega arith

one_more : (a : Accent) (more : List Accent) (k n : ℕ) → length (asc_from k n (a ∷ more)) ≤ 1 + length (asc_from k n more)
unfolding asc_from accent_in
one_more a more zero n = omega arith
one_more a more (suc k) n =
    split (eqb a.number n)
    (λ e. rw (e, past a more k (suc n) (omega (arith, eqb-true a.number n e))) (omega (arith, skip_less (accent_in more n) (asc_from k (suc n) more))))
    (λ e. rw e (skip_length (accent_in more n) (asc_from k (suc n) (a ∷ more)) (asc_from k (suc n) more) (one_more a more k (suc n))))

pub asc_none : (k n : ℕ) → asc_from k n [] ≡ []
unfolding asc_from accent_in
asc_none zero n = refl
asc_none (suc k) n = asc_none k (suc n)

asc_few : (accents : List Accent) (k n : ℕ) → length (asc_from k n accents) ≤ length accents
asc_few [] k n = omega (arith, ap length (asc_none k n))
asc_few (a ∷ more) k n = omega (arith, one_more a more k n, asc_few more k n)

-- ---- all of them
module _ (accents : List Accent) where
  pub ascending_rising : (i j : ℕ) → i < j → j < length (ascending accents) → (get_or (ascending accents) i absent_accent).number < (get_or (ascending accents) j absent_accent).number
  unfolding ascending
  ascending_rising = asc_rising accents 255 1

  pub ascending_few : length (ascending accents) ≤ length accents
  unfolding ascending
  ascending_few = asc_few accents 255 1

  -- each is held
  pub ascending_held : (i : ℕ) → i < length (ascending accents) → accent_in accents (get_or (ascending accents) i absent_accent).number ≡ some (get_or (ascending accents) i absent_accent)
  unfolding ascending
  ascending_held i h = (asc_within accents 255 1 i h).held

  -- where every number is one from 1 to 255, each number finds what it finds among those held
  pub ascending_same : ((i : ℕ) → i < length accents → (1 ≤ (get_or accents i absent_accent).number) × ((get_or accents i absent_accent).number < 256))
      → (n : ℕ) → accent_in (ascending accents) n ≡ accent_in accents n
  unfolding ascending
  ascending_same f n =
      let out : (n < 1) ⊎ (256 ≤ n) → accent_in (asc_from 255 1 accents) n ≡ accent_in accents n = λ x.
      accent_none (asc_from 255 1 accents) n (λ i l e. ⊎_elim (λ y. omega (arith, (asc_within accents 255 1 i l).least)) (λ y. omega (arith, (asc_within accents 255 1 i l).most)) x)
      ∙ sym (accent_none accents n (λ i l e. ⊎_elim (λ y. omega (arith, f i l)) (λ y. omega (arith, f i l)) x)) in
      split (ltb n 1)
      (λ t. out (inl (ltb-true n 1 t)))
      (λ t. split (ltb n 256)
      (λ u. asc_found accents 255 1 n (ltb-false n 1 t) (omega (arith, ltb-true n 256 u)))
      (λ u. out (inr (ltb-false n 256 u))))
