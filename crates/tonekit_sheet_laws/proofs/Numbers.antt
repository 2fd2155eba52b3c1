-- What is seen and where, and what one more lookup adds to the lists. Assumes nothing.
use Rattle.std.proofs.Common.{ℕ, zero, suc, ◌+◌, ◌≤◌, ◌<◌, max, ◌≡◌, refl, sym, ap, ◌∙◌, true, false, List, [], ◌∷◌, ◌++◌, append_assoc, append-nil, arith, ltb, length, get_or, length-append, ltb-true, ltb-false}
use mathlib.Core.Option.{Option, none, some}
use lib.ListN.{get_or-append}
use lib.Seq.{get_or-append_seam}
use Rattle.tonekit_core.proofs.Split.{split, absurd_bool}
use Rattle.spec_lookup.specs.Source.{Carried}
use Rattle.spec_sheet.specs.Number.{same, seen_in, place_in, noted, number_in}
use Rattle.tonekit_sheet.proofs.Same.{same_is, same_refl, seen_more, place_more, seen_last, place_last}

-- ---- seen, and where
pub seen_here : (l : List (List Carried)) (i : ℕ) → i < length l → seen_in (get_or l i []) l ≡ true
unfolding seen_in
seen_here [] i h = absurd (omega arith)
seen_here (x ∷ l) zero h = rw (same_refl x)
seen_here (x ∷ l) (suc i) h = split (same (get_or l i []) x) (λ e. rw e) (λ e. rw e (seen_here l i (omega arith)))

pub not_seen : (v : List Carried) (l : List (List Carried)) → seen_in v l ≡ false → (i : ℕ) → i < length l → get_or l i [] ≡ v → ⊥
not_seen v l h i b e = absurd_bool (sym h ∙ (rw e at (seen_here l i b)))

module _ (v : List Carried) where
  pub place_below : (l : List (List Carried)) → seen_in v l ≡ true → place_in v l < length l
  unfolding seen_in place_in
  place_below [] h = absurd_bool h
  place_below (x ∷ l) h = split (same v x) (λ e. rw e (omega arith)) (λ e. rw e (omega (arith, place_below l (rw e at h))))

  pub place_get : (l : List (List Carried)) → seen_in v l ≡ true → get_or l (place_in v l) [] ≡ v
  unfolding seen_in place_in
  place_get [] h = absurd_bool h
  place_get (x ∷ l) h = split (same v x) (λ e. rw e (sym (same_is v x e))) (λ e. rw e (place_get l (rw e at h)))

-- ---- lists that grow at their end
pub record Grows (l m : List (List Carried)) : Type 0 where
  pub more : List (List Carried)
  pub is : m ≡ l ++ more

pub grows_refl : (l : List (List Carried)) → Grows l l
grows_refl l = record { more = []; is = sym (append-nil l) }

pub grows_trans : (l m n : List (List Carried)) → Grows l m → Grows m n → Grows l n
grows_trans l m n g h = record { more = g.more ++ h.more; is = h.is ∙ ap (λ (x : List (List Carried)). x ++ h.more) g.is ∙ append_assoc l g.more h.more }

pub grows_seen : (v : List Carried) (l m : List (List Carried)) → Grows l m → seen_in v l ≡ true → seen_in v m ≡ true
grows_seen v l m g h = rw g.is (seen_more v l g.more h)

pub grows_place : (v : List Carried) (l m : List (List Carried)) → Grows l m → seen_in v l ≡ true → place_in v m ≡ place_in v l
grows_place v l m g h = rw g.is (place_more v l g.more h)

-- ---- one more lookup
pub noted_grows : (l : List (List Carried)) (o : Option (List Carried)) → Grows l (noted l o)
unfolding noted
noted_grows l none = grows_refl l
noted_grows l (some v) = split (seen_in v l) (λ e. rw e (grows_refl l)) (λ e. rw e (record { more = v ∷ []; is = refl }))

-- nothing noted is lost
pub noted_seen : (l : List (List Carried)) (v : List Carried) → seen_in v (noted l (some v)) ≡ true
unfolding noted
noted_seen l v = split (seen_in v l) (λ e. rw e e) (λ e. rw e (seen_last v l))

-- a number given once stays
pub noted_number : (l m : List (List Carried)) (o : Option (List Carried)) → Grows (noted l o) m → number_in m o ≡ number_in (noted l o) o
unfolding number_in
noted_number l m none g = refl
noted_number l m (some v) g = ap suc (grows_place v (noted l (some v)) m g (noted_seen l v))

-- it is at most 1 more than the count of the lists so far, and the greater of the two is the count behind it
pub noted_least : (l : List (List Carried)) (o : Option (List Carried)) → number_in (noted l o) o ≤ length l + 1
unfolding number_in noted
noted_least l none = omega arith
noted_least l (some v) =
    split (seen_in v l)
    (λ e. rw e (omega (arith, place_below v l e)))
    (λ e. rw e (omega (arith, place_last v l e)))

pub noted_most : (l : List (List Carried)) (o : Option (List Carried)) → max (length l) (number_in (noted l o) o) ≡ length (noted l o)
unfolding number_in noted
noted_most l none = omega arith
noted_most l (some v) =
    split (seen_in v l)
    (λ e. rw e (omega (arith, place_below v l e)))
    (λ e. rw (e, place_last v l e) (omega (arith, length-append l (v ∷ []))))

-- no list stands twice
abbrev pub Once : List (List Carried) → Type 0
Once l = (i j : ℕ) → i < length l → j < length l → get_or l i [] ≡ get_or l j [] → i ≡ j

once_snoc : (l : List (List Carried)) (v : List Carried) → seen_in v l ≡ false → Once l → Once (l ++ (v ∷ []))
once_snoc l v f h i j a b e =
    split (ltb i (length l))
    (λ p. let i' : i < length l = ltb-true i (length l) p in
    let x : get_or (l ++ (v ∷ [])) i [] ≡ get_or l i [] = get_or-append l (v ∷ []) [] i i' in
    split (ltb j (length l))
    (λ q. let j' : j < length l = ltb-true j (length l) q in
    h i j i' j' (sym x ∙ e ∙ get_or-append l (v ∷ []) [] j j'))
    (λ q. let k : j ≡ length l = omega (arith, ltb-false j (length l) q, length-append l (v ∷ [])) in
    absurd (not_seen v l f i i' (sym x ∙ e ∙ rw k (get_or-append_seam l v [] [])))))
    (λ p. let m : i ≡ length l = omega (arith, ltb-false i (length l) p, length-append l (v ∷ [])) in
    let x : get_or (l ++ (v ∷ [])) i [] ≡ v = rw m (get_or-append_seam l v [] []) in
    split (ltb j (length l))
    (λ q. let j' : j < length l = ltb-true j (length l) q in
    absurd (not_seen v l f j j' (sym (get_or-append l (v ∷ []) [] j j') ∙ sym e ∙ x)))
    (λ q. omega (arith, ltb-false j (length l) q, length-append l (v ∷ []))))

pub noted_once : (l : List (List Carried)) (o : Option (List Carried)) → Once l → Once (noted l o)
unfolding noted
noted_once l none h = h
noted_once l (some v) h = split (seen_in v l) (λ e. rw e h) (λ e. rw e (once_snoc l v e h))

-- what is noted is the lookup's
pub noted_from : (l : List (List Carried)) (o : Option (List Carried)) (i : ℕ) → i < length (noted l o) → length l ≤ i → o ≡ some (get_or (noted l o) i [])
unfolding noted
noted_from l none i h b = absurd (omega arith)
noted_from l (some v) i h b =
    split (seen_in v l)
    (λ e. absurd (omega (arith, rw e at h)))
    (λ e. let g : i < length (l ++ (v ∷ [])) = rw e at h in
    let k : i ≡ length l = omega (arith, length-append l (v ∷ [])) in
    rw (e, k) (ap some (sym (get_or-append_seam l v [] []))))

-- where no list stands twice, a list's place is where it stands
pub place_once : (l : List (List Carried)) → Once l → (i : ℕ) → i < length l → place_in (get_or l i []) l ≡ i
place_once l h i b =
    let s = seen_here l i b in
    h (place_in (get_or l i []) l) i (place_below (get_or l i []) l s) b (place_get (get_or l i []) l s)
