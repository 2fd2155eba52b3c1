-- Whether a number is held, looked for from the front of the list of offsets, and whether each parent is. Assumes nothing.
use Rattle.std.specs.Prelude.{Option, Some, None}
use Rattle.std.proofs.Common.{is_some, refl, sym, ◌∙◌, ap, ℕ, zero, suc, ◌+◌, ◌≤◌, ◌<◌, ◌≡◌, ◌⊎◌, inl, inr, Bool, true, false, List, [], ◌∷◌, arith, add-one, eqb-true, eqb, length, get_or, take, drop, length-take-le, get_or-take, drop_of_length-le, drop-cons}
use borrow.Author.Tests.{eqb-false}
use Rattle.tonekit_core.specs.declared.layout.TheConstants.{ACCENT_PARENT}
use Rattle.spec_arithmetic.specs.Fields.{byte_at}
use Rattle.spec_arithmetic.specs.Places.{number_at, index_of}
use Rattle.tonekit_bytes.proofs.Searched.{pick, searched}
use Rattle.spec_pack.specs.Pack.{holds, zero_or_held, parents_held}
use Rattle.tonekit_core.proofs.Split.{split, absurd_bool, either, neither, both, or_cond}

found : (os : List ℕ) (f : Option ℕ) → pick (λ o. true) false os f ≡ is_some f
found os (Some i) = refl
found os None = refl

-- what the search by number finds is held, and else it is not
pub holds_found : (s os : List ℕ) (x : ℕ) → holds s os x ≡ is_some (index_of s os x)
unfolding holds
holds_found s os x =
    searched s x (λ o. true) false (λ l. holds s l x) refl (λ o l. or_cond (eqb (number_at s o) x) (holds s l x)) os
    ∙ found os (index_of s os x)

-- and what is not held is not found
none_is : (f : Option ℕ) → (is_some f ≡ true → ⊥) → f ≡ None
none_is None h = refl
none_is (Some i) h = absurd (h refl)

unfound : (s os : List ℕ) (x : ℕ) → (holds s os x ≡ true → ⊥) → index_of s os x ≡ None
unfound s os x h = none_is (index_of s os x) (λ e. h (holds_found s os x ∙ e))

-- a number that is held is that of one of the records, and one that is not is none's
pub held_at : (s os : List ℕ) (x : ℕ) → holds s os x ≡ true → (j : ℕ) × (j < length os) × (number_at s (get_or os j 0) ≡ x)
unfolding holds
held_at s [] x h = absurd_bool h
held_at s (o ∷ os) x h =
    either (eqb (number_at s o) x) (holds s os x) h
    (λ q. (0, omega arith, eqb-true (number_at s o) x q))
    (λ q. let t = held_at s os x q in (suc t.0, omega (arith, t.1), t.2))

pub not_held : (s os : List ℕ) (x : ℕ) → holds s os x ≡ false → (j : ℕ) → j < length os → number_at s (get_or os j 0) ≡ x → ⊥
unfolding holds
not_held s [] x h j l e = omega arith
not_held s (o ∷ os) x h zero l e = eqb-false (number_at s o) x (neither (eqb (number_at s o) x) (holds s os x) h).0 e
not_held s (o ∷ os) x h (suc j) l e = not_held s os x (neither (eqb (number_at s o) x) (holds s os x) h).1 j (omega arith) e

pub zero_or_at : (s os : List ℕ) (x : ℕ) → zero_or_held s os x ≡ true → (x ≡ 0) ⊎ ((j : ℕ) × (j < length os) × (number_at s (get_or os j 0) ≡ x))
unfolding zero_or_held
zero_or_at s os x h = either (eqb x 0) (holds s os x) h (λ q. inl (eqb-true x 0 q)) (λ q. inr (held_at s os x q))

-- among the records before the i-th
pub none_before : (s os : List ℕ) (x i : ℕ) → i ≤ length os → holds s (take i os) x ≡ false → (j : ℕ) → j < i → number_at s (get_or os j 0) ≡ x → ⊥
none_before s os x i l h j b e = not_held s (take i os) x h j (omega (arith, length-take-le i os l)) (rw (get_or-take i os j 0 b) e)

-- where each names 0 or one of the accents, so does the i-th
pub parent_held : (s accents os : List ℕ) → parents_held s accents os ≡ true → (i : ℕ) → i < length os → zero_or_held s accents (byte_at s (get_or os i 0 + ACCENT_PARENT)) ≡ true
unfolding parents_held
parent_held s accents [] h i l = absurd (omega arith)
parent_held s accents (o ∷ os) h zero l = (both (zero_or_held s accents (byte_at s (o + ACCENT_PARENT))) (parents_held s accents os) h).0
parent_held s accents (o ∷ os) h (suc i) l =
    parent_held s accents os (both (zero_or_held s accents (byte_at s (o + ACCENT_PARENT))) (parents_held s accents os) h).1 i (omega arith)

-- the search for 0 finds none where no number is 0, and of what is 0 or held it finds nothing but 0
pub zero_unfound : (s os : List ℕ) → ((j : ℕ) → j < length os → 1 ≤ number_at s (get_or os j 0)) → index_of s os 0 ≡ None
zero_unfound s os some = unfound s os 0 (λ h. let t = held_at s os 0 h in omega (arith, some t.0 t.1, t.2))

pub unfound_zero : (s os : List ℕ) (x : ℕ) → zero_or_held s os x ≡ true → index_of s os x ≡ None → x ≡ 0
unfolding zero_or_held
unfound_zero s os x h e =
    either (eqb x 0) (holds s os x) h (λ q. eqb-true x 0 q) (λ q. absurd_bool (sym (holds_found s os x ∙ ap is_some e) ∙ q))

-- 0 is "0 or held", and of another number what the search for it finds says whether it is
pub zero_there : (s os : List ℕ) (x : ℕ) → x ≡ 0 → zero_or_held s os x ≡ true
unfolding zero_or_held
zero_there s os x e = rw e

module _ (s os : List ℕ) (x : ℕ) (f : Option ℕ) (found : f ≡ index_of s os x) where
  pub found_there : is_some f ≡ true → zero_or_held s os x ≡ true
  unfolding zero_or_held
  found_there h = rw (holds_found s os x ∙ ap is_some (sym found) ∙ h) (split (eqb x 0) (λ t. rw t) (λ t. rw t))

  pub not_there : is_some f ≡ false → (x ≡ 0 → ⊥) → zero_or_held s os x ≡ false
  unfolding zero_or_held
  not_there h z = rw (holds_found s os x ∙ ap is_some (sym found) ∙ h) (split (eqb x 0) (λ t. absurd (z (eqb-true x 0 t))) (λ t. rw t))

-- the loop over the parents: from accent i on, those that are left give what all give
module _ (s accents os : List ℕ) {i : ℕ} {z : Bool} (left : parents_held s accents (drop i os) ≡ z) where
  pub parents_on : i < length os → zero_or_held s accents (byte_at s (get_or os i 0 + ACCENT_PARENT)) ≡ true → parents_held s accents (drop (i + 1) os) ≡ z
  unfolding parents_held
  parents_on l h = rw add-one (rw (drop-cons os i 0 l, h) at left)

  pub parents_stop : i < length os → zero_or_held s accents (byte_at s (get_or os i 0 + ACCENT_PARENT)) ≡ false → false ≡ z
  unfolding parents_held
  parents_stop l h = rw (drop-cons os i 0 l, h) at left

  pub parents_done : length os ≤ i → true ≡ z
  unfolding parents_held
  parents_done l = rw (drop_of_length-le os {i = i} l) at left
