-- Marks: what one more point or component makes of one, and that lists of different marks are not the same. Assumes nothing.
use Rattle.std.proofs.Common.{ℕ, ◌+◌, ◌≤◌, ◌<◌, ◌≡◌, refl, sym, ◌∙◌, ap, false, List, [], ◌∷◌, ◌++◌, map, add-one, length, get_or, drop, drop_of_length-le, drop-cons, Float, to_bits}
use lib.Ieee.{nan, binary32}
use Rattle.tonekit_core.specs.Loop.{fold}
use Rattle.tonekit_core.proofs.Split.{split}
use Rattle.spec_lookup.specs.declared.Component.{Component}
use Rattle.spec_lookup.specs.declared.Listing.{Listing}
use Rattle.spec_lookup.specs.Lookup.{component_of}
use Rattle.spec_lookup.specs.Source.{Carried, carried, components}
use Rattle.spec_sheet.specs.Number.{same}
use Rattle.tonekit_sheet.proofs.Same.{same_is}
use Rattle.tonekit_sheet.specs.Marks.{mixed}
use Rattle.tonekit_sheet_plan.specs.Marks.{component_mark, byte_of, mark_of}

-- ---- points
abbrev pub left : List Float → ℕ → List ℕ
left a k = map (to_bits binary32) (drop k a)

module _ (a : List Float) (k m : ℕ) where
  pub point_on : k < length a → fold mixed m (left a k) ≡ fold mixed (mixed m (to_bits binary32 (get_or a k nan))) (left a (k + 1))
  unfolding fold
  point_on h = rw (drop-cons a k nan h, add-one)

  pub points_done : length a ≤ k → fold mixed m (left a k) ≡ m
  unfolding fold
  points_done h = rw (drop_of_length-le a h)

-- ---- components
fold_last : {S A : Type 0} (f : S → A → S) (s : S) (xs : List A) (x : A) → fold f s (xs ++ (x ∷ [])) ≡ f (fold f s xs) x
unfolding fold
fold_last f s [] x = refl
fold_last f s (y ∷ xs) x = fold_last f (f s y) xs x

pub component_is : (s : List ℕ) (l : Listing) (j m : ℕ) {c : Component} → c ≡ component_of s l j
    → fold mixed (mixed m (to_bits binary32 c.weight)) (map (to_bits binary32) c.points) ≡ component_mark m (carried (component_of s l j))
unfolding component_mark carried
component_is s l j m e = rw e

-- the mark after the first j components
abbrev pub after : List ℕ → Listing → ℕ → ℕ
after s l j = fold component_mark 0 (components s l j)

pub none_yet : (s : List ℕ) (l : Listing) → 0 ≡ after s l 0
unfolding components fold
none_yet s l = refl

pub one_more : (s : List ℕ) (l : Listing) (j : ℕ) {m r : ℕ} → m ≡ after s l j → r ≡ component_mark m (carried (component_of s l j)) → r ≡ after s l (j + 1)
unfolding components
one_more s l j {m} {r} e q =
    q ∙ ap (λ (x : ℕ). component_mark x (carried (component_of s l j))) e
    ∙ sym (rw add-one (fold_last component_mark 0 (components s l j) (carried (component_of s l j))))

-- ---- lists
pub marked_apart : (v x : List Carried) → (mark_of v ≡ mark_of x → ⊥) → same v x ≡ false
marked_apart v x h = split (same v x) (λ e. absurd (h (ap mark_of (same_is v x e)))) (λ e. e)

pub mark_is : (s : List ℕ) (l : Listing) (j : ℕ) {m : ℕ} → j ≡ l.count → m ≡ after s l j → byte_of m ≡ mark_of (components s l l.count)
unfolding mark_of
mark_is s l j e q = rw (q, e)
