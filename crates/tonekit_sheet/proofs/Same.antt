-- What is equal in every bit is equal, and a list is the same as itself; a list seen stays seen at its place, and a new one stands at the end. Assumes nothing.
use Prim.Native.Nat.{ℕ, suc}
use mathlib.Core.Path.{◌≡◌, refl, sym, ap, ap₂}
use mathlib.Core.Bool.{true, false}
use mathlib.Core.List.{List, [], ◌∷◌, ◌++◌}
use lib.Dec.{eqb}
use lib.ListN.{length}
use borrow.Author.Tests.{eq-eqb, eqb-true}
use Rattle.tonekit_core.proofs.Split.{split, absurd_bool, both}
use Rattle.spec_lookup.specs.Source.{Carried}
use Rattle.spec_sheet.specs.Number.{same_carried, same, seen_in, place_in, same_by}
use Rattle.tonekit_sheet.specs.Parts.{same_numbers}

numbers_is : (xs ys : List ℕ) → same_numbers xs ys ≡ true → xs ≡ ys
unfolding same_by
numbers_is [] [] h = refl
numbers_is [] (y ∷ ys) h = absurd_bool h
numbers_is (x ∷ xs) [] h = absurd_bool h
numbers_is (x ∷ xs) (y ∷ ys) h = let b = both (eqb x y) (same_numbers xs ys) h in ap₂ ◌∷◌ (eqb-true x y b.0) (numbers_is xs ys b.1)

numbers_refl : (xs : List ℕ) → same_numbers xs xs ≡ true
unfolding same_by
numbers_refl [] = refl
numbers_refl (x ∷ xs) = rw (eq-eqb x x refl) (numbers_refl xs)

pub carried_is : (a b : Carried) → same_carried a b ≡ true → a ≡ b
unfolding same_carried
carried_is a b h =
    let o = both (eqb a.owner b.owner) _ h in
    let f = both (eqb a.form b.form) _ o.1 in
    let l = both (eqb a.label b.label) _ f.1 in
    let p = both (eqb a.part b.part) _ l.1 in
    let w = both (eqb a.weight b.weight) (same_numbers a.points b.points) p.1 in
    λ i. record {
      owner = eqb-true a.owner b.owner o.0 i;
      form = eqb-true a.form b.form f.0 i;
      label = eqb-true a.label b.label l.0 i;
      part = eqb-true a.part b.part p.0 i;
      weight = eqb-true a.weight b.weight w.0 i;
      points = numbers_is a.points b.points w.1 i;
    }

pub carried_refl : (a : Carried) → same_carried a a ≡ true
unfolding same_carried
carried_refl a =
    rw (eq-eqb a.owner a.owner refl, eq-eqb a.form a.form refl, eq-eqb a.label a.label refl, eq-eqb a.part a.part refl, eq-eqb a.weight a.weight refl)
    (numbers_refl a.points)

pub same_is : (a b : List Carried) → same a b ≡ true → a ≡ b
unfolding same_by
same_is [] [] h = refl
same_is [] (y ∷ ys) h = absurd_bool h
same_is (x ∷ xs) [] h = absurd_bool h
same_is (x ∷ xs) (y ∷ ys) h = let b = both (same_carried x y) (same xs ys) h in ap₂ ◌∷◌ (carried_is x y b.0) (same_is xs ys b.1)

pub same_refl : (a : List Carried) → same a a ≡ true
unfolding same_by
same_refl [] = refl
same_refl (x ∷ xs) = rw (carried_refl x) (same_refl xs)

-- ---- lists behind the others
module _ (v : List Carried) where
  pub seen_more : (xs ys : List (List Carried)) → seen_in v xs ≡ true → seen_in v (xs ++ ys) ≡ true
  unfolding seen_in
  seen_more [] ys h = absurd_bool h
  seen_more (x ∷ xs) ys h = split (same v x) (λ e. rw e) (λ e. rw e (seen_more xs ys (rw e at h)))

  pub place_more : (xs ys : List (List Carried)) → seen_in v xs ≡ true → place_in v (xs ++ ys) ≡ place_in v xs
  unfolding seen_in place_in
  place_more [] ys h = absurd_bool h
  place_more (x ∷ xs) ys h = split (same v x) (λ e. rw e) (λ e. rw e (ap suc (place_more xs ys (rw e at h))))

  -- a new one stands at the end
  pub seen_last : (xs : List (List Carried)) → seen_in v (xs ++ (v ∷ [])) ≡ true
  unfolding seen_in
  seen_last [] = rw (same_refl v)
  seen_last (x ∷ xs) = split (same v x) (λ e. rw e) (λ e. rw e (seen_last xs))

  pub place_last : (xs : List (List Carried)) → seen_in v xs ≡ false → place_in v (xs ++ (v ∷ [])) ≡ length xs
  unfolding seen_in place_in
  place_last [] h = rw (same_refl v)
  place_last (x ∷ xs) h = split (same v x) (λ e. absurd_bool (sym (rw e at h))) (λ e. rw e (ap suc (place_last xs (rw e at h))))
