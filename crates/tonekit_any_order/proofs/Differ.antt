-- Lists in which no two have one number: in another order they still do, and so does a list made of them. Assumes nothing.
use Rattle.std.proofs.Common.{ℕ, suc, ◌≡◌, sym, ◌∙◌, false, List, [], ◌∷◌, map, arith, eqb, eqb-true, eq-eqb, ne_eqb}
use borrow.Author.Tests.{eqb-false}
use Rattle.std.specs.Prelude.{AllPairs, IsPermutation}
use Rattle.std.proofs.lemmas.List.Elements.{All-map}
use Rattle.std.proofs.lemmas.List.Kept.{AllPairs-cons}
use Rattle.std.proofs.lemmas.Map.Keys.{apart_from_distinct, IsDistinct-from_apart, IsDistinct-IsPermutation}
use Rattle.tonekit_core.proofs.Split.{split}

eqb_flips : (x y : ℕ) → eqb x y ≡ eqb y x
eqb_flips x y = split (eqb x y) (λ a. a ∙ sym (eq-eqb y x (sym (eqb-true x y a)))) (λ a. a ∙ sym (ne_eqb y x (λ e. eqb-false x y a (sym e))))

module _ {X : Type 0} (number : X → ℕ) where
  abbrev pub Differ : X → X → Type 0
  Differ a b = eqb (number a) (number b) ≡ false

  pub differ_in_order : (xs ys : List X) → IsPermutation xs ys → AllPairs Differ xs → AllPairs Differ ys
  differ_in_order xs ys p h =
      let e = λ (a b : X). eqb (number a) (number b) in
      let distinct = IsDistinct-IsPermutation e (λ a b. eqb_flips (number a) (number b)) xs ys p (IsDistinct-from_apart e xs h) in
      λ i j d below inside. apart_from_distinct e ys i j d distinct below inside

  pub differ_rest : (x : X) (xs : List X) → AllPairs Differ (x ∷ xs) → AllPairs Differ xs
  differ_rest x xs h i j d below inside = h (suc i) (suc j) d (omega arith) (omega arith)

  pub differ_map : {Y : Type 0} (f : Y → X) (ys : List Y) → AllPairs (λ a b. eqb (number (f a)) (number (f b)) ≡ false) ys → AllPairs Differ (map f ys)
  differ_map f [] h = λ i j d below inside. absurd (omega arith)
  differ_map f (y ∷ ys) h =
      AllPairs-cons Differ (f y) (map f ys) (All-map (Differ (f y)) f ys (λ k d inside. h 0 (suc k) d (omega arith) (omega arith)))
      (differ_map f ys (λ i j d below inside. h (suc i) (suc j) d (omega arith) (omega arith)))
