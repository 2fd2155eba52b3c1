-- Lists of curves that are the same in every bit, compared step by step. Assumes nothing.
use Rattle.std.proofs.Common.{ℕ, zero, suc, ◌+◌, ◌-◌, ◌<◌, ◌≡◌, refl, sym, ◌∙◌, ap, Bool, true, false, not, cond, ◌&&◌, List, [], ◌∷◌, ◌++◌, map, arith, add-one, eqb, length, Float, to_bits, eq-eqb, ne_eqb, eqb-true}
use lib.Ieee.{binary32}
use Rattle.tonekit_core.proofs.Split.{split, both}
use Rattle.spec_lookup.specs.declared.Component.{Component}
use Rattle.spec_lookup.specs.declared.Listing.{Listing}
use Rattle.spec_lookup.specs.Lookup.{component_of}
use Rattle.spec_lookup.specs.Source.{Carried, carried, components}
use Rattle.tonekit_expect.proofs.Carried.{named, part_number, components_length, component_ten}
use Rattle.spec_sheet.specs.Number.{same_carried, same, same_by}
use Rattle.tonekit_sheet.specs.Parts.{same_numbers}

-- ---- points
abbrev pub bits : List Float → List ℕ
bits xs = map (to_bits binary32) xs

module _ (x y : Float) (xs ys : List Float) where
  pub points_on : to_bits binary32 x ≡ to_bits binary32 y → same_numbers (bits xs) (bits ys) ≡ same_numbers (bits (x ∷ xs)) (bits (y ∷ ys))
  unfolding same_by
  points_on e = rw (eq-eqb (to_bits binary32 x) (to_bits binary32 y) e)

  pub points_off : (to_bits binary32 x ≡ to_bits binary32 y → ⊥) → false ≡ same_numbers (bits (x ∷ xs)) (bits (y ∷ ys))
  unfolding same_by
  points_off e = rw (ne_eqb (to_bits binary32 x) (to_bits binary32 y) e)

-- where none is left
pub points_done : (xs ys : List Float) → length xs ≡ 0 → length ys ≡ 0 → true ≡ same_numbers (bits xs) (bits ys)
unfolding same_by
points_done [] [] e n = refl
points_done [] (y ∷ ys) e n = absurd (omega arith)
points_done (x ∷ xs) [] e n = absurd (omega arith)
points_done (x ∷ xs) (y ∷ ys) e n = absurd (omega arith)

-- ---- components
and_false : (b : Bool) → (b && false) ≡ false
and_false true = refl
and_false false = refl

module _ (s : List ℕ) (a : Listing) (r : List ℕ) (b : Listing) (j : ℕ) where
  abbrev pub same_name : Bool
  same_name = eqb a.name.owner b.name.owner && (eqb a.name.form b.name.form && eqb a.name.label b.name.label)

  abbrev one : Carried
  one = carried (component_of s a j)

  abbrev two : Carried
  two = carried (component_of r b j)

  abbrev rest : Bool
  rest = eqb one.weight two.weight && same_numbers one.points two.points

  behind_names : same_carried one two ≡ (eqb a.name.owner b.name.owner && (eqb a.name.form b.name.form && (eqb a.name.label b.name.label && (eqb one.part two.part && rest))))
  unfolding same_carried
  behind_names =
      rw ((named s a j).owner, (named r b j).owner, (named s a j).form, (named r b j).form, (named s a j).label, (named r b j).label)

  pub names_differ : true ≡ not same_name → false ≡ same_carried one two
  names_differ e = sym (behind_names ∙ off (eqb a.name.owner b.name.owner) (eqb a.name.form b.name.form) (eqb a.name.label b.name.label) (eqb one.part two.part && rest) e)
    where
      off : (x y z w : Bool) → true ≡ not (x && (y && z)) → (x && (y && (z && w))) ≡ false
      off true true true w e = absurd (cc)
      off true true false w e = refl
      off true false z w e = refl
      off false y z w e = refl

  pub names_agree : false ≡ not same_name → same_carried one two ≡ rest
  names_agree e =
      let p = both (eqb a.name.owner b.name.owner) (eqb a.name.form b.name.form && eqb a.name.label b.name.label) (on same_name e) in
      let q = both (eqb a.name.form b.name.form) (eqb a.name.label b.name.label) p.1 in
      let f : a.name.form ≡ b.name.form = eqb-true a.name.form b.name.form q.0 in
      let n : one.part ≡ two.part = part_number s a j ∙ ap (λ (x : ℕ). cond (eqb x 3) j 0) f ∙ sym (part_number r b j) in
      behind_names ∙ rw (p.0, q.0, q.1, eq-eqb one.part two.part n)
    where
      on : (b : Bool) → false ≡ not b → b ≡ true
      on true e = refl
      on false e = absurd (cc)

-- ---- lists
same_snoc : (xs ys : List Carried) (x y : Carried) → length xs ≡ length ys → same (xs ++ (x ∷ [])) (ys ++ (y ∷ [])) ≡ (same xs ys && same_carried x y)
unfolding same_by
same_snoc [] [] x y e = last (same_carried x y)
  where
    last : (b : Bool) → (b && true) ≡ b
    last true = refl
    last false = refl
same_snoc [] (v ∷ ys) x y e = absurd (omega arith)
same_snoc (u ∷ xs) [] x y e = absurd (omega arith)
same_snoc (u ∷ xs) (v ∷ ys) x y e =
    split (same_carried u v) (λ t. rw t (same_snoc xs ys x y (omega arith))) (λ t. rw t)

unequal : (xs ys : List Carried) → (length xs ≡ length ys → ⊥) → same xs ys ≡ false
unfolding same_by
unequal [] [] h = absurd (h refl)
unequal [] (y ∷ ys) h = refl
unequal (x ∷ xs) [] h = refl
unequal (x ∷ xs) (y ∷ ys) h = rw (unequal xs ys (λ e. h (ap suc e))) (and_false (same_carried x y))

module _ (s : List ℕ) (a : Listing) (r : List ℕ) (b : Listing) where
  abbrev pub same_first : ℕ → Bool
  same_first n = same (components s a n) (components r b n)

  first_more : (n : ℕ) → same_first (suc n) ≡ (same_first n && same_carried (carried (component_of s a n)) (carried (component_of r b n)))
  unfolding components
  first_more n =
      same_snoc (components s a n) (components r b n) (carried (component_of s a n)) (carried (component_of r b n)) (components_length s a n ∙ sym (components_length r b n))

  pub counts_differ : (a.count ≡ b.count → ⊥) → false ≡ same (components s a a.count) (components r b b.count)
  counts_differ h =
      sym (unequal (components s a a.count) (components r b b.count) (λ e. h (sym (components_length s a a.count) ∙ e ∙ components_length r b b.count)))

  pub first_none : same_first 0 ≡ true
  unfolding components same_by
  first_none = refl

  pub first_on : (n : ℕ) → same_first n ≡ true → same_carried (carried (component_of s a n)) (carried (component_of r b n)) ≡ true → same_first (n + 1) ≡ true
  first_on n e h = rw (add-one, first_more n, e, h)

  still : (d n : ℕ) → same_first n ≡ false → same_first (n + d) ≡ false
  still zero n e = let q : n + zero ≡ n = omega arith in rw q e
  still (suc d) n e = let q : n + suc d ≡ suc (n + d) = omega arith in rw (q, first_more (n + d), still d n e)

  pub first_off : (n m : ℕ) → n < m → same_carried (carried (component_of s a n)) (carried (component_of r b n)) ≡ false → false ≡ same_first m
  first_off n m h e =
      let q : suc n + (m - suc n) ≡ m = omega arith in
      sym (ap same_first (sym q) ∙ still (m - suc n) (suc n) (first_more n ∙ rw e (and_false (same_first n))))

-- ---- two components that were read, under one name
module _ (s : List ℕ) (a : Listing) (r : List ℕ) (b : Listing) (j : ℕ) {x y : Component} (ex : x ≡ component_of s a j) (ey : y ≡ component_of r b j) (n : false ≡ not (same_name s a r b j)) where
  pub weights_differ : (to_bits binary32 x.weight ≡ to_bits binary32 y.weight → ⊥) → false ≡ same_carried (carried (component_of s a j)) (carried (component_of r b j))
  unfolding carried
  weights_differ h = sym (names_agree s a r b j n ∙ rw (← ex, ← ey, ne_eqb _ _ h))

  pub weights_agree : to_bits binary32 x.weight ≡ to_bits binary32 y.weight
      → same_numbers (bits x.points) (bits y.points) ≡ same_carried (carried (component_of s a j)) (carried (component_of r b j))
  unfolding carried
  weights_agree h = sym (names_agree s a r b j n ∙ rw (← ex, ← ey, eq-eqb _ _ h))

pub points_ten : (s : List ℕ) (a : Listing) (j : ℕ) {x : Component} → x ≡ component_of s a j → length x.points ≡ 10
points_ten s a j e = ap (λ (c : Component). length c.points) e ∙ component_ten s a j
