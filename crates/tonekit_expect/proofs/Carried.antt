-- What the components of a listing carry: the listing's owner, form and label; a part number in a mixture only; a citation's weight is 1; ten points.
use Rattle.std.proofs.Common.{ℕ, zero, suc, ◌<◌, ◌≡◌, refl, ◌∙◌, ⊎_elim, cond, List, [], ◌∷◌, arith, add-one, le_of_suc-le-suc, eq-or-lt_of_le, eqb, length, get_or, length-append, eqb-true, eq-eqb}
use lib.Ieee.{to_bits, binary32, of_bits}
use lib.ListN.{get_or-append, length-map}
use lib.Seq.{get_or_at}
use Rattle.spec_lookup.specs.declared.Listing.{Listing}
use Rattle.spec_lookup.specs.Lookup.{component_of}
use Rattle.spec_lookup.specs.Source.{Carried, carried, components}
use Rattle.tonekit_core.proofs.Split.{split}
use Rattle.tonekit_expect.proofs.Bound.{length_points}

module _ (s : List ℕ) (l : Listing) where
  -- under the listing's name
  pub record Named (j : ℕ) : Type 0 where
    pub owner : (carried (component_of s l j)).owner ≡ l.name.owner
    pub form : (carried (component_of s l j)).form ≡ l.name.form
    pub label : (carried (component_of s l j)).label ≡ l.name.label

  pub named : (j : ℕ) → Named j
  unfolding carried component_of
  named j = split (eqb l.name.form 1) (λ t. record { owner = rw t; form = rw t; label = rw t }) (λ t. record { owner = rw t; form = rw t; label = rw t })

  -- "part number": its place in the rule in form 3, from 0; else 0
  pub part_number : (j : ℕ) → (carried (component_of s l j)).part ≡ cond (eqb l.name.form 3) j 0
  unfolding carried component_of
  part_number j = split (eqb l.name.form 1) (λ t. rw (eqb-true l.name.form 1 t)) (λ t. rw t)

  -- "A citation has .. weight 1"
  pub citation_weight : (j : ℕ) → l.name.form ≡ 1 → (carried (component_of s l j)).weight ≡ 0x3f80_0000
  unfolding carried component_of of_bits to_bits
  citation_weight j e = rw (eq-eqb l.name.form 1 e)

  pub component_ten : (j : ℕ) → length (component_of s l j).points ≡ 10
  unfolding component_of
  component_ten j = split (eqb l.name.form 1) (λ t. rw t (length_points _ 10)) (λ t. rw t (length_points _ 10))

  pub carried_ten : (j : ℕ) → length (carried (component_of s l j)).points ≡ 10
  unfolding carried
  carried_ten j = length-map (component_of s l j).points (to_bits binary32) ∙ component_ten j

  pub components_length : (n : ℕ) → length (components s l n) ≡ n
  unfolding components
  components_length zero = refl
  components_length (suc n) = simp (length-append, components_length n, add-one)

  pub components_at : (d : Carried) (n j : ℕ) → j < n → get_or (components s l n) j d ≡ carried (component_of s l j)
  unfolding components
  components_at d zero j h = absurd (omega arith)
  components_at d (suc n) j h =
      ⊎_elim (λ e. rw e (get_or_at (components s l n) (carried (component_of s l n)) [] d n (components_length n)))
      (λ g. get_or-append (components s l n) (carried (component_of s l n) ∷ []) d j (rw (components_length n) g) ∙ components_at d n j g)
      (eq-or-lt_of_le (le_of_suc-le-suc h))
