-- Lists whose values are all of size at most n.
use Rattle.std.proofs.Common.{refl, Bool, true, false, eqb, eqb-true, ℕ, ◌<◌, ◌≤◌, ◌≡◌, sym, subst, List, length, get_or, set, map, length-set, Float, arith}
use Rattle.std.proofs.lemmas.List.{get_or-set_other, get_or-map, length-map}
use Rattle.std.proofs.lemmas.Grind.{get_or-set_at}
use borrow.Author.Tests.{eqb-false}
use lib.Ieee.{nan}
use Rattle.spec_shape.specs.Extract.{list_of}
use Rattle.tonekit_float.proofs.Fraction.{Within}
use Rattle.tonekit_float.proofs.Size.{within_more}
use Rattle.tonekit_contour.proofs.Lists.{listed_length, listed_at}

abbrev pub Sized : ℕ → List Float → Type 0
Sized n l = (i : ℕ) → i < length l → Within n (get_or l i nan)

pub sized_more : {m n : ℕ} (l : List Float) → m ≤ n → Sized m l → Sized n l
sized_more l h s = λ i k. within_more h (s i k)

pub sized_list : (n : ℕ) (f : ℕ → Float) (k : ℕ) → ((j : ℕ) → Within n (f j)) → Sized n (list_of f k)
sized_list n f k each = λ i h. subst (Within n) (sym (listed_at f k i (omega (arith, listed_length f k, h)))) (each i)

pub sized_set : (n : ℕ) (l : List Float) (g : ℕ) (v : Float) → Sized n l → Within n v → Sized n (set l g v)
sized_set n l g v s w =
    λ i h.
    let k : i < length l = omega (arith, length-set l g v, h) in
    go i k (eqb i g) refl
  where
    go : (i : ℕ) → i < length l → (b : Bool) → eqb i g ≡ b → Within n (get_or (set l g v) i nan)
    go i k true e = subst (Within n) (sym (get_or-set_at l g i v nan (eqb-true i g e) (subst (λ (z : ℕ). z < length l) (eqb-true i g e) k))) w
    go i k false e = subst (Within n) (sym (get_or-set_other l g i v nan (eqb-false i g e))) (s i k)

pub sized_map : (m n : ℕ) (f : Float → Float) (l : List Float) → ((x : Float) → Within m x → Within n (f x)) → Sized m l → Sized n (map f l)
sized_map m n f l each s =
    λ i h.
    let k : i < length l = omega (arith, length-map l f, h) in
    subst (Within n) (sym (get_or-map f l i nan nan k)) (each (get_or l i nan) (s i k))
