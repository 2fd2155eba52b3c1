-- Offsets in order, the numbers held at them, and components counted list by list. Assumes nothing.
use Rattle.std.proofs.Common.{ℕ, zero, suc, ◌+◌, ◌≤◌, ◌<◌, ◌≡◌, refl, ◌∙◌, true, false, List, [], ◌∷◌, arith, add-one, ltb, eqb, length, get_or, length-append, ltb-true, ltb-false, eq-eqb}
use lib.ListN.{get_or-append}
use lib.Seq.{get_or_at}
use Rattle.spec_arithmetic.specs.Places.{number_at}
use Rattle.spec_pack.specs.Pack.{holds, zero_or_held}
use Rattle.tonekit_core.proofs.Split.{split}
use Rattle.tonekit_pack.proofs.Numbers.{held_at, not_held}
use Rattle.spec_lookup.specs.Source.{Carried}
use Rattle.tonekit_sheet.specs.Sheetable.{components_in}
use Rattle.tonekit_sheet_laws.proofs.Place.{up_to, components_before}

module _ (f : ℕ → ℕ) where
  pub up_to_length : (n : ℕ) → length (up_to f n) ≡ n
  unfolding up_to
  up_to_length zero = refl
  up_to_length (suc n) = simp (length-append, up_to_length n, add-one)

  pub up_to_get : (n i : ℕ) → i < n → get_or (up_to f n) i 0 ≡ f i
  unfolding up_to
  up_to_get zero i h = absurd (omega arith)
  up_to_get (suc n) i h =
      split (ltb i n)
      (λ l. get_or-append (up_to f n) (f n ∷ []) 0 i (rw (up_to_length n) (ltb-true i n l)) ∙ up_to_get n i (ltb-true i n l))
      (λ l. let e : i ≡ n = omega (arith, ltb-false i n l) in rw e (get_or_at (up_to f n) (f n) [] 0 n (up_to_length n)))

-- whether a number is held by one of them
module _ (s : List ℕ) (f : ℕ → ℕ) (n x : ℕ) where
  pub holds_one : (i : ℕ) → i < n → number_at s (f i) ≡ x → holds s (up_to f n) x ≡ true
  holds_one i h e =
      split (holds s (up_to f n) x) (λ t. t)
      (λ t. absurd (not_held s (up_to f n) x t i (rw (up_to_length f n) h) (rw (up_to_get f n i h) e)))

  pub holds_none : ((i : ℕ) → i < n → number_at s (f i) ≡ x → ⊥) → holds s (up_to f n) x ≡ false
  holds_none h =
      split (holds s (up_to f n) x)
      (λ t. let j = held_at s (up_to f n) x t in
      let l : j.0 < n = rw (up_to_length f n) at j.1 in
      absurd (h j.0 l (rw (up_to_get f n j.0 l) at j.2)))
      (λ t. t)

  pub zero_or_one : (i : ℕ) → i < n → number_at s (f i) ≡ x → zero_or_held s (up_to f n) x ≡ true
  unfolding zero_or_held
  zero_or_one i h e = split (eqb x 0) (λ t. rw t) (λ t. rw t (holds_one i h e))

  pub zero_or_zero : x ≡ 0 → zero_or_held s (up_to f n) x ≡ true
  unfolding zero_or_held
  zero_or_zero e = rw (eq-eqb x 0 e)

-- ---- components
before_cons : (cs : List Carried) (lists : List (List Carried)) (n : ℕ) → components_before (cs ∷ lists) (suc n) ≡ length cs + components_before lists n
unfolding components_before
before_cons cs lists zero = omega arith
before_cons cs lists (suc n) = omega (arith, before_cons cs lists n)

pub before_all : (lists : List (List Carried)) → components_before lists (length lists) ≡ components_in lists
unfolding components_before components_in
before_all [] = refl
before_all (cs ∷ lists) = omega (arith, before_cons cs lists (length lists), before_all lists)

pub before_none : (lists : List (List Carried)) → components_before lists 0 ≡ 0
unfolding components_before
before_none lists = refl

pub before_next : (lists : List (List Carried)) (n : ℕ) → components_before lists (n + 1) ≡ components_before lists n + length (get_or lists n [])
unfolding components_before
before_next lists n = rw add-one

-- no list before the n-th goes past it
pub before_below : (lists : List (List Carried)) (k n : ℕ) → n + k ≡ length lists → components_before lists n ≤ components_in lists
before_below lists zero n e = let q : n ≡ length lists = omega arith in rw q (omega (arith, before_all lists))
before_below lists (suc k) n e = omega (arith, before_next lists n, before_below lists k (n + 1) (omega arith))
