-- "Lists equal in every bit are one, numbered from 1 by first use along the rows."
use Rattle.std.specs.Prelude.{ℕ, zero, suc, Bool, true, false, cond, ◌&&◌, ◌||◌, List, [], ◌∷◌, ◌++◌, eqb}
use Rattle.std.proofs.Math.Option.{Option, none, some}
use Rattle.spec_lookup.specs.Source.{Carried}

-- equal in every bit: lists one by one, by a test of two; components in all that they carry
unfoldable pub same_by : {A : Type 0} → (A → A → Bool) → List A → List A → Bool
same_by test [] [] = true
same_by test [] (y ∷ ys) = false
same_by test (x ∷ xs) [] = false
same_by test (x ∷ xs) (y ∷ ys) = test x y && same_by test xs ys

unfoldable pub same_carried : Carried → Carried → Bool
same_carried a b =
    eqb a.owner b.owner
    && (eqb a.form b.form
    && (eqb a.label b.label && (eqb a.part b.part && (eqb a.weight b.weight && same_by eqb a.points b.points))))

abbrev pub same : List Carried → List Carried → Bool
same xs ys = same_by same_carried xs ys

-- whether a list is there already, and the place of the first that is the same
unfoldable pub seen_in : List Carried → List (List Carried) → Bool
seen_in v [] = false
seen_in v (x ∷ xs) = same v x || seen_in v xs

unfoldable pub place_in : List Carried → List (List Carried) → ℕ
place_in v [] = zero
place_in v (x ∷ xs) = cond (same v x) zero (suc (place_in v xs))

-- the lists so far, with what one more lookup gives
unfoldable pub noted : List (List Carried) → Option (List Carried) → List (List Carried)
noted lists none = lists
noted lists (some v) = cond (seen_in v lists) lists (lists ++ (v ∷ []))

-- the number of what a lookup gives, from 1; "0 nothing"
unfoldable pub number_in : List (List Carried) → Option (List Carried) → ℕ
number_in lists none = 0
number_in lists (some v) = suc (place_in v lists)
