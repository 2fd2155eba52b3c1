-- Lists noted once each weigh no more than any pool that they all come from. Assumes nothing.
use Rattle.std.proofs.Common.{ℕ, zero, suc, ◌+◌, ◌*◌, ◌≤◌, ◌<◌, ◌≡◌, refl, ap₂, Bool, true, false, cond, List, [], ◌∷◌, ◌++◌, ◌⊎◌, ⊎_elim, mul-zero, mul-suc, mul-add, arith, eqb, eqb-true}
use mathlib.Core.Option.{Option, none, some}
use borrow.Author.Tests.{eqb-false}
use Rattle.spec_lookup.specs.Source.{Carried}
use Rattle.tonekit_core.proofs.Split.{split}
use Rattle.tonekit_core.proofs.LoopLaws.{range_keeps}
use Rattle.spec_sheet.specs.Number.{seen_in, noted}
use Rattle.spec_sheet.specs.Sheet.{View, rows_of, lists_of}
use Rattle.tonekit_sheet.specs.Parts.{note_turn}
use Rattle.tonekit_sheet.proofs.Same.{seen_more, seen_last}

-- ---- weights
-- the sum of the first n
unfoldable pub sum_to : (ℕ → ℕ) → ℕ → ℕ
sum_to w zero = 0
sum_to w (suc n) = sum_to w n + w n

pub sum_most : (w u : ℕ → ℕ) (n : ℕ) → ((i : ℕ) → i < n → w i ≤ u i) → sum_to w n ≤ sum_to u n
unfolding sum_to
sum_most w u zero h = omega arith
sum_most w u (suc n) h = omega (arith, sum_most w u n (λ i l. h i (omega arith)), h n (omega arith))

-- one of the summands is less by k
pub sum_less : (w u : ℕ → ℕ) (k n i : ℕ) → i < n → ((j : ℕ) → j < n → w j ≤ u j) → k + w i ≤ u i → k + sum_to w n ≤ sum_to u n
unfolding sum_to
sum_less w u k zero i l h d = absurd (omega arith)
sum_less w u k (suc n) i l h d =
    split (eqb i n)
    (λ e. let q : i ≡ n = eqb-true i n e in
    let r : k + w n ≤ u n = rw q at d in
    omega (arith, sum_most w u n (λ j b. h j (omega arith))))
    (λ e. omega (arith, sum_less w u k n i (omega (arith, eqb-false i n e)) (λ j b. h j (omega arith)) d, h n (omega arith)))

pub sum_same : (w u : ℕ → ℕ) (n : ℕ) → ((i : ℕ) → i < n → w i ≡ u i) → sum_to w n ≡ sum_to u n
unfolding sum_to
sum_same w u zero h = refl
sum_same w u (suc n) h = ap₂ ◌+◌ (sum_same w u n (λ i l. h i (omega arith))) (h n (omega arith))

-- summands that are a and b times another's
pub sum_scaled : (w u : ℕ → ℕ) (a b n : ℕ) → ((i : ℕ) → i < n → w i ≡ a + b * u i) → sum_to w n ≡ a * n + b * sum_to u n
unfolding sum_to
sum_scaled w u a b zero h = omega (arith, mul-zero a, mul-zero b)
sum_scaled w u a b (suc n) h =
    omega (arith, sum_scaled w u a b n (λ i l. h i (omega arith)), h n (omega arith), mul-suc a n, mul-add b (sum_to u n) (u n))

module _ (w : List Carried → ℕ) where
  unfoldable pub weigh : List (List Carried) → ℕ
  weigh [] = 0
  weigh (x ∷ xs) = w x + weigh xs

  pub weigh_snoc : (xs : List (List Carried)) (v : List Carried) → weigh (xs ++ (v ∷ [])) ≡ weigh xs + w v
  unfolding weigh
  weigh_snoc [] v = omega arith
  weigh_snoc (x ∷ xs) v = omega (arith, weigh_snoc xs v)

  -- the pool f 0, f 1, .. without those seen
  module _ (f : ℕ → List Carried) (n : ℕ) where
    unfoldable pub unseen : List (List Carried) → ℕ → ℕ
    unseen seen i = cond (seen_in (f i) seen) 0 (w (f i))

    abbrev pub left : List (List Carried) → ℕ
    left seen = sum_to (unseen seen) n

    fewer_at : (seen : List (List Carried)) (v : List Carried) (i : ℕ) → unseen (seen ++ (v ∷ [])) i ≤ unseen seen i
    unfolding unseen
    fewer_at seen v i =
        split (seen_in (f i) seen)
        (λ e. rw (e, seen_more (f i) seen (v ∷ []) e) (omega arith))
        (λ e. split (seen_in (f i) (seen ++ (v ∷ []))) (λ g. rw (e, g) (omega arith)) (λ g. rw (e, g) (omega arith)))

    pub left_fewer : (seen : List (List Carried)) (v : List Carried) → left (seen ++ (v ∷ [])) ≤ left seen
    left_fewer seen v = sum_most (unseen (seen ++ (v ∷ []))) (unseen seen) n (λ i l. fewer_at seen v i)

    taken_at : (seen : List (List Carried)) (v : List Carried) (i : ℕ) → f i ≡ v → seen_in v seen ≡ false → w v + unseen (seen ++ (v ∷ [])) i ≤ unseen seen i
    unfolding unseen
    taken_at seen v i e h = rw (e, h, seen_last v seen) (omega arith)

    pub left_all : left [] ≡ sum_to (λ i. w (f i)) n
    unfolding unseen seen_in
    left_all = refl

    pub left_less : (seen : List (List Carried)) (v : List Carried) (i : ℕ) → i < n → f i ≡ v → seen_in v seen ≡ false → w v + left (seen ++ (v ∷ [])) ≤ left seen
    left_less seen v i l e h =
        sum_less (unseen (seen ++ (v ∷ []))) (unseen seen) (w v) n i l (λ j b. fewer_at seen v j) (taken_at seen v i e h)

-- ---- the lists of a sheet, from two pools
module _ (f : ℕ → List Carried) (n : ℕ) (g : ℕ → List Carried) (m : ℕ) where
  -- a list of the one pool or the other
  abbrev pub Pooled : List Carried → Type 0
  Pooled v = ((i : ℕ) × (i < n) × (f i ≡ v)) ⊎ ((i : ℕ) × (i < m) × (g i ≡ v))

  module _ (w : List Carried → ℕ) where
    abbrev pub whole : ℕ
    whole = sum_to (λ i. w (f i)) n + sum_to (λ i. w (g i)) m

    -- what is noted, with what is left, weighs no more than the whole
    abbrev Room : List (List Carried) → Type 0
    Room seen = weigh w seen + (left w f n seen + left w g m seen) ≤ whole

    room_first : Room []
    unfolding weigh
    room_first = omega (arith, left_all w f n, left_all w g m)

    room_one : (seen : List (List Carried)) (v : List Carried) → Pooled v → seen_in v seen ≡ false → Room seen → Room (seen ++ (v ∷ []))
    room_one seen v p h r =
        let e = weigh_snoc w seen v in
        let a = left_fewer w f n seen v in
        let b = left_fewer w g m seen v in
        ⊎_elim (λ t. omega (arith, left_less w f n seen v t.0 t.1 t.2 h)) (λ t. omega (arith, left_less w g m seen v t.0 t.1 t.2 h)) p

    room_noted : (seen : List (List Carried)) (o : Option (List Carried)) → ((v : List Carried) → o ≡ some v → Pooled v) → Room seen → Room (noted seen o)
    unfolding noted
    room_noted seen none p r = r
    room_noted seen (some v) p r = split (seen_in v seen) (λ e. rw e r) (λ e. rw e (room_one seen v (p v refl) e r))

    pub budget : (v : View) → ((r : ℕ) (last : Bool) (cs : List Carried) → v.row r last ≡ some cs → Pooled cs) → weigh w (lists_of v) ≤ whole
    unfolding lists_of
    budget v p =
        let r = range_keeps (note_turn v) (λ i seen. Room seen) 0 (rows_of v) [] (omega arith)
        (λ j seen l r. room_noted (noted seen (v.row j false)) (v.row j true) (λ cs e. p j true cs e) (room_noted seen (v.row j false) (λ cs e. p j false cs e) r)) room_first in
        omega arith
