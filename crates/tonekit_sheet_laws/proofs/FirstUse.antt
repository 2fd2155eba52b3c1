-- The lists along the rows: every lookup's list is there, none twice, each by a row; numbers go up by at most 1. Assumes nothing.
use Rattle.std.proofs.Common.{ℕ, zero, suc, ◌+◌, ◌-◌, ◌≤◌, ◌<◌, max, ◌≡◌, refl, ap, Bool, true, false, List, [], arith, add-one, ltb, length, get_or, ltb-true, ltb-false}
use mathlib.Core.Option.{Option, none, some}
use lib.ListN.{get_or-append}
use Rattle.tonekit_core.specs.Loop.{range}
use Rattle.tonekit_core.proofs.LoopLaws.{range_done, range_last, range_keeps}
use Rattle.tonekit_core.proofs.Split.{split}
use Rattle.spec_lookup.specs.Source.{Carried}
use Rattle.spec_sheet.specs.Number.{seen_in, place_in, noted, number_in}
use Rattle.spec_sheet.specs.Sheet.{View, rows_of, lists_of}
use Rattle.tonekit_sheet.specs.Parts.{note_turn}
use Rattle.tonekit_sheet_laws.proofs.Numbers.{Grows, grows_refl, grows_trans, grows_seen, noted_grows, noted_seen, noted_number, noted_least, noted_most, noted_from, Once, noted_once, place_below, place_get, place_once}

-- the lists after the first r rows, and after the first lookup of the next
abbrev pub so_far : View → ℕ → List (List Carried)
so_far v r = range (note_turn v) 0 r []

abbrev pub half : View → ℕ → List (List Carried)
half v r = noted (so_far v r) (v.row r false)

module _ (v : View) where
  pub so_none : so_far v 0 ≡ []
  so_none = range_done (note_turn v) 0 0 [] (omega arith)

  pub so_next : (r : ℕ) → so_far v (r + 1) ≡ noted (half v r) (v.row r true)
  so_next r = range_last (note_turn v) r []

  pub so_all : so_far v (rows_of v) ≡ lists_of v
  unfolding lists_of
  so_all = refl

  row_grows : (r : ℕ) → Grows (so_far v r) (so_far v (r + 1))
  row_grows r = rw (so_next r) (grows_trans _ _ _ (noted_grows (so_far v r) (v.row r false)) (noted_grows (half v r) (v.row r true)))

  so_grows : (k r : ℕ) → Grows (so_far v r) (so_far v (r + k))
  so_grows zero r = let e : r + 0 ≡ r = omega arith in rw e (grows_refl (so_far v r))
  so_grows (suc k) r = let e : r + suc k ≡ r + 1 + k = omega arith in rw e (grows_trans _ _ _ (row_grows r) (so_grows k (r + 1)))

  -- what the first r rows give stays
  pub all_grows : (r : ℕ) → r ≤ rows_of v → Grows (so_far v r) (lists_of v)
  all_grows r h =
      let k = rows_of v - r in
      let e : r + k ≡ rows_of v = omega arith in
      rw (← so_all) (rw e at (so_grows k r))

  half_grows : (r : ℕ) → r < rows_of v → Grows (half v r) (lists_of v)
  half_grows r h = grows_trans _ _ _ (rw (← so_next r) at (noted_grows (half v r) (v.row r true))) (all_grows (r + 1) (omega arith))

  -- the two numbers of row r: each at most 1 more than the greatest before it
  pub record RowNumbers (r : ℕ) : Type 0 where
    pub first : number_in (lists_of v) (v.row r false) ≤ length (so_far v r) + 1
    pub first_most : max (length (so_far v r)) (number_in (lists_of v) (v.row r false)) ≡ length (half v r)
    pub final : number_in (lists_of v) (v.row r true) ≤ length (half v r) + 1
    pub final_most : max (length (half v r)) (number_in (lists_of v) (v.row r true)) ≡ length (so_far v (r + 1))

  pub row_numbers : (r : ℕ) → r < rows_of v → RowNumbers r
  row_numbers r h =
      let a = noted_number (so_far v r) (lists_of v) (v.row r false) (half_grows r h) in
      let b = noted_number (half v r) (lists_of v) (v.row r true) (rw (so_next r) at (all_grows (r + 1) (omega arith))) in
      record {
        first = rw a (noted_least (so_far v r) (v.row r false));
        first_most = rw a (noted_most (so_far v r) (v.row r false));
        final = rw b (noted_least (half v r) (v.row r true));
        final_most = rw (b, so_next r) (noted_most (half v r) (v.row r true));
      }

  -- nothing is lost
  pub seen_first : (r : ℕ) → r < rows_of v → (w : List Carried) → v.row r false ≡ some w → seen_in w (lists_of v) ≡ true
  seen_first r h w e = grows_seen w (half v r) (lists_of v) (half_grows r h) (rw e (noted_seen (so_far v r) w))

  pub seen_final : (r : ℕ) → r < rows_of v → (w : List Carried) → v.row r true ≡ some w → seen_in w (lists_of v) ≡ true
  seen_final r h w e = grows_seen w (so_far v (r + 1)) (lists_of v) (all_grows (r + 1) (omega arith)) (rw (so_next r, e) (noted_seen (half v r) w))

  -- no list twice
  pub lists_once : Once (lists_of v)
  unfolding lists_of
  lists_once =
      range_keeps (note_turn v) (λ (j : ℕ) (l : List (List Carried)). Once l) 0 (rows_of v) [] (omega arith)
      (λ j l h o. noted_once (noted l (v.row j false)) (v.row j true) (noted_once l (v.row j false) o))
      (λ i j a b e. absurd (omega arith))

  -- every list is what some row's lookup gives
  pub record Used (n : ℕ) (w : List Carried) : Type 0 where
    pub row : ℕ
    pub last : Bool
    pub there : row < n
    pub gives : v.row row last ≡ some w

  used_later : (n m : ℕ) (w : List Carried) → n ≤ m → Used n w → Used m w
  used_later n m w h u = record { row = u.row; last = u.last; there = omega (arith, u.there); gives = u.gives }

  noted_used : (n : ℕ) (l : List (List Carried)) (r : ℕ) (last : Bool) → r < n → ((i : ℕ) → i < length l → Used n (get_or l i []))
      → (i : ℕ) → i < length (noted l (v.row r last)) → Used n (get_or (noted l (v.row r last)) i [])
  noted_used n l r last a h i c =
      let g = noted_grows l (v.row r last) in
      split (ltb i (length l))
      (λ t. let d : i < length l = ltb-true i (length l) t in
      let e : get_or (noted l (v.row r last)) i [] ≡ get_or l i [] = rw g.is (get_or-append l g.more [] i d) in
      rw e (h i d))
      (λ t. record { row = r; last = last; there = a; gives = noted_from l (v.row r last) i c (ltb-false i (length l) t) })

  so_used : (r : ℕ) → (i : ℕ) → i < length (so_far v r) → Used r (get_or (so_far v r) i [])
  so_used zero i h = absurd (omega (arith, ap length so_none))
  so_used (suc r) i h =
      let n : so_far v (suc r) ≡ noted (half v r) (v.row r true) = rw (← add-one r) (so_next r) in
      let p : (j : ℕ) → j < length (so_far v r) → Used (suc r) (get_or (so_far v r) j []) = λ j l. used_later r (suc r) _ (omega arith) (so_used r j l) in
      rw n (noted_used (suc r) (half v r) r true (omega arith) (noted_used (suc r) (so_far v r) r false (omega arith) p) i (rw n at h))

  pub list_used : (i : ℕ) → i < length (lists_of v) → Used (rows_of v) (get_or (lists_of v) i [])
  list_used i h = rw (← so_all) (so_used (rows_of v) i (rw so_all h))

  -- and that row has its place as its number, from 1
  pub used_number : (i : ℕ) (h : i < length (lists_of v)) → number_in (lists_of v) (v.row (list_used i h).row (list_used i h).last) ≡ i + 1
  unfolding number_in
  used_number i h = rw (list_used i h).gives (omega (arith, place_once (lists_of v) lists_once i h))

  -- a lookup's number, from 1, is the place of the list that it gives
  pub record Listed (o : Option (List Carried)) : Type 0 where
    pub below : number_in (lists_of v) o ≤ length (lists_of v)
    pub gives : (w : List Carried) → o ≡ some w → get_or (lists_of v) (place_in w (lists_of v)) [] ≡ w

  listed_by : (o : Option (List Carried)) → ((w : List Carried) → o ≡ some w → seen_in w (lists_of v) ≡ true) → Listed o
  unfolding number_in
  listed_by none h = record { below = omega arith; gives = λ w e. place_get w (lists_of v) (h w e) }
  listed_by (some w) h = record { below = place_below w (lists_of v) (h w refl); gives = λ x e. place_get x (lists_of v) (h x e) }

  pub listed_first : (r : ℕ) → r < rows_of v → Listed (v.row r false)
  listed_first r h = listed_by (v.row r false) (seen_first r h)

  pub listed_final : (r : ℕ) → r < rows_of v → Listed (v.row r true)
  listed_final r h = listed_by (v.row r true) (seen_final r h)
