-- The lists of a sheet are those of first use along its rows, in their order, and each row's lists have the numbers that it names. Assumes nothing.
use Rattle.std.proofs.Common.{ℕ, zero, suc, ◌+◌, ◌-◌, ◌≤◌, ◌<◌, max, ◌≡◌, refl, sym, ap, ◌∙◌, ◌⊎◌, ⊎_elim, Bool, true, false, List, [], ◌∷◌, ◌++◌, arith, ltb, length, get_or, length-append, ltb-true, ltb-false}
use mathlib.Core.Option.{Option}
use lib.ListN.{get_or-append}
use lib.Seq.{get_or-append_seam}
use Rattle.tonekit_core.specs.Loop.{range}
use Rattle.tonekit_core.proofs.LoopLaws.{range_done, range_last, range_keeps}
use Rattle.tonekit_core.proofs.Split.{split}
use Rattle.spec_lookup.specs.Source.{Carried}
use Rattle.spec_sheet.specs.Number.{seen_in, place_in, noted, number_in}
use Rattle.spec_sheet.specs.Reader.{SheetRead}
use Rattle.spec_sheet.specs.FromSheet.{list_numbered}
use Rattle.tonekit_sheet_laws.proofs.Numbers.{seen_here, place_below, place_get, Once, place_once}
use Rattle.tonekit_sheet_inverse.proofs.Order.{first_list, final_list, most_turn, greatest, Ordered}
use Rattle.tonekit_sheet_inverse.proofs.Pieces.{content_at}

-- ---- the greatest number along the rows
module _ (s : List ℕ) (st : SheetRead) where
  grows : (k r : ℕ) → greatest s st r ≤ greatest s st (r + k)
  grows zero r = let e : r + 0 ≡ r = omega arith in rw e (omega arith)
  grows (suc k) r =
      let e : r + suc k ≡ r + k + 1 = omega arith in
      rw (e, range_last (most_turn s st) (r + k) 0)
      (omega (arith, grows k r))

  -- it is at least each that a row names
  named_below : (r n : ℕ) → r < st.rows → (first_list s st r ≡ n) ⊎ (final_list s st r ≡ n) → n ≤ greatest s st st.rows
  named_below r n h w =
      let m = greatest s st r in
      let a = first_list s st r in
      let b = final_list s st r in
      let k = st.rows - (r + 1) in
      let e : r + 1 + k ≡ st.rows = omega arith in
      let g : max (max m a) b ≤ greatest s st st.rows = rw (range_last (most_turn s st) r 0, e) at (grows k (r + 1)) in
      ⊎_elim (λ q. omega arith) (λ q. omega arith) w

  -- so it is the count of the lists
  greatest_is : Ordered s st → greatest s st st.rows ≤ length st.lists → greatest s st st.rows ≡ length st.lists
  greatest_is o h = by_count (length st.lists) refl
    where
      by_count : (n : ℕ) → length st.lists ≡ n → greatest s st st.rows ≡ length st.lists
      by_count zero e = omega arith
      by_count (suc i) e =
          let u = (o.lists i (omega arith)).named in
          omega (arith, named_below u.0 (i + 1) u.1 u.2)

-- what list i carries, and what the first n of them do
module _ (s : List ℕ) (st : SheetRead) where
  abbrev pub content : ℕ → List Carried
  content i = content_at s (get_or st.lists i 0)

  unfoldable pub contents : ℕ → List (List Carried)
  contents zero = []
  contents (suc n) = contents n ++ (content n ∷ [])

  pub contents_length : (n : ℕ) → length (contents n) ≡ n
  unfolding contents
  contents_length zero = refl
  contents_length (suc n) = omega (arith, length-append (contents n) (content n ∷ []), contents_length n)

  pub contents_get : (n i : ℕ) → i < n → get_or (contents n) i [] ≡ content i
  unfolding contents
  contents_get zero i h = absurd (omega arith)
  contents_get (suc n) i h =
      split (ltb i n)
      (λ t. let b : i < n = ltb-true i n t in get_or-append (contents n) (content n ∷ []) [] i (omega (arith, contents_length n)) ∙ contents_get n i b)
      (λ t. let e : i ≡ length (contents n) = omega (arith, ltb-false i n t, contents_length n) in
      let q : i ≡ n = omega (arith, contents_length n) in
      ap (λ (k : ℕ). get_or (contents n ++ (content n ∷ [])) k []) e ∙ get_or-append_seam (contents n) (content n) [] [] ∙ ap content (sym q))

-- no two lists carry the same
module _ (s : List ℕ) (st : SheetRead) (different : (i j : ℕ) → j < i → i < length st.lists → content s st i ≡ content s st j → ⊥) where
  contents_seen : (n i : ℕ) → i < n → seen_in (content s st i) (contents s st n) ≡ true
  contents_seen n i h = rw (contents_get s st n i h) at (seen_here (contents s st n) i (omega (arith, contents_length s st n)))

  contents_new : (n : ℕ) → n < length st.lists → seen_in (content s st n) (contents s st n) ≡ false
  contents_new n h =
      let v = content s st n in
      let l = contents s st n in
      split (seen_in v l)
      (λ t. let p : place_in v l < n = omega (arith, place_below v l t, contents_length s st n) in
      absurd (different n (place_in v l) p h (sym (place_get v l t) ∙ contents_get s st n (place_in v l) p)))
      (λ t. t)

  contents_once : Once (contents s st (length st.lists))
  contents_once i j a b e =
      let n = length st.lists in
      let c : i < n = omega (arith, contents_length s st n) in
      let d : j < n = omega (arith, contents_length s st n) in
      let f : content s st i ≡ content s st j = sym (contents_get s st n i c) ∙ e ∙ contents_get s st n j d in
      split (ltb i j)
      (λ t. absurd (different j i (ltb-true i j t) d (sym f)))
      (λ t. split (ltb j i) (λ u. absurd (different i j (ltb-true j i u) c f)) (λ u. omega (arith, ltb-false i j t, ltb-false j i u)))

  -- one more lookup: a list that was named before, or the next
  noted_list : (m n : ℕ) → n ≤ m + 1 → n ≤ length st.lists → noted (contents s st m) (list_numbered s st n) ≡ contents s st (max m n)
  unfolding noted contents
  noted_list m zero h g = let q : max m 0 ≡ m = omega arith in rw q
  noted_list m (suc i) h g =
      split (ltb i m)
      (λ t. let b : i < m = ltb-true i m t in
      let q : max m (suc i) ≡ m = omega arith in
      rw (contents_seen m i b, q))
      (λ t. let e : i ≡ m = omega (arith, ltb-false i m t) in
      let q : max m (suc m) ≡ suc m = omega arith in
      rw (e, contents_new m (omega arith), q))

  -- the number that a lookup's list has among all
  pub number_is : (n : ℕ) → n ≤ length st.lists → number_in (contents s st (length st.lists)) (list_numbered s st n) ≡ n
  unfolding number_in
  number_is zero h = refl
  number_is (suc i) h =
      let n = length st.lists in
      ap suc (rw (contents_get s st n i h) at (place_once (contents s st n) contents_once i (omega (arith, contents_length s st n))))

  module _ (o : Ordered s st) where
    -- rows whose lookups give the lists that they name: after r of them the lists are those up to the greatest number
    module _ (row : ℕ → Bool → Option (List Carried))
        (first_is : (r : ℕ) → r < st.rows → row r false ≡ list_numbered s st (first_list s st r))
        (final-is : (r : ℕ) → r < st.rows → row r true ≡ list_numbered s st (final_list s st r)) where
      record Upto (r : ℕ) (l : List (List Carried)) : Type 0 where
        is : l ≡ contents s st (greatest s st r)
        few : greatest s st r ≤ length st.lists

      upto_next : (r : ℕ) (l : List (List Carried)) → r < st.rows → Upto r l → Upto (r + 1) (noted (noted l (row r false)) (row r true))
      upto_next r l h u =
          let q = o.rows r h in
          let m = greatest s st r in
          let a = first_list s st r in
          let b = final_list s st r in
          let x : noted l (row r false) ≡ contents s st (max m a) = rw (u.is, first_is r h) (noted_list m a q.first_next q.first_held) in
          record {
            is = rw (x, final-is r h, range_last (most_turn s st) r 0) (noted_list (max m a) b q.final_next q.final_held);
            few = rw (range_last (most_turn s st) r 0) (omega (arith, u.few, q.first_held, q.final_held));
          }

      upto_all : Upto st.rows (range (λ r l. noted (noted l (row r false)) (row r true)) 0 st.rows [])
      unfolding contents
      upto_all =
          range_keeps (λ (r : ℕ) (l : List (List Carried)). noted (noted l (row r false)) (row r true)) Upto 0 st.rows [] (omega arith) upto_next
          (let z = range_done (most_turn s st) 0 0 0 (omega arith) in record { is = rw z; few = rw z (omega arith) })

      -- and every list is named
      pub lists_are : range (λ r l. noted (noted l (row r false)) (row r true)) 0 st.rows [] ≡ contents s st (length st.lists)
      lists_are =
          let u = upto_all in
          u.is ∙ ap (contents s st) (greatest_is s st o u.few)
