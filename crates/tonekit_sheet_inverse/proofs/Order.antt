-- What a sheet in which nothing is loose or out of order has: accents go up, each row is the one due, lists are numbered by first use, named, and no two alike. Assumes nothing.
use Rattle.std.proofs.Common.{ℕ, zero, suc, ◌+◌, ◌-◌, ◌≤◌, ◌<◌, max, ◌≡◌, ◌⊎◌, inl, inr, ⊎_elim, true, false, not, ◌&&◌, ◌||◌, List, arith, length, get_or, eqb, leb, ltb, eqb-true, leb-true, ltb-true, None}
use borrow.Author.Tests.{not-true}
use Rattle.tonekit_core.specs.Loop.{range}
use Rattle.spec_arithmetic.specs.Fields.{byte_at}
use Rattle.spec_arithmetic.specs.Places.{number_at}
use Rattle.spec_pack.specs.Pack.{zero_or_held}
use Rattle.tonekit_core.proofs.Split.{either, both}
use Rattle.tonekit_pack.proofs.Numbers.{zero_or_at}
use Rattle.spec_sheet.specs.Sheet.{accent_place, tone_place, prev_place}
use Rattle.spec_sheet.specs.Reader.{SheetRead, row_at, loose_row, accent_down, prev_due, row_due, row_names, row_wrong, named, same_lists, repeated, list_wrong}
use Rattle.tonekit_core.proofs.LoopLaws.{range_last}
use Rattle.tonekit_sheet_inverse.proofs.Tests.{none_failed, range_some, range_no}
use Rattle.tonekit_sheet.proofs.Turns.{Finished}

-- the number of accent i, the two list numbers of row r, and the greatest of those before it
module _ (s : List ℕ) (st : SheetRead) where
  abbrev pub accent_number_of : ℕ → ℕ
  accent_number_of i = number_at s (get_or st.accents i 0)

  abbrev pub first_list : ℕ → ℕ
  first_list r = byte_at s (row_at st r + 4)

  abbrev pub final_list : ℕ → ℕ
  final_list r = byte_at s (row_at st r + 5)

  abbrev pub most_turn : ℕ → ℕ → ℕ
  most_turn r m = max (max m (first_list r)) (final_list r)

  abbrev pub greatest : ℕ → ℕ
  greatest r = range most_turn 0 r 0

  -- row r is the one due, and names lists that are there, each at most 1 more than the greatest before it
  pub record RowRight (r : ℕ) : Type 0 where
    pub accent : byte_at s (row_at st r + 1) ≡ accent_number_of (accent_place (length st.tones) r)
    pub tone : byte_at s (row_at st r + 2) ≡ number_at s (get_or st.tones (tone_place (length st.tones) r) 0)
    pub prev : byte_at s (row_at st r + 3) ≡ prev_due s st (prev_place (length st.tones) r)
    pub first_next : first_list r ≤ greatest r + 1
    pub final_next : final_list r ≤ max (greatest r) (first_list r) + 1
    pub first_held : first_list r ≤ length st.lists
    pub final_held : final_list r ≤ length st.lists

  -- list i has its place as its number, is named by a row, and is equal to none before it
  pub record ListRight (i : ℕ) : Type 0 where
    pub number : number_at s (get_or st.lists i 0) ≡ i + 1
    pub named : (r : ℕ) × (r < st.rows) × ((first_list r ≡ i + 1) ⊎ (final_list r ≡ i + 1))
    pub different : (j : ℕ) → j < i → same_lists s (get_or st.lists i 0) (get_or st.lists j 0) ≡ false

  pub record Ordered : Type 0 where
    pub accents_least : (i : ℕ) → i < length st.accents → 1 ≤ accent_number_of i
    pub accents_up : (i j : ℕ) → i < j → j < length st.accents → accent_number_of i < accent_number_of j
    pub rows : (r : ℕ) → r < st.rows → RowRight r
    pub lists : (i : ℕ) → i < length st.lists → ListRight i

-- ---- accents
module _ (s : List ℕ) (st : SheetRead) (h : accent_down s st ≡ None) where
  up : (j : ℕ) → j < length st.accents → range (λ i before. accent_number_of s st i) 0 j 0 < accent_number_of s st j
  unfolding accent_down
  up j b =
      ltb-true (range (λ i before. accent_number_of s st i) 0 j 0) (accent_number_of s st j)
      (none_failed (λ i before. ltb before (accent_number_of s st i)) (λ i before. accent_number_of s st i) (λ i. get_or st.accents i 0) (length st.accents) 0 h j b)

  up_next : (i : ℕ) → i + 1 < length st.accents → accent_number_of s st i < accent_number_of s st (i + 1)
  up_next i b = rw (range_last (λ i before. accent_number_of s st i) i 0) at (up (i + 1) b)

  up_far : (k i : ℕ) → i + suc k < length st.accents → accent_number_of s st i < accent_number_of s st (i + suc k)
  up_far zero i b = up_next i b
  up_far (suc k) i b =
      let e : i + suc (suc k) ≡ i + suc k + 1 = omega arith in
      rw e (omega (arith, up_far k i (omega arith), up_next (i + suc k) (omega arith)))

  accents_go_up : (i j : ℕ) → i < j → j < length st.accents → accent_number_of s st i < accent_number_of s st j
  accents_go_up i j l b =
      let k = j - suc i in
      let e : i + suc k ≡ j = omega arith in
      rw e at (up_far k i (omega arith))

  accents_not_zero : (i : ℕ) → i < length st.accents → 1 ≤ accent_number_of s st i
  accents_not_zero i b = omega (arith, up i b)

-- ---- rows
module _ (s : List ℕ) (st : SheetRead) where
  rows_held : loose_row s st ≡ None → (r : ℕ) → r < st.rows → (zero_or_held s st.lists (first_list s st r) && zero_or_held s st.lists (final_list s st r)) ≡ true
  unfolding loose_row
  rows_held h r b =
      none_failed (λ r u. zero_or_held s st.lists (first_list s st r) && zero_or_held s st.lists (final_list s st r)) (λ r u. u) (row_at st) st.rows 0 h r b

  rows_right : row_wrong s st ≡ None → (r : ℕ) → r < st.rows → (row_due s st r && row_names s st r (greatest s st r)) ≡ true
  unfolding row_wrong
  rows_right h r b = none_failed (λ r m. row_due s st r && row_names s st r m) (most_turn s st) (row_at st) st.rows 0 h r b

  lists_right : list_wrong s st ≡ None → (i : ℕ) → i < length st.lists
      → (eqb (number_at s (get_or st.lists i 0)) (i + 1) && (named s st (i + 1) && not (repeated s st.lists i (get_or st.lists i 0)))) ≡ true
  unfolding list_wrong
  lists_right h i b =
      none_failed (λ i u. eqb (number_at s (get_or st.lists i 0)) (i + 1) && (named s st (i + 1) && not (repeated s st.lists i (get_or st.lists i 0))))
      (λ i u. u) (λ i. get_or st.lists i 0) (length st.lists) 0 h i b

  -- ---- lists
  named_by : (n : ℕ) → named s st n ≡ true → (r : ℕ) × (r < st.rows) × ((first_list s st r ≡ n) ⊎ (final_list s st r ≡ n))
  unfolding named
  named_by n h =
      let u = range_some (λ r. eqb (first_list s st r) n || eqb (final_list s st r) n) st.rows h in
      (u.0, u.1, either (eqb (first_list s st u.0) n) (eqb (final_list s st u.0) n) u.2 (λ q. inl (eqb-true _ n q)) (λ q. inr (eqb-true _ n q)))

  none_alike : (i o : ℕ) → repeated s st.lists i o ≡ false → (j : ℕ) → j < i → same_lists s o (get_or st.lists j 0) ≡ false
  unfolding repeated
  none_alike i o h j b = range_no (λ j. same_lists s o (get_or st.lists j 0)) i h j b

  list_right : (i : ℕ) → (eqb (number_at s (get_or st.lists i 0)) (i + 1) && (named s st (i + 1) && not (repeated s st.lists i (get_or st.lists i 0)))) ≡ true → ListRight s st i
  list_right i h =
      let a = both (eqb (number_at s (get_or st.lists i 0)) (i + 1)) _ h in
      let b = both (named s st (i + 1)) (not (repeated s st.lists i (get_or st.lists i 0))) a.1 in
      record {
        number = eqb-true (number_at s (get_or st.lists i 0)) (i + 1) a.0;
        named = named_by (i + 1) b.0;
        different = none_alike i (get_or st.lists i 0) (not-true (repeated s st.lists i (get_or st.lists i 0)) b.1);
      }

  -- a number that some list has as its own is no greater than their count
  module _ (lists : (i : ℕ) → i < length st.lists → ListRight s st i) where
    at_most_lem : (n : ℕ) → zero_or_held s st.lists n ≡ true → n ≤ length st.lists
    at_most_lem n h = ⊎_elim (λ z. omega arith) (λ w. omega (arith, w.1, w.2, (lists w.0 w.1).number)) (zero_or_at s st.lists n h)

    row_right : (r : ℕ) → (zero_or_held s st.lists (first_list s st r) && zero_or_held s st.lists (final_list s st r)) ≡ true
        → (row_due s st r && row_names s st r (greatest s st r)) ≡ true → RowRight s st r
    unfolding row_due row_names
    row_right r h k =
        let l = both (zero_or_held s st.lists (first_list s st r)) (zero_or_held s st.lists (final_list s st r)) h in
        let m = both (row_due s st r) (row_names s st r (greatest s st r)) k in
        let a = both (eqb (byte_at s (row_at st r + 1)) (accent_number_of s st (accent_place (length st.tones) r))) _ m.0 in
        let b = both (eqb (byte_at s (row_at st r + 2)) (number_at s (get_or st.tones (tone_place (length st.tones) r) 0))) _ a.1 in
        let n = both (leb (first_list s st r) (greatest s st r + 1)) (leb (final_list s st r) (max (greatest s st r) (first_list s st r) + 1)) m.1 in
        record {
          accent = eqb-true (byte_at s (row_at st r + 1)) (accent_number_of s st (accent_place (length st.tones) r)) a.0;
          tone = eqb-true (byte_at s (row_at st r + 2)) (number_at s (get_or st.tones (tone_place (length st.tones) r) 0)) b.0;
          prev = eqb-true (byte_at s (row_at st r + 3)) (prev_due s st (prev_place (length st.tones) r)) b.1;
          first_next = leb-true (first_list s st r) (greatest s st r + 1) n.0;
          final_next = leb-true (final_list s st r) (max (greatest s st r) (first_list s st r) + 1) n.1;
          first_held = at_most_lem (first_list s st r) l.0;
          final_held = at_most_lem (final_list s st r) l.1;
        }

pub ordered : (s : List ℕ) (st : SheetRead) (e end : ℕ) → Finished s st e st end → Ordered s st
ordered s st e end f =
    let lists : (i : ℕ) → i < length st.lists → ListRight s st i = λ i b. list_right s st i (lists_right s st f.lists_right i b) in
    record {
      accents_least = accents_not_zero s st f.accents_up;
      accents_up = accents_go_up s st f.accents_up;
      rows = λ r b. row_right s st lists r (rows_held s st f.rows_held r b) (rows_right s st f.rows_right r b);
      lists = lists;
    }
