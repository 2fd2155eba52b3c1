-- What a record that is fine shows: its kind was due, it is whole, and each test of its body passed. Assumes nothing.
use Prim.Native.Nat.{ℕ, ◌+◌, ◌≤◌, ◌<◌}
use mathlib.Core.Path.{◌≡◌, refl, ap}
use mathlib.Core.Bool.{true, false, not, ◌&&◌, ◌||◌}
use mathlib.Core.List.{List}
use native.Mathlib.Omega.{arith}
use lib.ListN.{length}
use lib.Dec.{eqb, leb, ltb}
use borrow.Author.Tests.{eqb-true, leb-false, ltb-true, ltb-false, not-true}
use Rattle.std.specs.Prelude.{Ok}
use Rattle.spec_arithmetic.specs.Fields.{byte_at}
use Rattle.spec_arithmetic.specs.Places.{number_at}
use Rattle.spec_pack.specs.Ranges.{tails_fine}
use Rattle.spec_pack.specs.Pack.{holds, accent_fine, tail_verdict}
use Rattle.tonekit_sheet.specs.Kinds.{reached}
use Rattle.tonekit_core.proofs.Split.{split, either, neither, both, not_zero}
use Rattle.tonekit_pack.proofs.Records.{Passed, passed}
use Rattle.tonekit_bytes.proofs.Files.{fine}
use Rattle.spec_sheet.specs.Reader.{SheetRead, rows_due, complete, due_next, size_of, tone_fine, tone_verdict, accent_verdict, list_crowded, list_fine, list_verdict, component_fine, component_verdict, body_verdict, record_verdict}

-- a list or the end is due: after the last row, or after the last component of a list
pub data Complete (st : SheetRead) : Type 0 where
  rows_done : st.last ≡ 20 → st.rows ≡ rows_due st → Complete st
  list_done : st.last ≡ 22 → st.due ≡ 0 → Complete st

-- which kind is due
pub data Due (st : SheetRead) : ℕ → Type 0 where
  settings : st.last ≡ 0 → Due st 17
  tone : 17 ≤ reached st.last → reached st.last ≤ 18 → (st.last ≡ 18 → ⊥) → Due st 18
  tail : st.last ≡ 18 → reached st.last ≡ 18 → Due st 24
  accent : 18 ≤ reached st.last → reached st.last ≤ 19 → (st.last ≡ 18 → ⊥) → Due st 19
  row : 19 ≤ reached st.last → reached st.last ≤ 20 → st.rows < rows_due st → Due st 20
  list : Complete st → Due st 21
  component : 0 < st.due → Due st 22
  finish : Complete st → Due st 23

module _ (st : SheetRead) where
  is_complete : complete st ≡ true → Complete st
  unfolding complete
  is_complete h =
      split (eqb st.last 20)
      (λ a. rows_done (eqb-true st.last 20 a) (eqb-true st.rows (rows_due st) (rw a at h)))
      (λ a. let b = both (eqb st.last 22) (eqb st.due 0) (rw a at h) in list_done (eqb-true st.last 22 b.0) (eqb-true st.due 0 b.1))

  -- what a test of the last kind says of how far the sheet is read
  was : {P : Type 0} (k : ℕ) → eqb st.last k ≡ true → (st.last ≡ k → reached st.last ≡ reached k → P) → P
  was k h f = let e = eqb-true st.last k h in f e (ap reached e)

  is_tone : (eqb st.last 17 || eqb st.last 24) ≡ true → Due st 18
  is_tone h =
      either (eqb st.last 17) (eqb st.last 24) h (λ q. was 17 q (λ e r. tone (omega arith) (omega arith) (λ x. omega arith)))
      (λ q. was 24 q (λ e r. tone (omega arith) (omega arith) (λ x. omega arith)))

  is_accent : (eqb st.last 24 || eqb st.last 19) ≡ true → Due st 19
  is_accent h =
      either (eqb st.last 24) (eqb st.last 19) h (λ q. was 24 q (λ e r. accent (omega arith) (omega arith) (λ x. omega arith)))
      (λ q. was 19 q (λ e r. accent (omega arith) (omega arith) (λ x. omega arith)))

  is_row : ((eqb st.last 19 || eqb st.last 20) && ltb st.rows (rows_due st)) ≡ true → Due st 20
  is_row h =
      let b = both (eqb st.last 19 || eqb st.last 20) (ltb st.rows (rows_due st)) h in
      let due = ltb-true st.rows (rows_due st) b.1 in
      either (eqb st.last 19) (eqb st.last 20) b.0 (λ q. was 19 q (λ e r. row (omega arith) (omega arith) due)) (λ q. was 20 q (λ e r. row (omega arith) (omega arith) due))

  is_last : (k : ℕ) → ((eqb k 21 || eqb k 23) && complete st) ≡ true → Due st k
  is_last k h =
      let b = both (eqb k 21 || eqb k 23) (complete st) h in
      either (eqb k 21) (eqb k 23) b.0 (λ q. rw (eqb-true k 21 q) (list (is_complete b.1))) (λ q. rw (eqb-true k 23 q) (finish (is_complete b.1)))

  pub due_is : (k : ℕ) → due_next st k ≡ true → Due st k
  unfolding due_next
  due_is k h =
      split (eqb k 17) (λ a. rw (eqb-true k 17 a) (settings (eqb-true st.last 0 (rw a at h))))
      (λ a. split (eqb k 18) (λ b. rw (eqb-true k 18 b) (is_tone (rw (a, b) at h)))
      (λ b. split (eqb k 24) (λ t. rw (eqb-true k 24 t) (was 18 (rw (a, b, t) at h) tail))
      (λ t. split (eqb k 19) (λ d. rw (eqb-true k 19 d) (is_accent (rw (a, b, t, d) at h)))
      (λ d. split (eqb k 20) (λ e. rw (eqb-true k 20 e) (is_row (rw (a, b, t, d, e) at h)))
      (λ e. split (eqb k 22) (λ f. rw (eqb-true k 22 f) (component (ltb-true 0 st.due (rw (a, b, t, d, e, f) at h))))
      (λ f. is_last k (rw (a, b, t, d, e, f) at h)))))))

-- at the end a list could stand too
pub closes : (st : SheetRead) {k : ℕ} → k ≡ 23 → Due st k → Complete st
closes st q (settings z) = absurd (omega arith)
closes st q (tone l u n) = absurd (omega arith)
closes st q (tail e r) = absurd (omega arith)
closes st q (accent l u n) = absurd (omega arith)
closes st q (row l u d) = absurd (omega arith)
closes st q (list c) = absurd (omega arith)
closes st q (component d) = absurd (omega arith)
closes st q (finish c) = c

pub size_pos : (k : ℕ) → 1 ≤ size_of k
unfolding size_of
size_pos k =
    split (eqb k 17) (λ a. rw a (omega arith)) (λ a. split (eqb k 18) (λ b. rw (a, b) (omega arith)) (λ b. split (eqb k 24) (λ t. rw (a, b, t) (omega arith))
    (λ t. split (eqb k 19) (λ d. rw (a, b, t, d) (omega arith)) (λ d. split (eqb k 20) (λ e. rw (a, b, t, d, e) (omega arith))
    (λ e. split (eqb k 21) (λ f. rw (a, b, t, d, e, f) (omega arith)) (λ f. split (eqb k 22) (λ g. rw (a, b, t, d, e, f, g) (omega arith))
    (λ g. rw (a, b, t, d, e, f, g) (omega arith))))))))

module _ (s : List ℕ) (at : ℕ) (st : SheetRead) where
  pub record Sound : Type 0 where
    pub inside : at < length s
    pub whole : at + size_of (byte_at s at) ≤ length s
    pub due : Due st (byte_at s at)
    pub body : body_verdict (byte_at s at) s at st ≡ Ok tt

  pub sound : record_verdict s at st ≡ Ok tt → Sound
  unfolding record_verdict
  sound h =
      let f = fine (due_next st) size_of (λ k. body_verdict k s at st) s at h in
      record { inside = f.inside; whole = f.whole; due = due_is st (byte_at s at) f.in_turn; body = f.body }

  pub tone_passed : body_verdict 18 s at st ≡ Ok tt → Passed (leb 8 (length st.tones)) (tone_fine s at) (not (holds s st.tones (number_at s at))) true
  unfolding body_verdict tone_verdict
  tone_passed h = passed (leb 8 (length st.tones)) (tone_fine s at) (not (holds s st.tones (number_at s at))) true h

  pub tail_passed : body_verdict 24 s at st ≡ Ok tt → tails_fine s at ≡ true
  unfolding body_verdict tail_verdict
  tail_passed h = (passed false (tails_fine s at) true true h).ranges

  pub accent_passed : body_verdict 19 s at st ≡ Ok tt → Passed (leb 8 (length st.accents)) (accent_fine 2 s at) (not (holds s st.accents (number_at s at))) true
  unfolding body_verdict accent_verdict
  accent_passed h = passed (leb 8 (length st.accents)) (accent_fine 2 s at) (not (holds s st.accents (number_at s at))) true h

  pub list_passed : body_verdict 21 s at st ≡ Ok tt → Passed (list_crowded s at st) (list_fine s at) true (holds s st.accents (byte_at s (at + 2)))
  unfolding body_verdict list_verdict
  list_passed h = passed (list_crowded s at st) (list_fine s at) true (holds s st.accents (byte_at s (at + 2))) h

  pub component_passed : body_verdict 22 s at st ≡ Ok tt → Passed (leb 192 st.total) (component_fine s at st) true true
  unfolding body_verdict component_verdict
  component_passed h = passed (leb 192 st.total) (component_fine s at st) true true h

  -- a record that is fine has room
  pub tone_room : body_verdict 18 s at st ≡ Ok tt → length st.tones < 8
  tone_room h = leb-false 8 (length st.tones) (tone_passed h).room

  pub accent_room : body_verdict 19 s at st ≡ Ok tt → length st.accents < 8
  accent_room h = leb-false 8 (length st.accents) (accent_passed h).room

  pub component_room : body_verdict 22 s at st ≡ Ok tt → st.total < 192
  component_room h = leb-false 192 st.total (component_passed h).room

  -- of a list: room for it, and at most 4 components
  pub record ListRoom : Type 0 where
    pub few : length st.lists < 128
    pub count : byte_at s (at + 6) ≤ 4

  pub list_room : body_verdict 21 s at st ≡ Ok tt → ListRoom
  list_room h =
      let form = byte_at s (at + 3) in
      let n = byte_at s (at + 6) in
      let more = ltb 1 n && not (eqb form 3) in
      let a = neither (leb 128 (length st.lists)) (ltb 4 n || more) (list_passed h).room in
      let b = neither (ltb 4 n) more a.1 in
      record {
        few = leb-false 128 (length st.lists) a.0;
        count = ltb-false 4 n b.0;
      }

  -- and at least one
  pub list_some : body_verdict 21 s at st ≡ Ok tt → 1 ≤ byte_at s (at + 6)
  list_some h =
      let a = both (not (eqb (number_at s at) 0)) _ (list_passed h).ranges in
      let b = both (not (eqb (byte_at s (at + 2)) 0)) _ a.1 in
      let c = both (leb 1 (byte_at s (at + 3)) && leb (byte_at s (at + 3)) 3) _ b.1 in
      not_zero (byte_at s (at + 6)) (both (not (eqb (byte_at s (at + 6)) 0)) _ c.1).0

  -- a tone's number is not 0, and no tone before it has it
  pub tone_number : body_verdict 18 s at st ≡ Ok tt → (1 ≤ number_at s at) × (holds s st.tones (number_at s at) ≡ false)
  tone_number h =
      let p = tone_passed h in
      (not_zero (number_at s at) (both (not (eqb (number_at s at) 0)) _ p.ranges).0, not-true (holds s st.tones (number_at s at)) p.once)
