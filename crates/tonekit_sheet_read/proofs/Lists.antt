-- The lists at a sheet's end: one that is there, two that differ, and a list's turn with its offset. Assumes nothing.
use Rattle.std.proofs.Common.{ℕ, ◌+◌, ◌≤◌, ◌<◌, ◌≡◌, refl, sym, true, false, cond, not, ◌&&◌, List, arith, eqb, ne_eqb, length, get_or, take, length-take-le, get_or-take, Some}
use Rattle.tonekit_core.specs.Loop.{next, stop, range}
use Rattle.spec_arithmetic.specs.Fields.{byte_at}
use Rattle.spec_pack.specs.Pack.{holds, zero_or_held}
use Rattle.tonekit_pack.proofs.Numbers.{not_held}
use Rattle.tonekit_core.proofs.Split.{split}
use Rattle.spec_sheet.specs.Reader.{SheetRead, named, list_size, same_lists, repeated}
use Rattle.tonekit_sheet.specs.Parts.{same_turn, equal_turn, list_turn}
use Rattle.tonekit_core.proofs.LoopLaws.{range_same}
use Rattle.tonekit_sheet_read.proofs.Loops.{settled, range_parts}

-- the list at place p has the number x
pub there : (s os : List ℕ) (p x : ℕ) → p < length os → byte_at s (get_or os p 0 + 1) ≡ x → true ≡ zero_or_held s os x
unfolding zero_or_held
there s os p x h e =
    split (holds s os x)
    (λ t. split (eqb x 0) (λ q. rw q) (λ q. rw (q, t)))
    (λ t. absurd (not_held s os x t p h e))

-- lists that differ in a byte are not equal
pub differ : (s : List ℕ) (a b k : ℕ) → 2 ≤ k → k < list_size s a → (byte_at s (a + k) ≡ byte_at s (b + k) → ⊥) → false ≡ same_lists s a b
unfolding same_lists
differ s a b k l h n =
    let f = same_turn s a b in
    settled f (sym (range_parts f 2 k (list_size s a) true l (omega arith))) h
    (split (range f 2 k true) (λ t. rw (t, ne_eqb (byte_at s (a + k)) (byte_at s (b + k)) n)) (λ t. rw t)) (λ i. refl)

-- lists that have the same offsets up to place n
pub repeated_same : (s os xs : List ℕ) (n o : ℕ) → ((i : ℕ) → i < n → get_or os i 0 ≡ get_or xs i 0) → repeated s os n o ≡ repeated s xs n o
unfolding repeated
repeated_same s os xs n o h =
    range_same (equal_turn s os o) (equal_turn s xs o) 0 n false (omega arith) (λ j t l. rw (h j l))

-- a list's turn, with those before it as a part of their own
module _ (s : List ℕ) (st : SheetRead) where
  turn_at : (i o : ℕ) → i < length st.lists → o ≡ get_or st.lists i 0
      → list_turn s st i 0
      ≡ cond (eqb (byte_at s (o + 1)) (i + 1) && (named s st (i + 1) && not (repeated s (take i st.lists) (length (take i st.lists)) o)))
      (next 0)
      (stop (Some o))
  turn_at i o h e =
      let n : length (take i st.lists) ≡ i = length-take-le i st.lists (omega arith) in
      let r : repeated s st.lists i o ≡ repeated s (take i st.lists) i o =
      repeated_same s st.lists (take i st.lists) i o (λ j l. sym (get_or-take i st.lists j 0 l)) in
      rw (n, ← e, r) refl

  pub list_turn_at : (os : List ℕ) → os ≡ st.lists → (i o : ℕ) → i < length os → o ≡ get_or os i 0
      → list_turn s st i 0
      ≡ cond (eqb (byte_at s (o + 1)) (i + 1) && (named s st (i + 1) && not (repeated s (take i os) (length (take i os)) o)))
      (next 0)
      (stop (Some o))
  list_turn_at os q i o h e = rw q (turn_at i o (rw q at h) (rw q at e))
