-- Marks of a sheet's lists: equal lists have one mark, and one more mark is kept with the others. Assumes nothing.
use Rattle.std.proofs.Common.{ℕ, ◌+◌, ◌*◌, ◌≤◌, ◌<◌, ◌≡◌, sym, ◌∙◌, ap, true, false, List, [], ◌∷◌, ◌++◌, arith, eqb, ltb, ltb-true, ltb-false, length, get_or, take, get_or-take, eqb-true}
use borrow.Author.Tests.{eqb-false}
use Rattle.tonekit_core.specs.Loop.{range}
use Rattle.tonekit_core.proofs.LoopLaws.{range_same}
use lib.ListN.{get_or-append}
use lib.Seq.{get_or_at}
use Rattle.spec_arithmetic.specs.Fields.{byte_at, u32_at}
use Rattle.tonekit_core.proofs.Split.{split, absurd_bool}
use Rattle.tonekit_sheet.specs.Marks.{mixed}
use Rattle.spec_sheet.specs.Reader.{list_size, same_lists}
use Rattle.tonekit_sheet_read.specs.Marks.{mark_turn, mark_at, Marked}
use Rattle.tonekit_sheet_read.proofs.Lists.{differ}

-- ---- equal lists
module _ (s : List ℕ) (a b : ℕ) (e : same_lists s a b ≡ true) where
  byte_same : (k : ℕ) → 2 ≤ k → k < list_size s a → byte_at s (a + k) ≡ byte_at s (b + k)
  byte_same k l h =
      split (eqb (byte_at s (a + k)) (byte_at s (b + k))) (λ t. eqb-true (byte_at s (a + k)) (byte_at s (b + k)) t)
      (λ t. absurd_bool (differ s a b k l h (eqb-false (byte_at s (a + k)) (byte_at s (b + k)) t) ∙ e))

  count_same : byte_at s (a + 6) ≡ byte_at s (b + 6)
  count_same = byte_same 6 (omega arith) (omega arith)

  behind_same : (k i : ℕ) → 2 ≤ k → k + i < list_size s a → byte_at s (a + k + i) ≡ byte_at s (b + k + i)
  behind_same k i l h =
      let p : a + k + i ≡ a + (k + i) = omega arith in
      let q : b + k + i ≡ b + (k + i) = omega arith in
      rw (p, q) (byte_same (k + i) (omega arith) h)

  word_same : (k : ℕ) → 2 ≤ k → k + 4 ≤ list_size s a → u32_at s (a + k) ≡ u32_at s (b + k)
  word_same k l h =
      let p : a + k + 2 + 1 ≡ a + k + 3 = omega arith in
      let q : b + k + 2 + 1 ≡ b + k + 3 = omega arith in
      rw (p, q, byte_same k l (omega arith), behind_same k 1 l (omega arith), behind_same k 2 l (omega arith), behind_same k 3 l (omega arith))

  mark_same : mark_at s a ≡ mark_at s b
  unfolding mark_at
  mark_same =
      range_same (mark_turn s a) (mark_turn s b) 0 (11 * byte_at s (a + 6)) 0 (omega arith) (λ k m h. ap (mixed m) (word_same (8 + 4 * k) (omega arith) (omega arith)))
      ∙ ap (λ (n : ℕ). range (mark_turn s b) 0 (11 * n) 0) count_same

pub marked_apart : (s : List ℕ) (a b : ℕ) → (mark_at s a ≡ mark_at s b → ⊥) → false ≡ same_lists s a b
marked_apart s a b h = split (same_lists s a b) (λ e. absurd (h (mark_same s a b e))) (λ e. sym e)

-- ---- one more mark
pub marked_more : (s at marks : List ℕ) (n m : ℕ) → length marks ≡ n → Marked s at marks n → m ≡ mark_at s (get_or at n 0) → Marked s at (marks ++ (m ∷ [])) (n + 1)
marked_more s at marks n m l g e i h =
    split (ltb i n)
    (λ b. get_or-append marks (m ∷ []) 0 i (rw l (ltb-true i n b)) ∙ g i (ltb-true i n b))
    (λ b. let q : i ≡ n = omega (arith, ltb-false i n b) in rw q (get_or_at marks m [] 0 n l ∙ e))

-- the marks of the first n lists, beside those lists alone
pub marked_part : (s at marks : List ℕ) (n : ℕ) → n ≤ length at → length marks ≡ n → Marked s at marks n → Marked s (take n at) marks (length marks)
marked_part s at marks n h l g i b =
    let c : i < n = omega (arith, l) in
    rw (get_or-take n at i 0 c) (g i c)
