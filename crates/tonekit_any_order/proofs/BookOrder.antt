-- Accents of a book in another order: each is found by its number as before (`same_found`), so every lookup gives the same (`same_looks`), they have one sheet
-- (`one_sheet`), and at End the same is said of them (`same_ending`). Assumes nothing.
use Rattle.std.proofs.Common.{ℕ, zero, suc, ◌<◌, ◌≡◌, refl, sym, ◌∙◌, ap, ap₂, Bool, true, false, not, cond, ◌&&◌, ◌||◌, List, [], ◌∷◌, map, arith, eqb, eqb-true, eq-eqb, length, get_or}
use mathlib.Core.Option.{Option, none, some}
use Rattle.std.specs.Prelude.{All, AllPairs, Contains, IsPermutation, Ok, Err}
use Rattle.std.proofs.lemmas.List.Elements.{All-nil, All-cons, All-head, All-tail}
use Rattle.std.proofs.lemmas.List.Sorted.{All-permutation, Contains-permutation, length_permutation, IsPermutation-map, IsPermutation-sym}
use Rattle.tonekit_core.specs.declared.Refusal.TheVariants.{Loose, EndlessChain}
use Rattle.tonekit_core.proofs.Split.{split, both, absurd_bool}
use Rattle.spec_lookup.specs.declared.Context.{Context}
use Rattle.spec_lookup.specs.Source.{Accent, accent_in}
use Rattle.tonekit_records.specs.Records.{among, zero_or_among}
use Rattle.tonekit_book.specs.Book.{BookAccent, BookTone, Book, first_with, book_accent_in, book_tone_in, best_of, given_or, from_parent, climb, or_citation, look_with, look_in, accent_numbers, accent_parents, parents_among, or_reaches, reaches_end, all_reach_end, ending_of}
use Rattle.tonekit_any_order.proofs.Differ.{Differ, differ_in_order, differ_rest}

abbrev pub number : BookAccent → ℕ
number a = a.accent.number

-- ---- an accent is found by its number
by_option : {A P : Type 0} (o : Option A) → (o ≡ none → P) → ((a : A) → o ≡ some a → P) → P
by_option none f g = f refl
by_option (some a) f g = g a refl

found_at : (l : List BookAccent) → AllPairs (Differ number) l → (a : BookAccent) (k : ℕ) → k < length l → get_or l k a ≡ a → book_accent_in l (number a) ≡ some a
unfolding first_with
found_at [] d a k h e = absurd (omega arith)
found_at (b ∷ l) d a zero h e = rw (eq-eqb (number b) (number a) (ap number e)) (ap some e)
found_at (b ∷ l) d a (suc k) h e =
    let away : eqb (number b) (number a) ≡ false = ap (λ (x : BookAccent). eqb (number b) (number x)) (sym e) ∙ d 0 (suc k) a (omega arith) h in
    rw away (found_at l (differ_rest number b l d) a k (omega arith) e)

there : (l : List BookAccent) (n : ℕ) (a : BookAccent) → book_accent_in l n ≡ some a → Contains l a × (number a ≡ n)
unfolding first_with
there [] n a h = absurd cc
there (b ∷ l) n a h =
    split (eqb (number b) n)
    (λ t. let q : some b ≡ some a = rw t at h in
    let e : b ≡ a = cc in
    ((0, omega arith, e), ap number (sym e) ∙ eqb-true (number b) n t))
    (λ t. let x = there l n a (rw t at h) in
    ((suc x.0.0, omega (arith, x.0.1), x.0.2), x.1))

to_other : (l m : List BookAccent) → IsPermutation l m → AllPairs (Differ number) m → (n : ℕ) (a : BookAccent) → book_accent_in l n ≡ some a → book_accent_in m n ≡ some a
to_other l m p d n a e =
    let x = there l n a e in
    let c = Contains-permutation l m a p x.0 in
    ap (book_accent_in m) (sym x.1) ∙ found_at m d a c.0 c.1 c.2

-- ---- a test of each
all_pass : {X : Type 0} → (X → Bool) → List X → Bool
all_pass test [] = true
all_pass test (x ∷ xs) = test x && all_pass test xs

module _ {X : Type 0} (test : X → Bool) where
  passes : (xs : List X) → all_pass test xs ≡ true → All (λ x. test x ≡ true) xs
  unfolding all_pass
  passes [] h = All-nil (λ x. test x ≡ true)
  passes (x ∷ xs) h = let b = both (test x) (all_pass test xs) h in All-cons (λ x. test x ≡ true) x xs b.0 (passes xs b.1)

  passed : (xs : List X) → All (λ x. test x ≡ true) xs → all_pass test xs ≡ true
  unfolding all_pass
  passed [] h = refl
  passed (x ∷ xs) h = rw (All-head (λ x. test x ≡ true) x xs h) (passed xs (All-tail (λ x. test x ≡ true) x xs h))

  pass_in_order : (xs ys : List X) → IsPermutation xs ys → all_pass test xs ≡ all_pass test ys
  pass_in_order xs ys p =
      split (all_pass test xs)
      (λ a. a ∙ sym (passed ys (All-permutation (λ x. test x ≡ true) xs ys p (passes xs a))))
      (λ a. split (all_pass test ys)
      (λ b. absurd_bool (sym a ∙ passed xs (All-permutation (λ x. test x ≡ true) ys xs (IsPermutation-sym xs ys p) (passes ys b))))
      (λ b. a ∙ sym b))

pass_same : {X : Type 0} (f g : X → Bool) → ((x : X) → f x ≡ g x) → (xs : List X) → all_pass f xs ≡ all_pass g xs
unfolding all_pass
pass_same f g h [] = refl
pass_same f g h (x ∷ xs) = ap₂ (λ a b. a && b) (h x) (pass_same f g h xs)

-- ---- numbers among others
among_at : (l : List ℕ) (n k : ℕ) → k < length l → get_or l k n ≡ n → among l n ≡ true
unfolding among
among_at [] n k h e = absurd (omega arith)
among_at (a ∷ l) n zero h e = rw (eq-eqb a n e)
among_at (a ∷ l) n (suc k) h e = split (eqb a n) (λ t. rw t) (λ t. rw t (among_at l n k (omega arith) e))

among_there : (l : List ℕ) (n : ℕ) → among l n ≡ true → Contains l n
unfolding among
among_there [] n h = absurd_bool h
among_there (a ∷ l) n h =
    split (eqb a n) (λ t. (0, omega arith, eqb-true a n t)) (λ t. let x = among_there l n (rw t at h) in (suc x.0, omega (arith, x.1), x.2))

among_in_order : (l m : List ℕ) → IsPermutation l m → (n : ℕ) → among l n ≡ among m n
among_in_order l m p n =
    split (among l n)
    (λ a. let c = Contains-permutation l m n p (among_there l n a) in a ∙ sym (among_at m n c.0 c.1 c.2))
    (λ a. split (among m n)
    (λ b. let c = Contains-permutation m l n (IsPermutation-sym l m p) (among_there m n b) in absurd_bool (sym a ∙ among_at l n c.0 c.1 c.2))
    (λ b. a ∙ sym b))

parents_all : (numbers ps : List ℕ) → parents_among numbers ps ≡ all_pass (zero_or_among numbers) ps
unfolding parents_among all_pass
parents_all numbers [] = refl
parents_all numbers (p ∷ ps) = ap (λ b. zero_or_among numbers p && b) (parents_all numbers ps)

reach_all : (l xs : List BookAccent) → all_reach_end l xs ≡ all_pass (reaches_end l (length l)) xs
unfolding all_reach_end all_pass
reach_all l [] = refl
reach_all l (a ∷ xs) = ap (λ b. reaches_end l (length l) a && b) (reach_all l xs)

-- ---- accents in two orders, no two with one number
module _ (l m : List BookAccent) (order : IsPermutation l m) (differ : AllPairs (Differ number) l) where
  pub same_found : (n : ℕ) → book_accent_in l n ≡ book_accent_in m n
  same_found n =
      by_option (book_accent_in l n)
      (λ e. by_option (book_accent_in m n) (λ f. e ∙ sym f) (λ b f. let z : none ≡ some b = sym e ∙ to_other m l (IsPermutation-sym l m order) differ n b f in absurd cc))
      (λ a e. e ∙ sym (to_other l m order (differ_in_order number l m order differ) n a e))

  many : length l ≡ length m
  many = sym (length_permutation l m order)

  -- ---- what is said at End
  zero_same : (n : ℕ) → zero_or_among (accent_numbers l) n ≡ zero_or_among (accent_numbers m) n
  unfolding zero_or_among
  zero_same n = ap (λ b. eqb n 0 || b) (among_in_order (accent_numbers l) (accent_numbers m) (IsPermutation-map number l m order) n)

  parents_same : parents_among (accent_numbers l) (accent_parents l) ≡ parents_among (accent_numbers m) (accent_parents m)
  parents_same =
      parents_all (accent_numbers l) (accent_parents l)
      ∙ pass_in_order (zero_or_among (accent_numbers l)) (accent_parents l) (accent_parents m) (IsPermutation-map (λ (a : BookAccent). a.parent) l m order)
      ∙ pass_same (zero_or_among (accent_numbers l)) (zero_or_among (accent_numbers m)) zero_same (accent_parents m)
      ∙ sym (parents_all (accent_numbers m) (accent_parents m))

  one_up : (n : ℕ) → ((a : BookAccent) → reaches_end l n a ≡ reaches_end m n a) → (o : Option BookAccent) → or_reaches (reaches_end l n) o ≡ or_reaches (reaches_end m n) o
  one_up n h none = refl
  one_up n h (some a) = h a

  reaches_same : (n : ℕ) (a : BookAccent) → reaches_end l n a ≡ reaches_end m n a
  unfolding reaches_end
  reaches_same zero a = refl
  reaches_same (suc n) a = one_up n (reaches_same n) (book_accent_in l a.parent) ∙ ap (or_reaches (reaches_end m n)) (same_found a.parent)

  chains_same : all_reach_end l l ≡ all_reach_end m m
  chains_same =
      reach_all l l ∙ pass_in_order (reaches_end l (length l)) l m order
      ∙ pass_same (reaches_end l (length l)) (reaches_end m (length m)) (λ a. reaches_same (length l) a ∙ ap (λ n. reaches_end m n a) many) m
      ∙ sym (reach_all m m)

  pub same_ending : ending_of l ≡ ending_of m
  unfolding ending_of
  same_ending = λ i. cond (not (parents_same i)) (Err Loose) (cond (not (chains_same i)) (Err EndlessChain) (Ok tt))

  -- ---- lookups
  parent_same : (c : Context) (n : ℕ) → ((a : BookAccent) → climb l c n a ≡ climb m c n a) → (o : Option BookAccent)
      → from_parent (climb l c n) o ≡ from_parent (climb m c n) o
  parent_same c n h none = refl
  parent_same c n h (some a) = h a

  climb_same : (c : Context) (n : ℕ) (a : BookAccent) → climb l c n a ≡ climb m c n a
  unfolding climb
  climb_same c zero a = refl
  climb_same c (suc n) a =
      ap (given_or (best_of c a.rules)) (parent_same c n (climb_same c n) (book_accent_in l a.parent) ∙ ap (from_parent (climb m c n)) (same_found a.parent))

  with_same : (c : Context) (a : Option BookAccent) (t : Option BookTone) → look_with l c a t ≡ look_with m c a t
  with_same c none t = refl
  with_same c (some a) none = refl
  with_same c (some a) (some t) = ap (or_citation c.accent t) (climb_same c (length l) a ∙ ap (λ n. climb m c n a) many)

-- the accent itself, without parent and rules
pub accent_part : Option BookAccent → Option Accent
accent_part none = none
accent_part (some a) = some a.accent

pub accent_of : (l : List BookAccent) (n : ℕ) → accent_in (map (λ (a : BookAccent). a.accent) l) n ≡ accent_part (book_accent_in l n)
unfolding accent_in first_with accent_part
accent_of [] n = refl
accent_of (a ∷ l) n = split (eqb (number a) n) (λ t. rw t) (λ t. rw t (accent_of l n))

-- ---- two books that differ in the order of their accents alone
module _ (a b : Book) (settings : a.settings ≡ b.settings) (tones : a.tones ≡ b.tones) (order : IsPermutation a.accents b.accents)
    (differ : AllPairs (Differ number) a.accents) where
  pub same_looks : (c : Context) → look_in a c ≡ look_in b c
  unfolding look_in
  same_looks c =
      with_same a.accents b.accents order differ c (book_accent_in a.accents c.accent) (book_tone_in a.tones c.tone)
      ∙ ap₂ (look_with b.accents c) (same_found a.accents b.accents order differ c.accent) (ap (λ ts. book_tone_in ts c.tone) tones)
