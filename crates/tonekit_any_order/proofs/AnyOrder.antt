-- "A pack whose accents, each with its rules, are written in any other order gives the same sheet" (`same_sheet`, `same_lookups`), and if one loads, so does the
-- other (`loads_alike`). What is turned back at End with 7 or 20 is turned back so in any order (`refused_alike`), and so what is made of them is the same
-- (`same_outcome`, `same_answer`). Assumes nothing.
use Rattle.std.proofs.Common.{ℕ, ◌+◌, ◌≤◌, ◌≡◌, refl, sym, ◌∙◌, ap, subst, ◌⊎◌, ⊎_elim, List, [], ◌∷◌, ◌++◌, map, arith, ltb, le-ltb, length, length-append}
use Rattle.std.specs.Prelude.{Result, Ok, Err, All, AllPairs, IsPermutation}
use Rattle.std.proofs.lemmas.List.Elements.{All-head, All-tail}
use Rattle.std.proofs.lemmas.List.Sorted.{IsPermutation-map, IsPermutation-sym}
use Rattle.tonekit_core.specs.declared.Refusal.{Refusal}
use Rattle.tonekit_core.specs.declared.Refusal.TheVariants.{Misplaced, Overrun, Loose, EndlessChain}
use Rattle.tonekit_core.specs.Calls.{written, answer_in, buffer_after}
use Rattle.tonekit_core.proofs.Split.{split}
use Rattle.spec_arithmetic.specs.Files.{Out, loaded, refused, single_file}
use Rattle.spec_pack.specs.Pack.{PackRead, size_of, end_verdict, ended, pack_reader, read_pack, load_pack}
use Rattle.spec_lookup.specs.declared.Context.{Context}
use Rattle.spec_lookup.specs.Source.{source_of_pack}
use Rattle.spec_sheet.specs.Sheet.{sheet}
use Rattle.spec_sheet.specs.Outcome.{sheet_outcome}
use Rattle.tonekit_bytes.proofs.Files.{by_verdict, not_loaded, same_loaded}
use Rattle.tonekit_pack.proofs.Single.{loads_alone}
use Rattle.tonekit_records.specs.Records.{no_tally, kind, records_bytes, added_all}
use Rattle.tonekit_records.proofs.Loading.{reads_end}
use Rattle.tonekit_records.proofs.Comes.{WholeRecords, Comes, reads, stops, comes}
use Rattle.tonekit_book.specs.Book.{Book, look_in, source_of, ending_of, book_of}
use Rattle.tonekit_book.specs.Groups.{book_of_records}
use Rattle.tonekit_book.proofs.PackSource.{look_same}
use Rattle.tonekit_book.proofs.SameBook.{pack_sheet}
use Rattle.tonekit_book.proofs.BookOfRecords.{book_of_records_lem}
use Rattle.tonekit_book.proofs.Ending.{records_ending}
use Rattle.tonekit_any_order.specs.Layout.{Block, Layout, blocks_records, layout_records, end_offset, layout_bytes, IsOfKind, IsBlock, IsLayout, InOtherOrder}
use Rattle.tonekit_any_order.specs.AnyOrder.{OtherWay, LoadsAlike, SameSheet, SameLookups, OfParents, RefusedAlike, ComesToEnd, loads, turned_back, SameOutcome, SameAnswer}
use Rattle.tonekit_any_order.proofs.Differ.{Differ, differ_map}
use Rattle.tonekit_any_order.proofs.Alike.{Reads, blocks_differ, turned, turned_is, reads_alike, end_alike}
use Rattle.tonekit_any_order.proofs.BookOrder.{number, same_ending, same_looks}
use Rattle.tonekit_any_order.proofs.Books.{accent_of_block, book_of_layout, layout_book}
use Rattle.tonekit_any_order.proofs.OneSheet.{one_sheet}

-- ---- the records of a pack as it is written are whole, and none of them is End
of_kind : (k : ℕ) (r : List ℕ) → (k ≡ 6 → ⊥) → IsOfKind k r → (length r ≡ size_of (kind r)) × (kind r ≡ 6 → ⊥)
of_kind k r n is = (is.whole ∙ ap size_of (sym is.begins), λ e. n (sym is.begins ∙ e))

-- of either of two kinds, with others behind them
module _ (j k : ℕ) (n : j ≡ 6 → ⊥) (m : k ≡ 6 → ⊥) where
  abbrev Of : List ℕ → Type 0
  Of r = IsOfKind j r ⊎ IsOfKind k r

  either_whole : (rs ys : List (List ℕ)) → All Of rs → WholeRecords ys → WholeRecords (rs ++ ys)
  either_whole [] ys w h = h
  either_whole (r ∷ rs) ys w h =
      let z : (length r ≡ size_of (kind r)) × (kind r ≡ 6 → ⊥) = ⊎_elim (of_kind j r n) (of_kind k r m) (All-head Of r rs w) in
      (z.0, z.1, either_whole rs ys (All-tail Of r rs w) h)

blocks_whole : (bs : List Block) → All IsBlock bs → WholeRecords (blocks_records bs)
unfolding blocks_records
blocks_whole [] w = tt
blocks_whole (b ∷ bs) w =
    let is = All-head IsBlock b bs w in
    let z = of_kind 3 b.accent (λ e. omega arith) is.accent in
    (z.0, z.1, either_whole 4 5 (λ e. omega arith) (λ e. omega arith) b.rules (blocks_records bs) is.rules (blocks_whole bs (All-tail IsBlock b bs w)))

-- ---- one of them
module _ (p : Layout) (is : IsLayout p) where
  abbrev bytes : List ℕ
  bytes = layout_bytes p

  abbrev book : Book
  book = book_of_records (layout_records p)

  abbrev all : PackRead
  all = added_all pack_reader.start.st 0 (layout_records p)

  all_whole : WholeRecords (layout_records p)
  all_whole =
      let z = of_kind 1 p.settings (λ e. omega arith) is.settings in
      (z.0, z.1, either_whole 2 7 (λ e. omega arith) (λ e. omega arith) p.tones (blocks_records p.blocks) is.tones (blocks_whole p.blocks is.blocks))

  -- if the reading comes to End, its records read
  not_parents : (r : Refusal) → OfParents r → r ≡ Misplaced → ⊥
  not_parents r of e = ⊎_elim (λ l. let no : Misplaced ≡ Loose = sym e ∙ l in absurd cc) (λ l. let no : Misplaced ≡ EndlessChain = sym e ∙ l in absurd cc) of

  they_read : {o : Out PackRead} → Comes no_tally (layout_records p) 0 o → ComesToEnd p o → Reads (layout_records p)
  they_read (reads {u} x due) c = record { tally = u; reads = x; due = due }
  they_read (stops q place h z) (loads st e g) = not_loaded q place e st (sym h ∙ g)
  they_read (stops q place h z) (turned_back r of g) =
      let same : refused q place ≡ refused r (end_offset p) = sym h ∙ g in
      let here : place ≡ end_offset p = cc in
      let is-r : r ≡ q = cc in
      absurd (⊎_elim (λ m. not_parents r of (is-r ∙ m)) (λ l. omega arith) z)

  records_read : ComesToEnd p (read_pack bytes) → Reads (layout_records p)
  records_read c = they_read (comes (layout_records p) p.behind all_whole) c

  -- then what is answered is what the tests at End say of the blocks' accents
  module _ (x : Reads (layout_records p)) where
    answer : read_pack bytes ≡ ended (end_offset p) all (end_verdict bytes all)
    answer = reads_end p.behind x.reads x.due

    its_ending : end_verdict bytes all ≡ ending_of (map accent_of_block p.blocks)
    its_ending = records_ending p.behind x.reads x.due ∙ ap (λ (b : Book). ending_of b.accents) (layout_book p is)

    its_book : (st : PackRead) (e : ℕ) → read_pack bytes ≡ loaded st e → book_of bytes st ≡ book
    its_book st e h =
        by_verdict (end_verdict bytes all)
        (λ v. let same = same_loaded all st (end_offset p + 1) e (sym (answer ∙ ap (ended (end_offset p) all) v) ∙ h) in
        ap (book_of bytes) (sym same.0) ∙ book_of_records_lem p.behind x.reads x.due)
        (λ q v. not_loaded q (end_offset p) e st (sym (answer ∙ ap (ended (end_offset p) all) v) ∙ h))

-- ---- the same in another order
module _ (p : Layout) (other : List Block) (is : IsLayout p) (order : IsPermutation p.blocks other) (x : Reads (layout_records p)) where
  abbrev q : Layout
  q = turned p other is order

  is-q : IsLayout q
  is-q = turned_is p other is order

  y : Reads (layout_records q)
  y = reads_alike p other is order x

  accents_order : IsPermutation (map accent_of_block p.blocks) (map accent_of_block other)
  accents_order = IsPermutation-map accent_of_block p.blocks other order

  accents_differ : AllPairs (Differ number) (map accent_of_block p.blocks)
  accents_differ = differ_map number accent_of_block p.blocks (blocks_differ p is x)

  verdict_same : end_verdict (bytes p is) (all p is) ≡ end_verdict (bytes q is-q) (all q is-q)
  verdict_same =
      its_ending p is x ∙ same_ending (map accent_of_block p.blocks) (map accent_of_block other) accents_order accents_differ ∙ sym (its_ending q is-q y)

  -- both load, and end at one place; or both are turned back at End with one refusal
  both_end : (v : Result Unit Refusal) → end_verdict (bytes p is) (all p is) ≡ v
      → (read_pack (bytes p is) ≡ ended (end_offset p) (all p is) v) × (read_pack (bytes q is-q) ≡ ended (end_offset p) (all q is-q) v)
  both_end v e =
      let there : end_offset q ≡ end_offset p = sym (end_alike p other is order) in (
        answer p is x ∙ ap (ended (end_offset p) (all p is)) e,
        answer q is-q y ∙ ap (λ (n : ℕ). ended n (all q is-q) (end_verdict (bytes q is-q) (all q is-q))) there
            ∙ ap (ended (end_offset p) (all q is-q)) (sym verdict_same ∙ e),
      )

  -- books, where both load
  module _ (a b : PackRead) (d e : ℕ) (h : read_pack (bytes p is) ≡ loaded a d) (k : read_pack (bytes q is-q) ≡ loaded b e) where
    one_book : book_of (bytes p is) a ≡ book_of_layout p
    one_book = its_book p is x a d h ∙ layout_book p is

    other_book : book_of (bytes q is-q) b ≡ book_of_layout q
    other_book = its_book q is-q y b e k ∙ layout_book q is-q

    books_sheet : sheet (source_of_pack (bytes p is) a) ≡ sheet (source_of_pack (bytes q is-q) b)
    books_sheet =
        pack_sheet (bytes p is) a ∙ ap (λ (z : Book). sheet (source_of z)) one_book
        ∙ one_sheet (book_of_layout p) (book_of_layout q) refl refl accents_order accents_differ
        ∙ sym (pack_sheet (bytes q is-q) b ∙ ap (λ (z : Book). sheet (source_of z)) other_book)

    books_look : (c : Context) → (source_of_pack (bytes p is) a).look c ≡ (source_of_pack (bytes q is-q) b).look c
    books_look c =
        look_same (bytes p is) a c ∙ ap (λ (z : Book). look_in z c) one_book
        ∙ same_looks (book_of_layout p) (book_of_layout q) refl refl accents_order accents_differ c
        ∙ sym (look_same (bytes q is-q) b c ∙ ap (λ (z : Book). look_in z c) other_book)

-- ---- over the bytes
data Both (s t : List ℕ) : Type 0 where
  both_load : (a b : PackRead) (e : ℕ) → read_pack s ≡ loaded a e → read_pack t ≡ loaded b e → Both s t
  both_refused : (r : Refusal) (place : ℕ) → read_pack s ≡ refused r place → read_pack t ≡ refused r place → Both s t

module _ (s t : List ℕ) (x : InOtherOrder s t) where
  abbrev p : Layout
  p = x.layout

  its_records : ComesToEnd p (read_pack s) → Reads (layout_records p)
  its_records c = records_read p x.is_layout (subst (λ (z : List ℕ). ComesToEnd p (read_pack z)) x.one_is c)

  both : ComesToEnd p (read_pack s) → Both s t
  both c =
      let r = its_records c in
      let end = both_end p x.other x.is_layout x.order r in
      let other = turned p x.other x.is_layout x.order in
      let is-other = turned_is p x.other x.is_layout x.order in
      let one-reads = ap read_pack x.one_is in
      let other-reads = ap read_pack x.other_is in
      by_verdict (end_verdict (bytes p x.is_layout) (all p x.is_layout))
      (λ v. both_load (all p x.is_layout) (all other is-other) (end_offset p + 1) (one-reads ∙ (end (Ok tt) v).0) (other-reads ∙ (end (Ok tt) v).1))
      (λ w v. both_refused w (end_offset p) (one-reads ∙ (end (Err w) v).0) (other-reads ∙ (end (Err w) v).1))

  as_long : length s ≡ length t
  as_long =
      let other = turned p x.other x.is_layout x.order in
      omega (
        arith,
        ap length x.one_is,
        ap length x.other_is,
        length-append (records_bytes (layout_records p)) (6 ∷ p.behind),
        length-append (records_bytes (layout_records other)) (6 ∷ p.behind),
        end_alike p x.other x.is_layout x.order,
      )

pub other_way : OtherWay
other_way s t x = record {
  layout = record x.layout { blocks = x.other };
  other = x.layout.blocks;
  is_layout = turned_is x.layout x.other x.is_layout x.order;
  order = IsPermutation-sym x.layout.blocks x.other x.order;
  one_is = x.other_is;
  other_is = x.one_is;
}

-- if one loads, so does the other
one_loads : (s t : List ℕ) (st : PackRead) (e : ℕ) → read_pack s ≡ loaded st e → Both s t → (fin : PackRead) × (read_pack t ≡ loaded fin e)
one_loads s t st e h (both_load a b d g k) = (b, k ∙ ap (loaded b) (same_loaded a st d e (sym g ∙ h)).1)
one_loads s t st e h (both_refused r place g k) = not_loaded r place e st (sym g ∙ h)

pub loads_alike : LoadsAlike read_pack
loads_alike s t x st e h = one_loads s t st e h (both s t x (loads st e h))

-- an input of the same length that is read so is one pack as well
alone : (t : List ℕ) (st : PackRead) (e : ℕ) → length t ≤ e → read_pack t ≡ loaded st e → load_pack t ≡ loaded st e
unfolding load_pack
alone t st e l h = ap (single_file t) h ∙ (rw (le-ltb e (length t) l))

pub loads_alone_alike : LoadsAlike load_pack
loads_alone_alike s t x st e h =
    let one = loads_alone s st e h in
    let fin = loads_alike s t x st e one.0 in
    (fin.0, alone t fin.0 e (omega (arith, one.1, as_long s t x)) fin.1)

-- they have the same sheet, and every lookup gives the same
pub same_sheet : SameSheet
same_sheet s t x a b d e h k =
    let r = its_records s t x (loads a d h) in
    ap (λ (z : List ℕ). sheet (source_of_pack z a)) x.one_is
    ∙ books_sheet x.layout x.other x.is_layout x.order r a b d e (ap read_pack (sym x.one_is) ∙ h) (ap read_pack (sym x.other_is) ∙ k)
    ∙ ap (λ (z : List ℕ). sheet (source_of_pack z b)) (sym x.other_is)

pub same_lookups : SameLookups
same_lookups s t x a b d e h k c =
    let r = its_records s t x (loads a d h) in
    ap (λ (z : List ℕ). (source_of_pack z a).look c) x.one_is
    ∙ books_look x.layout x.other x.is_layout x.order r a b d e (ap read_pack (sym x.one_is) ∙ h) (ap read_pack (sym x.other_is) ∙ k) c
    ∙ ap (λ (z : List ℕ). (source_of_pack z b).look c) (sym x.other_is)

-- what is turned back at End
one_refused : (s t : List ℕ) (r : Refusal) (at : ℕ) → read_pack s ≡ refused r at → Both s t → read_pack t ≡ refused r at
one_refused s t r at h (both_load a b d g k) = not_loaded r at d a (sym h ∙ g)
one_refused s t r at h (both_refused w place g k) = k ∙ sym g ∙ h

pub refused_alike : RefusedAlike read_pack
refused_alike s t x r of h = one_refused s t r (end_offset x.layout) h (both s t x (turned_back r of h))

-- also as a whole input: what stands behind a pack is told of one that loads alone
alone_refused : (s : List ℕ) (o : Out PackRead) (r : Refusal) (at : ℕ) → (r ≡ Overrun → ⊥) → single_file s o ≡ refused r at → o ≡ refused r at
alone_refused s (loaded st e) r at n h =
    split (ltb e (length s))
    (λ b. let q : refused Overrun e ≡ refused r at = rw b at h in
    let z : r ≡ Overrun = cc in
    absurd (n z))
    (λ b. let q : loaded st e ≡ refused r at = rw b at h in
    not_loaded r at e st (sym q))
alone_refused s (refused w place) r at n h = h

not_overrun : (r : Refusal) → OfParents r → r ≡ Overrun → ⊥
not_overrun r of e = ⊎_elim (λ l. let no : Overrun ≡ Loose = sym e ∙ l in absurd cc) (λ l. let no : Overrun ≡ EndlessChain = sym e ∙ l in absurd cc) of

pub refused_alone_alike : RefusedAlike load_pack
unfolding load_pack
refused_alone_alike s t x r of h =
    ap (single_file t) (refused_alike s t x r of (alone_refused s (read_pack s) r (end_offset x.layout) (not_overrun r of) h))

-- what is made of them
out_same : (s t : List ℕ) → length s ≡ length t
    → ((a b : PackRead) (d e : ℕ) → read_pack s ≡ loaded a d → read_pack t ≡ loaded b e → sheet (source_of_pack s a) ≡ sheet (source_of_pack t b))
    → Both s t → sheet_outcome s ≡ sheet_outcome t
unfolding sheet_outcome load_pack
out_same s t l f (both_load a b e h k) =
    rw (h, k, l)
    (split (ltb e (length t)) (λ c. rw c) (λ c. rw c (ap written (f a b e e h k))))
out_same s t l f (both_refused r place h k) = rw (h, k)

pub same_outcome : SameOutcome
same_outcome s t x c = out_same s t (as_long s t x) (same_sheet s t x) (both s t x c)

pub same_answer : SameAnswer
same_answer s t x c held = let e = same_outcome s t x c in (ap (answer_in (length held)) e, ap (buffer_after held) e)
