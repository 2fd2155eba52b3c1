-- What is said at a pack's End is said of the accents of its book (`ending_same`), and so, where its records read, of theirs (`records_ending`).
-- Assumes nothing.
use Rattle.std.proofs.Common.{ℕ, zero, suc, ◌+◌, ◌≡◌, refl, sym, ◌∙◌, ap, ap₂, true, not, cond, ◌&&◌, List, [], ◌∷◌, ◌++◌, map, length}
use Rattle.std.specs.Prelude.{Option as Found, Some, None, Ok, Err}
use Rattle.tonekit_core.specs.declared.Refusal.TheVariants.{Loose, EndlessChain}
use Rattle.spec_arithmetic.specs.Fields.{byte_at}
use Rattle.spec_arithmetic.specs.Places.{number_at}
use Rattle.spec_pack.specs.Pack.{PackRead, due_after, parents_held, parent_of, or_ends, chain_ends, chains_end, end_verdict, pack_reader}
use Rattle.tonekit_records.specs.Records.{Tally, no_tally, ReadsOn, records_bytes, added_all}
use Rattle.tonekit_records.proofs.Tallies.{zero_same}
use Rattle.tonekit_book.specs.Book.{BookAccent, accent_numbers, accent_parents, parents_among, or_reaches, reaches_end, all_reach_end, ending_of, tabulate, pack_accent, book_of}
use Rattle.tonekit_book.specs.Groups.{book_of_records}
use Rattle.tonekit_book.proofs.Tabulate.{tabulate_length, map_tabulate, tabulate_all}
use Rattle.tonekit_book.proofs.PackSource.{at_found, parent_same}
use Rattle.tonekit_book.proofs.BookOfRecords.{book_of_records_lem}

module _ (s : List ℕ) (st : PackRead) where
  abbrev accents : List BookAccent
  accents = tabulate (pack_accent s st) (length st.accents) 0

  abbrev parent_at : ℕ → ℕ
  parent_at o = byte_at s (o + 2)

  -- ---- parents
  numbers_same : map (number_at s) st.accents ≡ accent_numbers accents
  numbers_same = tabulate_all (number_at s) st.accents ∙ sym (map_tabulate (λ (a : BookAccent). a.accent.number) (pack_accent s st) (length st.accents) 0)

  parents_are : map parent_at st.accents ≡ accent_parents accents
  parents_are = tabulate_all parent_at st.accents ∙ sym (map_tabulate (λ (a : BookAccent). a.parent) (pack_accent s st) (length st.accents) 0)

  held_among : (os : List ℕ) → parents_held s st.accents os ≡ parents_among (map (number_at s) st.accents) (map parent_at os)
  unfolding parents_held parents_among
  held_among [] = refl
  held_among (o ∷ os) = ap₂ (λ x y. x && y) (zero_same s st.accents (parent_at o)) (held_among os)

  pub parents_same : parents_held s st.accents st.accents ≡ parents_among (accent_numbers accents) (accent_parents accents)
  parents_same = held_among st.accents ∙ ap₂ parents_among numbers_same parents_are

  -- ---- chains
  one_up : (n : ℕ) → ((j : ℕ) → chain_ends s st n j ≡ reaches_end accents n (pack_accent s st j)) → (p : Found ℕ)
      → or_ends (chain_ends s st n) p ≡ or_reaches (reaches_end accents n) (at_found (pack_accent s st) p)
  one_up n h None = refl
  one_up n h (Some j) = h j

  pub chain_same : (n i : ℕ) → chain_ends s st n i ≡ reaches_end accents n (pack_accent s st i)
  unfolding chain_ends reaches_end
  chain_same zero i = refl
  chain_same (suc n) i = one_up n (chain_same n) (parent_of s st i) ∙ ap (or_reaches (reaches_end accents n)) (parent_same s st i)

  chains_from : (k i : ℕ) → chains_end s st k i ≡ all_reach_end accents (tabulate (pack_accent s st) k i)
  unfolding chains_end all_reach_end tabulate
  chains_from zero i = refl
  chains_from (suc k) i =
      let many = tabulate_length (pack_accent s st) (length st.accents) 0 in
      ap₂ (λ x y. x && y) (chain_same (length st.accents) i ∙ ap (λ n. reaches_end accents n (pack_accent s st i)) (sym many)) (chains_from k (i + 1))

  -- ---- both tests
  pub ending_same : end_verdict s st ≡ ending_of (book_of s st).accents
  unfolding end_verdict ending_of book_of
  ending_same = λ i. cond (not (parents_same i)) (Err Loose) (cond (not (chains_from (length st.accents) 0 i)) (Err EndlessChain) (Ok tt))

pub records_ending : {u : Tally} {rs : List (List ℕ)} (beyond : List ℕ) → ReadsOn no_tally rs u → due_after u.last 6 ≡ true
    → end_verdict (records_bytes rs ++ (6 ∷ beyond)) (added_all pack_reader.start.st 0 rs) ≡ ending_of (book_of_records rs).accents
records_ending {rs = rs} beyond x due =
    ending_same (records_bytes rs ++ (6 ∷ beyond)) (added_all pack_reader.start.st 0 rs) ∙ ap (λ b. ending_of b.accents) (book_of_records_lem beyond x due)
