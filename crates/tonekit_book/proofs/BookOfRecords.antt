-- The book of a pack is that of its records (`book_of_records_lem`), and so, for every pack that loads, is all that its station holds (`records_source`) and
-- its sheet (`records_sheet`). Assumes nothing.
use Rattle.std.proofs.Common.{ℕ, ◌≡◌, refl, sym, ◌∙◌, ap, ap₂, true, List, ◌∷◌, ◌++◌, append_assoc, arith, length, drop}
use Rattle.spec_arithmetic.specs.Files.{loaded}
use Rattle.spec_pack.specs.Pack.{PackRead, due_after, size_of, read_pack, pack_reader}
use Rattle.tonekit_core.proofs.Split.{absurd_bool}
use Rattle.tonekit_pack.proofs.Records.{Due, due_is, settings, tone, tail, accent, rule, part, finish}
use Rattle.spec_lookup.specs.Source.{settings_at, source_of_pack}
use Rattle.spec_sheet.specs.Sheet.{sheet}
use Rattle.tonekit_bytes.proofs.Stands.{stands_front}
use Rattle.tonekit_records.specs.Records.{Tally, no_tally, kind, ReadsOn, none, more, records_bytes, added_all}
use Rattle.tonekit_records.proofs.OwnBytes.{u32_same}
use Rattle.tonekit_records.proofs.Loading.{fine_due, load_reads}
use Rattle.tonekit_book.specs.Book.{source_of, book_of}
use Rattle.tonekit_book.specs.Groups.{first_record, book_of_records}
use Rattle.tonekit_book.proofs.PackSource.{pack_source}
use Rattle.tonekit_book.proofs.Accents.{accents_own}
use Rattle.tonekit_book.proofs.Tones.{tones_own}

-- ---- the settings stand first
first_due : {k : ℕ} → Due 0 k → k ≡ 1
first_due (settings e) = refl
first_due (tone l u) = absurd (omega arith)
first_due (tail e u) = absurd (omega arith)
first_due (accent l u) = absurd (omega arith)
first_due (rule l u) = absurd (omega arith)
first_due (part l u) = absurd (omega arith)
first_due (finish l u) = absurd (omega arith)

settings_own : {u : Tally} {rs : List (List ℕ)} (beyond : List ℕ) → ReadsOn no_tally rs u → due_after u.last 6 ≡ true
    → settings_at (records_bytes rs ++ (6 ∷ beyond)) 0 ≡ settings_at (first_record rs) 0
unfolding due_after size_of records_bytes
settings_own beyond none d = absurd_bool d
settings_own beyond (more {r = r} {rs = rs} w n fine x) d =
    let s = (r ++ records_bytes rs) ++ (6 ∷ beyond) in
    let h = stands_front s 0 r (records_bytes rs ++ (6 ∷ beyond)) (append_assoc r (records_bytes rs) (6 ∷ beyond)) (omega arith) in
    let z : length r ≡ size_of 1 = w ∙ ap size_of (first_due (due_is 0 (kind r) (fine_due r no_tally fine))) in
    let a = u32_same s 0 r h 1 1 refl (omega arith) in
    let b = u32_same s 0 r h 5 5 refl (omega arith) in
    λ i. record { temperature = a i; threshold = b i }

-- ---- the book
pub book_of_records_lem : {u : Tally} {rs : List (List ℕ)} (beyond : List ℕ) → ReadsOn no_tally rs u → due_after u.last 6 ≡ true
    → book_of (records_bytes rs ++ (6 ∷ beyond)) (added_all pack_reader.start.st 0 rs) ≡ book_of_records rs
unfolding book_of book_of_records
book_of_records_lem beyond x d =
    let a = settings_own beyond x d in
    let b = tones_own beyond x in
    let c = accents_own beyond x in
    λ i. record { settings = a i; tones = b i; accents = c i }

-- ---- every pack that loads, and its records
module _ (s : List ℕ) (st : PackRead) (e : ℕ) (h : read_pack s ≡ loaded st e) where
  abbrev pub pack_records : List (List ℕ)
  pack_records = (load_reads s st e h).records

  pub records_book : book_of s st ≡ book_of_records pack_records
  records_book =
      let x = load_reads s st e h in
      sym (ap₂ book_of (sym x.bytes) x.held) ∙ book_of_records_lem (drop e s) x.reads x.due

  pub records_source : source_of_pack s st ≡ source_of (book_of_records pack_records)
  records_source = pack_source s st ∙ ap source_of records_book

  pub records_sheet : sheet (source_of_pack s st) ≡ sheet (source_of (book_of_records pack_records))
  records_sheet = ap sheet records_source
