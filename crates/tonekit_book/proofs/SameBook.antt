-- The sheet of a pack is a function of its book (`pack_sheet`): packs with one book hold the same and have one sheet. Assumes nothing.
use Rattle.std.proofs.Common.{ℕ, ◌≡◌, sym, ◌∙◌, ap, List}
use Rattle.spec_pack.specs.Pack.{PackRead}
use Rattle.spec_lookup.specs.Source.{source_of_pack}
use Rattle.spec_sheet.specs.Sheet.{sheet}
use Rattle.tonekit_book.specs.Book.{source_of, book_of}
use Rattle.tonekit_book.proofs.PackSource.{pack_source}

pub pack_sheet : (s : List ℕ) (st : PackRead) → sheet (source_of_pack s st) ≡ sheet (source_of (book_of s st))
pack_sheet s st = ap sheet (pack_source s st)

module _ (s r : List ℕ) (st sr : PackRead) (same : book_of s st ≡ book_of r sr) where
  -- of which, and of a query's bytes, a judgement is a function (`judgement`, tonekit_station/specs/Judgement)
  pub same_book_source : source_of_pack s st ≡ source_of_pack r sr
  same_book_source = pack_source s st ∙ ap source_of same ∙ sym (pack_source r sr)

  pub same_book_sheet : sheet (source_of_pack s st) ≡ sheet (source_of_pack r sr)
  same_book_sheet = ap sheet same_book_source
