-- Two books that differ in the order of their accents alone have one sheet (`one_sheet`). Assumes nothing.
use Rattle.std.proofs.Common.{◌≡◌, sym, ◌∙◌, ap, map}
use Rattle.std.specs.Prelude.{AllPairs, IsPermutation}
use Rattle.spec_sheet.specs.Agree.{Agree}
use Rattle.spec_sheet.specs.Sheet.{sheet}
use Rattle.tonekit_sheet_laws.proofs.Exactly.{agree_same}
use Rattle.tonekit_book.specs.Book.{BookTone, Book, source_of}
use Rattle.tonekit_any_order.proofs.Differ.{Differ}
use Rattle.tonekit_any_order.proofs.BookOrder.{number, same_found, same_looks, accent_part, accent_of}

module _ (a b : Book) (settings : a.settings ≡ b.settings) (tones : a.tones ≡ b.tones) (order : IsPermutation a.accents b.accents)
    (differ : AllPairs (Differ number) a.accents) where
  agree : Agree (source_of a) (source_of b)
  unfolding source_of
  agree = record {
    settings = settings;
    tones = ap (map (λ (t : BookTone). t.tone)) tones;
    accents = λ n. accent_of a.accents n ∙ ap accent_part (same_found a.accents b.accents order differ n) ∙ sym (accent_of b.accents n);
    lookups = λ c h. same_looks a b settings tones order differ c;
  }

  pub one_sheet : sheet (source_of a) ≡ sheet (source_of b)
  one_sheet = agree_same (source_of a) (source_of b) agree
