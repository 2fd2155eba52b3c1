-- No two sheets say the same: sources that agree have one sheet, so two sheets that load and hold sources that agree are equal. Assumes nothing.
use Rattle.std.proofs.Common.{ℕ, ◌≡◌, refl, sym, ap, ◌∙◌, ◌↔◌, List}
use Rattle.spec_lookup.specs.Source.{Source}
use Rattle.spec_sheet.specs.Sheet.{sheet}
use Rattle.spec_arithmetic.specs.Files.{loaded}
use Rattle.spec_sheet.specs.Reader.{SheetRead, load_sheet}
use Rattle.spec_sheet.specs.FromSheet.{source_of_sheet}
use Rattle.spec_sheet.specs.Agree.{Bytes, Agree}
use Rattle.tonekit_sheet.specs.Sheetable.{Sheetable}
use Rattle.tonekit_sheet_laws.proofs.Place.{st_of}
use Rattle.tonekit_sheet_laws.proofs.Round.{round}
use Rattle.tonekit_sheet_laws.proofs.Exactly.{agree_same, loaded_same}
use Rattle.tonekit_sheet_laws.proofs.Back.{read_back, settings_back, tones_back, accents_back, lookups_back}
use Rattle.tonekit_sheet_inverse.proofs.Inverse.{inverse}

pub says_once : (s t : List ℕ) → Bytes s → Bytes t → (x y : SheetRead) (d e : ℕ) → load_sheet s ≡ loaded x d → load_sheet t ≡ loaded y e
    → Agree (source_of_sheet s x) (source_of_sheet t y) → s ≡ t
says_once s t b c x y d e h g agree = sym (inverse s b x d h) ∙ agree_same (source_of_sheet s x) (source_of_sheet t y) agree ∙ inverse t c y e g

-- ---- exactly: of two sheets that load, and of a sheet that loads and a source that has a sheet
agree_refl : (a : Source) → Agree a a
agree_refl a = record { settings = refl; tones = refl; accents = λ n. refl; lookups = λ c h. refl }

pub sheets_exactly : (s t : List ℕ) → Bytes s → Bytes t → (x y : SheetRead) (d e : ℕ) → load_sheet s ≡ loaded x d → load_sheet t ≡ loaded y e
    → (s ≡ t) ↔ Agree (source_of_sheet s x) (source_of_sheet t y)
sheets_exactly s t b c x y d e h g =
    (λ q. let p : x ≡ y = loaded_same x y d e (sym h ∙ ap load_sheet q ∙ g) in rw (q, p) (agree_refl (source_of_sheet t y)), says_once s t b c x y d e h g)

agree_back : (a : Source) → Sheetable a → Agree a (read_back a)
agree_back a f = record {
  settings = sym (settings_back a f);
  tones = sym (tones_back a f);
  accents = λ n. sym (accents_back a f n);
  lookups = λ c h. sym (lookups_back a f c h);
}

pub sheet_exactly : (a : Source) → Sheetable a → (s : List ℕ) → Bytes s → (st : SheetRead) (e : ℕ) → load_sheet s ≡ loaded st e
    → (sheet a ≡ s) ↔ Agree a (source_of_sheet s st)
sheet_exactly a f s b st e h = (
  λ q. let p : st ≡ st_of a = loaded_same st (st_of a) e _ (sym h ∙ ap load_sheet (sym q) ∙ round a f) in rw (← q, p) (agree_back a f),
  λ agree. agree_same a (source_of_sheet s st) agree ∙ inverse s b st e h,
)
