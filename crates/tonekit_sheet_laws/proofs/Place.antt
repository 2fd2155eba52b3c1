-- Where the records of a sheet stand, and what its reader has once it has read them.
use Rattle.std.specs.Prelude.{ℕ, zero, suc, ◌+◌, ◌*◌, List, [], ◌∷◌, ◌++◌, length, get_or}
use Rattle.tonekit_core.specs.declared.layout.TheConstants.{SHEET_ROW_KIND, SHEET_LIST_SIZE, SHEET_COMPONENT_KIND, SHEET_COMPONENT_SIZE}
use Rattle.tonekit_core.specs.Layout.{sheet_tone_at, sheet_accent_at, sheet_row_at}
use Rattle.spec_lookup.specs.Source.{Carried, Source}
use Rattle.spec_sheet.specs.Reader.{SheetRead}
use Rattle.spec_sheet.specs.Sheet.{View, view_of, rows_of, lists_of}
use Rattle.tonekit_sheet.specs.Sheetable.{components_in}

-- f 0, f 1, .. up to n, without it
unfoldable pub up_to : (ℕ → ℕ) → ℕ → List ℕ
up_to f zero = []
up_to f (suc n) = up_to f n ++ (f n ∷ [])

-- the components of the first n lists
unfoldable pub components_before : List (List Carried) → ℕ → ℕ
components_before lists zero = 0
components_before lists (suc n) = components_before lists n + length (get_or lists n [])

-- tone i, accent i, row r and list i of a sheet of this view, with these lists
abbrev pub tone_at : ℕ → ℕ
tone_at i = sheet_tone_at i

abbrev pub accent_at : View → ℕ → ℕ
accent_at v i = sheet_accent_at (length v.tones) i

abbrev pub row_at : View → ℕ → ℕ
row_at v r = sheet_row_at (length v.tones) (length v.accents) r

abbrev pub list_at : View → List (List Carried) → ℕ → ℕ
list_at v lists i = row_at v (rows_of v) + (SHEET_LIST_SIZE * i + SHEET_COMPONENT_SIZE * components_before lists i)

-- what has been read after t tones, a accents, r rows and l lists
abbrev pub read_to : View → List (List Carried) → ℕ → ℕ → ℕ → ℕ → ℕ → ℕ → ℕ → SheetRead
read_to v lists last t a r l due total = record {
  last = last;
  tones = up_to tone_at t;
  accents = up_to (accent_at v) a;
  rows = r;
  lists = up_to (list_at v lists) l;
  due = due;
  total = total;
}

-- the kind of the last record, after n of a kind that follow another
abbrev pub last_of : ℕ → ℕ → ℕ → ℕ
last_of before kind zero = before
last_of before kind (suc n) = kind

-- what the reader has at the end of a sheet
unfoldable pub st_of_view : View → List (List Carried) → SheetRead
st_of_view v lists =
    read_to v lists (last_of SHEET_ROW_KIND SHEET_COMPONENT_KIND (length lists)) (length v.tones) (length v.accents)
    (rows_of v) (length lists) 0 (components_in lists)

unfoldable pub st_of : Source → SheetRead
st_of src = st_of_view (view_of src) (lists_of (view_of src))
