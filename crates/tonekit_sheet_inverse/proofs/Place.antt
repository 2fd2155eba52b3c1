-- Where the rows and the lists of a sheet that was read stand.
use Rattle.std.specs.Prelude.{ℕ, zero, suc, ◌+◌, List, length}
use Rattle.tonekit_core.specs.Layout.{sheet_accent_at}
use Rattle.spec_sheet.specs.Reader.{SheetRead, row_at, list_size}

-- list i, where the first is at o: each behind the components of the one before
abbrev pub list_place : List ℕ → ℕ → ℕ → ℕ
list_place s o zero = o
list_place s o (suc i) = list_place s o i + list_size s (list_place s o i)

-- where the rows begin, behind the accents
abbrev pub rows_from : SheetRead → ℕ
rows_from st = sheet_accent_at (length st.tones) (length st.accents)

-- where the lists begin: behind the last row
abbrev pub lists_from : SheetRead → ℕ
lists_from st = row_at st st.rows
