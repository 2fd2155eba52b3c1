-- Where a sheet's records stand. The numbers of all records are the constants of src/layout.rt, in document 01's words.
use Rattle.std.specs.Prelude.{ℕ, ◌+◌, ◌*◌}
use Rattle.tonekit_core.specs.declared.layout.TheConstants.{SETTINGS_SIZE, SHEET_ACCENT_SIZE, SHEET_ROW_SIZE, SHEET_TONE_STEP}

-- where tone i of a sheet stands, accent i behind so many tones, and row r behind so many tones and accents
abbrev pub sheet_tone_at : ℕ → ℕ
sheet_tone_at i = SETTINGS_SIZE + SHEET_TONE_STEP * i

abbrev pub sheet_accent_at : ℕ → ℕ → ℕ
sheet_accent_at tones i = sheet_tone_at tones + SHEET_ACCENT_SIZE * i

abbrev pub sheet_row_at : ℕ → ℕ → ℕ → ℕ
sheet_row_at tones accents r = sheet_accent_at tones accents + SHEET_ROW_SIZE * r
