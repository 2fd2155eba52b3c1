-- Document 01's section Sheet: the bytes of the sheet of whatever a station holds.
use Rattle.std.specs.Prelude.{ℕ, zero, suc, ◌+◌, ◌*◌, ◌/◌, ◌%◌, Bool, true, false, List, [], ◌∷◌, ◌++◌, length, get_or}
use Rattle.std.proofs.Math.Option.{Option, none, some}
use Rattle.tonekit_core.specs.Loop.{range}
use Rattle.tonekit_core.specs.declared.layout.TheConstants.{SHEET_SETTINGS_KIND, SHEET_TONE_KIND, SHEET_TAIL_KIND, SHEET_ACCENT_KIND, SHEET_ROW_KIND}
use Rattle.tonekit_core.specs.declared.layout.TheConstants.{SHEET_LIST_KIND, SHEET_COMPONENT_KIND, SHEET_END_KIND}
use Rattle.spec_arithmetic.specs.Fields.{le16, le32}
use Rattle.spec_lookup.specs.Source.{Settings, Tone, Accent, Carried, Source, accent_in, absent_tone}
use Rattle.spec_lookup.specs.declared.Context.{Context}
use Rattle.spec_sheet.specs.Number.{noted, number_in}
use Rattle.spec_sheet.specs.Pieces.{piecewise}

-- the accents that are held "ascending by number": of the numbers from n on, k of them
abbrev pub or_skip : Option Accent → List Accent → List Accent
or_skip none rest = rest
or_skip (some a) rest = a ∷ rest

unfoldable pub asc_from : ℕ → ℕ → List Accent → List Accent
asc_from zero n accents = []
asc_from (suc k) n accents = or_skip (accent_in accents n) (asc_from k (suc n) accents)

unfoldable pub ascending : List Accent → List Accent
ascending accents = asc_from 255 1 accents

-- past the end, where nothing is read
abbrev pub absent_accent : Accent
absent_accent = record { number = 0; contour = 0; onset = 0; offset = 0; turning = 0 }

-- "Rows run by accent as above, tone in pack order, prev 0 then tones in pack order": with t tones there are t + 1 rows for each accent and tone
abbrev pub row_count : ℕ → ℕ → ℕ
row_count accents tones = accents * (tones * (tones + 1))

abbrev pub accent_place : ℕ → ℕ → ℕ
accent_place tones r = r / (tones * (tones + 1))

abbrev pub tone_place : ℕ → ℕ → ℕ
tone_place tones r = r / (tones + 1) % tones

abbrev pub prev_place : ℕ → ℕ → ℕ
prev_place tones r = r % (tones + 1)

abbrev pub prev_number : List Tone → ℕ → ℕ
prev_number tones zero = 0
prev_number tones (suc p) = (get_or tones p absent_tone).number

-- the context of row r, at the end of a phrase or not; accents stand in ascending order here
unfoldable pub row_context : List Tone → List Accent → ℕ → Bool → Context
row_context tones accents r last = record {
  accent = (get_or accents (accent_place (length tones) r) absent_accent).number;
  tone = (get_or tones (tone_place (length tones) r) absent_tone).number;
  prev = prev_number tones (prev_place (length tones) r);
  last = last;
}

-- what a sheet is made of: settings, tones, accents ascending, and what the lookups of a row give
pub record View : Type 0 where
  pub settings : Settings
  pub tones : List Tone
  pub accents : List Accent
  pub row : ℕ → Bool → Option (List Carried)

unfoldable pub view_of : Source → View
view_of src =
    let accents = ascending src.accents in
    record { settings = src.settings; tones = src.tones; accents = accents; row = λ r last. src.look (row_context src.tones accents r last) }

abbrev pub rows_of : View → ℕ
rows_of v = row_count (length v.accents) (length v.tones)

-- "numbered from 1 by first use along the rows": not final before final
unfoldable pub lists_of : View → List (List Carried)
lists_of v = range (λ r lists. noted (noted lists (v.row r false)) (v.row r true)) 0 (rows_of v) []

-- "17 as Settings"
abbrev pub settings_bytes : Settings → List ℕ
settings_bytes x = (SHEET_SETTINGS_KIND ∷ []) ++ (le32 x.temperature ++ le32 x.threshold)

-- "kind 24 with the same two values after each tone"
abbrev pub tail_bytes : Tone → List ℕ
tail_bytes t = (SHEET_TAIL_KIND ∷ []) ++ (le32 t.tail_final ++ le32 t.tail_elsewhere)

-- "18 tone, in pack order: number, prior, flag, from, to", with its tail
abbrev pub tone_bytes : Tone → List ℕ
tone_bytes t = (SHEET_TONE_KIND ∷ t.number ∷ []) ++ (le32 t.prior ++ ((t.flag ∷ []) ++ (le32 t.from ++ (le32 t.to ++ tail_bytes t))))

-- "19 accent: number, tolerances"
abbrev pub accent_bytes : Accent → List ℕ
accent_bytes a = (SHEET_ACCENT_KIND ∷ a.number ∷ []) ++ (le32 a.contour ++ (le32 a.onset ++ (le32 a.offset ++ le32 a.turning)))

-- "20 row: accent, tone, prev, list when not final, list when final (u8, 0 nothing)"
abbrev pub row_bytes : Context → ℕ → ℕ → List ℕ
row_bytes c n m = SHEET_ROW_KIND ∷ c.accent ∷ c.tone ∷ c.prev ∷ n ∷ m ∷ []

-- "22 components: weight, 10 points"
unfoldable pub bits_bytes : List ℕ → List ℕ
bits_bytes [] = []
bits_bytes (x ∷ xs) = le32 x ++ bits_bytes xs

unfoldable pub components_bytes : List Carried → List ℕ
components_bytes [] = []
components_bytes (c ∷ cs) = ((SHEET_COMPONENT_KIND ∷ []) ++ (le32 c.weight ++ bits_bytes c.points)) ++ components_bytes cs

-- "21 list: number u8, owner u8, form u8, label u16, count u8, followed by its 22 components"; owner, form and label are those of its first
abbrev pub absent_carried : Carried
absent_carried = record { owner = 0; form = 0; label = 0; part = 0; weight = 0; points = [] }

abbrev pub list_bytes : ℕ → List Carried → List ℕ
list_bytes n cs =
    let c = get_or cs 0 absent_carried in ((SHEET_LIST_KIND ∷ n ∷ c.owner ∷ c.form ∷ []) ++ (le16 c.label ++ (length cs ∷ []))) ++ components_bytes cs

unfoldable pub bytes_with : View → List (List Carried) → List ℕ
bytes_with v lists =
    settings_bytes v.settings
    ++ (piecewise (λ i. tone_bytes (get_or v.tones i absent_tone)) 0 (length v.tones)
    ++ (piecewise (λ i. accent_bytes (get_or v.accents i absent_accent)) 0 (length v.accents)
    ++ (piecewise (λ r. row_bytes (row_context v.tones v.accents r false) (number_in lists (v.row r false)) (number_in lists (v.row r true))) 0 (rows_of v)
    ++ (piecewise (λ i. list_bytes (i + 1) (get_or lists i [])) 0 (length lists) ++ (SHEET_END_KIND ∷ [])))))

-- "A pack's sheet is the bytes this section fixes for it": a function of what the pack's lookups give
unfoldable pub sheet : Source → List ℕ
sheet src = let v = view_of src in bytes_with v (lists_of v)
