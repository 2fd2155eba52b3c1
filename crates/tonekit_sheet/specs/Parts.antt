-- Parts of spec_sheet's definitions under names of their own, for contracts and proofs: the turns of the loops that read and plan a sheet, the
-- pieces of which one is written, and the place of a row. There they are written out.
use Rattle.std.specs.Prelude.{ℕ, ◌+◌, ◌*◌, max, Bool, true, false, cond, not, ◌&&◌, ◌||◌, List, [], ◌∷◌, ◌++◌, eqb, ltb, length, get_or, Option, Some}
use Rattle.tonekit_core.specs.Loop.{Turn, next, stop}
use Rattle.tonekit_core.specs.declared.layout.TheConstants.{F32_SIZE, SHEET_ROW_ACCENT, SHEET_ROW_TONE, SHEET_ROW_PREV, SHEET_ROW_LIST, SHEET_ROW_FINAL_LIST, SHEET_COMPONENT_KIND}
use Rattle.spec_arithmetic.specs.Fields.{byte_at, f32_at, le32}
use Rattle.spec_arithmetic.specs.Places.{number_at}
use Rattle.spec_pack.specs.Pack.{holds, zero_or_held}
use Rattle.spec_lookup.specs.Source.{Carried, absent_tone}
use Rattle.spec_lookup.specs.declared.Context.{Context}
use Rattle.spec_sheet.specs.Number.{same_by, noted, number_in}
use Rattle.spec_sheet.specs.Sheet.{View, absent_accent, row_context, tone_bytes, accent_bytes, row_bytes, bits_bytes, list_bytes, lists_of, bytes_with}
use Rattle.spec_sheet.specs.Reader.{SheetRead, point_fine, row_at, row_due, row_names, named, same_lists, repeated}

abbrev pub point_turn : List ℕ → ℕ → ℕ → Bool → Bool
point_turn s o k ok = ok && point_fine (f32_at s (o + F32_SIZE * k))

-- of a row's judgement: its accent and tone are numbers, and all that it names is held
abbrev pub row_fine : List ℕ → ℕ → Bool
row_fine s o = not (eqb (byte_at s (o + SHEET_ROW_ACCENT)) 0) && not (eqb (byte_at s (o + SHEET_ROW_TONE)) 0)

abbrev pub row_held : List ℕ → ℕ → SheetRead → Bool
row_held s o st =
    holds s st.accents (byte_at s (o + SHEET_ROW_ACCENT))
    && (holds s st.tones (byte_at s (o + SHEET_ROW_TONE)) && zero_or_held s st.tones (byte_at s (o + SHEET_ROW_PREV)))

abbrev pub loose_turn : List ℕ → SheetRead → ℕ → ℕ → Turn ℕ (Option ℕ)
loose_turn s st r u =
    cond
    (zero_or_held s st.lists (byte_at s (row_at st r + SHEET_ROW_LIST))
    && zero_or_held s st.lists (byte_at s (row_at st r + SHEET_ROW_FINAL_LIST)))
    (next u)
    (stop (Some (row_at st r)))

abbrev pub accent_turn : List ℕ → SheetRead → ℕ → ℕ → Turn ℕ (Option ℕ)
accent_turn s st i before =
    let n = number_at s (get_or st.accents i 0) in
    cond (ltb before n) (next n) (stop (Some (get_or st.accents i 0)))

abbrev pub row_turn : List ℕ → SheetRead → ℕ → ℕ → Turn ℕ (Option ℕ)
row_turn s st r m =
    cond (row_due s st r && row_names s st r m)
    (next (max (max m (byte_at s (row_at st r + SHEET_ROW_LIST))) (byte_at s (row_at st r + SHEET_ROW_FINAL_LIST))))
    (stop (Some (row_at st r)))

abbrev pub names_turn : List ℕ → SheetRead → ℕ → ℕ → Bool → Bool
names_turn s st n r used = used || (eqb (byte_at s (row_at st r + SHEET_ROW_LIST)) n || eqb (byte_at s (row_at st r + SHEET_ROW_FINAL_LIST)) n)

abbrev pub same_turn : List ℕ → ℕ → ℕ → ℕ → Bool → Bool
same_turn s a b k ok = ok && eqb (byte_at s (a + k)) (byte_at s (b + k))

abbrev pub equal_turn : List ℕ → List ℕ → ℕ → ℕ → Bool → Bool
equal_turn s lists o i hit = hit || same_lists s o (get_or lists i 0)

abbrev pub list_turn : List ℕ → SheetRead → ℕ → ℕ → Turn ℕ (Option ℕ)
list_turn s st i u =
    let o = get_or st.lists i 0 in
    cond (eqb (number_at s o) (i + 1) && (named s st (i + 1) && not (repeated s st.lists i o)))
    (next u)
    (stop (Some o))

abbrev pub note_turn : View → ℕ → List (List Carried) → List (List Carried)
note_turn v r lists = noted (noted lists (v.row r false)) (v.row r true)

abbrev pub tone_piece : View → ℕ → List ℕ
tone_piece v i = tone_bytes (get_or v.tones i absent_tone)

abbrev pub accent_piece : View → ℕ → List ℕ
accent_piece v i = accent_bytes (get_or v.accents i absent_accent)

abbrev pub row_piece : View → List (List Carried) → ℕ → List ℕ
row_piece v lists r = row_bytes (row_context v.tones v.accents r false) (number_in lists (v.row r false)) (number_in lists (v.row r true))

abbrev pub list_piece : List (List Carried) → ℕ → List ℕ
list_piece lists i = list_bytes (i + 1) (get_or lists i [])

abbrev pub component_bytes : Carried → List ℕ
component_bytes c = (SHEET_COMPONENT_KIND ∷ []) ++ (le32 c.weight ++ bits_bytes c.points)

abbrev pub same_numbers : List ℕ → List ℕ → Bool
same_numbers xs ys = same_by eqb xs ys

abbrev pub bytes_of : View → List ℕ
bytes_of v = bytes_with v (lists_of v)

-- the row of an accent, a tone and what stood before it, and the place of the list number in it
abbrev pub row_place : SheetRead → ℕ → ℕ → ℕ → ℕ
row_place st a t p = (a * length st.tones + t) * (length st.tones + 1) + p

abbrev pub final_place : Context → ℕ
final_place c = cond c.last SHEET_ROW_FINAL_LIST SHEET_ROW_LIST
