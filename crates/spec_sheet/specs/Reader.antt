-- Document 01's section Sheet: which bytes are a sheet, and the refusal and place of those that are not. A record is held by its offset.
use Rattle.std.specs.Prelude.{ℕ, zero, suc, ◌+◌, ◌-◌, ◌*◌, max, Bool, true, false, cond, not, ◌&&◌, ◌||◌, List, [], ◌∷◌, ◌++◌, eqb, leb, ltb, pos, length, get_or, Float, Option, Some, None, Result, Ok}
use Rattle.std.specs.Float.{fin}
use Rattle.std.specs.Float.Ieee.{le}
use Rattle.tonekit_core.specs.Loop.{next, stop, range, range_to}
use Rattle.tonekit_core.specs.declared.layout.TheConstants.{F32_SIZE, SETTINGS_SIZE, SHEET_SETTINGS_KIND, SHEET_TONE_KIND, SHEET_TONE_SIZE, SHEET_TONE_STEP, SHEET_TONE_PRIOR, SHEET_TONE_REGION, SHEET_TAIL_KIND, TAIL_SIZE}
use Rattle.tonekit_core.specs.declared.layout.TheConstants.{SHEET_ACCENT_KIND, SHEET_ACCENT_SIZE, SHEET_ACCENT_CONTOUR, SHEET_ROW_KIND, SHEET_ROW_SIZE, SHEET_ROW_ACCENT, SHEET_ROW_TONE}
use Rattle.tonekit_core.specs.declared.layout.TheConstants.{SHEET_ROW_PREV, SHEET_ROW_LIST, SHEET_ROW_FINAL_LIST, SHEET_LIST_KIND, SHEET_LIST_SIZE, SHEET_LIST_OWNER, SHEET_LIST_FORM}
use Rattle.tonekit_core.specs.declared.layout.TheConstants.{SHEET_LIST_LABEL, SHEET_LIST_COUNT, SHEET_COMPONENT_KIND, SHEET_COMPONENT_SIZE, SHEET_COMPONENT_WEIGHT}
use Rattle.tonekit_core.specs.declared.layout.TheConstants.{SHEET_COMPONENT_POINTS, SHEET_END_KIND, SHEET_END_SIZE}
use Rattle.tonekit_core.specs.declared.Refusal.{Refusal}
use Rattle.tonekit_core.specs.declared.Refusal.TheVariants.{Loose, Unordered}
use Rattle.tonekit_core.specs.declared.Rejection.{Rejection}
use Rattle.spec_arithmetic.specs.Fields.{byte_at, u16_at, u32_at, f32_at}
use Rattle.spec_pack.specs.Ranges.{probability_fine, weight_fine, region_fine}
use Rattle.spec_arithmetic.specs.Places.{number_at}
use Rattle.spec_arithmetic.specs.Files.{judged, Out, loaded, refused, Reader, read, single_file, said}
use Rattle.spec_pack.specs.Pack.{holds, zero_or_held, in_turn, settings_verdict, tail_verdict, accent_fine}
use Rattle.spec_sheet.specs.Sheet.{row_count, accent_place, tone_place, prev_place}

-- what has been read: the last kind; the offsets of tones and accents; how many rows; the offsets of lists; the components that the last list is still due, and all components
pub record SheetRead : Type 0 where
  pub last : ℕ
  pub tones : List ℕ
  pub accents : List ℕ
  pub rows : ℕ
  pub lists : List ℕ
  pub due : ℕ
  pub total : ℕ

-- "As many rows are due as" there are accents, tones, and tones and none before them
abbrev pub rows_due : SheetRead → ℕ
rows_due st = row_count (length st.accents) (length st.tones)

-- all rows are there, and all components of the last list: a list, or the end
unfoldable pub complete : SheetRead → Bool
complete st = cond (eqb st.last SHEET_ROW_KIND) (eqb st.rows (rows_due st)) (eqb st.last SHEET_COMPONENT_KIND && eqb st.due 0)

-- "Kinds, in this order"; "A row or component too few or too many is 1". A tail stands "after each tone", and a sheet "without them gets 1"
unfoldable pub due_next : SheetRead → ℕ → Bool
due_next st k =
    cond (eqb k SHEET_SETTINGS_KIND) (eqb st.last 0)
    (cond (eqb k SHEET_TONE_KIND) (eqb st.last SHEET_SETTINGS_KIND || eqb st.last SHEET_TAIL_KIND)
    (cond (eqb k SHEET_TAIL_KIND) (eqb st.last SHEET_TONE_KIND)
    (cond (eqb k SHEET_ACCENT_KIND) (eqb st.last SHEET_TAIL_KIND || eqb st.last SHEET_ACCENT_KIND)
    (cond (eqb k SHEET_ROW_KIND) ((eqb st.last SHEET_ACCENT_KIND || eqb st.last SHEET_ROW_KIND) && ltb st.rows (rows_due st))
    (cond (eqb k SHEET_COMPONENT_KIND) (ltb 0 st.due)
    ((eqb k SHEET_LIST_KIND || eqb k SHEET_END_KIND) && complete st))))))

-- the bytes of a record of each kind
unfoldable pub size_of : ℕ → ℕ
size_of k =
    cond (eqb k SHEET_SETTINGS_KIND) SETTINGS_SIZE
    (cond (eqb k SHEET_TONE_KIND) SHEET_TONE_SIZE
    (cond (eqb k SHEET_TAIL_KIND) TAIL_SIZE
    (cond (eqb k SHEET_ACCENT_KIND) SHEET_ACCENT_SIZE
    (cond (eqb k SHEET_ROW_KIND) SHEET_ROW_SIZE
    (cond (eqb k SHEET_LIST_KIND) SHEET_LIST_SIZE
    (cond (eqb k SHEET_COMPONENT_KIND) SHEET_COMPONENT_SIZE SHEET_END_SIZE))))))

-- "Fields have the pack's ranges": number, prior, region
abbrev pub tone_fine : List ℕ → ℕ → Bool
tone_fine s o = not (eqb (number_at s o) 0) && (probability_fine (f32_at s (o + SHEET_TONE_PRIOR)) && region_fine s (o + SHEET_TONE_REGION))

unfoldable pub tone_verdict : List ℕ → ℕ → SheetRead → Result (Unit {0}) Refusal
tone_verdict s o st = in_turn (leb 8 (length st.tones)) (tone_fine s o) (not (holds s st.tones (number_at s o))) true

-- number, tolerances
unfoldable pub accent_verdict : List ℕ → ℕ → SheetRead → Result (Unit {0}) Refusal
accent_verdict s o st = in_turn (leb 8 (length st.accents)) (accent_fine SHEET_ACCENT_CONTOUR s o) (not (holds s st.accents (number_at s o))) true

-- a row names an accent, a tone, and a tone before it or none, that are held; its two lists are judged at the end
unfoldable pub row_verdict : List ℕ → ℕ → SheetRead → Result (Unit {0}) Refusal
row_verdict s o st =
    in_turn false (not (eqb (byte_at s (o + SHEET_ROW_ACCENT)) 0) && not (eqb (byte_at s (o + SHEET_ROW_TONE)) 0)) true
    (holds s st.accents (byte_at s (o + SHEET_ROW_ACCENT))
    && (holds s st.tones (byte_at s (o + SHEET_ROW_TONE)) && zero_or_held s st.tones (byte_at s (o + SHEET_ROW_PREV))))

-- "A list's count above 4, or above 1 unless the form is 3, is 4; count 0 is 5"; "At most 128 lists"
abbrev pub list_crowded : List ℕ → ℕ → SheetRead → Bool
list_crowded s o st =
    leb 128 (length st.lists)
    || (ltb 4 (byte_at s (o + SHEET_LIST_COUNT)) || (ltb 1 (byte_at s (o + SHEET_LIST_COUNT)) && not (eqb (byte_at s (o + SHEET_LIST_FORM)) 3)))

-- number, owner, "Form is 1 to 3", "label is 0 in form 1", count
abbrev pub list_fine : List ℕ → ℕ → Bool
list_fine s o =
    not (eqb (number_at s o) 0)
    && (not (eqb (byte_at s (o + SHEET_LIST_OWNER)) 0)
    && ((leb 1 (byte_at s (o + SHEET_LIST_FORM)) && leb (byte_at s (o + SHEET_LIST_FORM)) 3)
    && (not (eqb (byte_at s (o + SHEET_LIST_COUNT)) 0)
    && (not (eqb (byte_at s (o + SHEET_LIST_FORM)) 1) || eqb (u16_at s (o + SHEET_LIST_LABEL)) 0))))

unfoldable pub list_verdict : List ℕ → ℕ → SheetRead → Result (Unit {0}) Refusal
list_verdict s o st = in_turn (list_crowded s o st) (list_fine s o) true (holds s st.accents (byte_at s (o + SHEET_LIST_OWNER)))

-- "points are finite, size at most 128"
unfoldable pub point_fine : Float → Bool
point_fine x = le (fin true 1 (pos 7)) x && le x (fin false 1 (pos 7))

unfoldable pub points_fine : List ℕ → ℕ → Bool
points_fine s o = range (λ k ok. ok && point_fine (f32_at s (o + F32_SIZE * k))) 0 10 true

-- "forms 1 and 2 have one component of weight 1": the form is that of the last list
abbrev pub component_fine : List ℕ → ℕ → SheetRead → Bool
component_fine s o st =
    weight_fine (u32_at s (o + SHEET_COMPONENT_WEIGHT))
    && ((eqb (byte_at s (get_or st.lists (length st.lists - 1) 0 + SHEET_LIST_FORM)) 3 || eqb (u32_at s (o + SHEET_COMPONENT_WEIGHT)) 0x3f80_0000)
    && points_fine s (o + SHEET_COMPONENT_POINTS))

unfoldable pub component_verdict : List ℕ → ℕ → SheetRead → Result (Unit {0}) Refusal
component_verdict s o st = in_turn (leb 192 st.total) (component_fine s o st) true true

unfoldable pub body_verdict : ℕ → List ℕ → ℕ → SheetRead → Result (Unit {0}) Refusal
body_verdict k s o st =
    cond (eqb k SHEET_SETTINGS_KIND) (settings_verdict s o)
    (cond (eqb k SHEET_TONE_KIND) (tone_verdict s o st)
    (cond (eqb k SHEET_TAIL_KIND) (tail_verdict s o)
    (cond (eqb k SHEET_ACCENT_KIND) (accent_verdict s o st)
    (cond (eqb k SHEET_ROW_KIND) (row_verdict s o st)
    (cond (eqb k SHEET_LIST_KIND) (list_verdict s o st)
    (cond (eqb k SHEET_COMPONENT_KIND) (component_verdict s o st) (Ok tt)))))))

unfoldable pub record_verdict : List ℕ → ℕ → SheetRead → Result (Unit {0}) Refusal
record_verdict s o st = judged (due_next st) size_of (λ k. body_verdict k s o st) s o

-- what has been read once the record of kind k at o, a list of so many components, is fine
unfoldable pub added : ℕ → ℕ → ℕ → SheetRead → SheetRead
added k o count st =
    cond (eqb k SHEET_TONE_KIND) (record st { last = k; tones = st.tones ++ (o ∷ []) })
    (cond (eqb k SHEET_ACCENT_KIND) (record st { last = k; accents = st.accents ++ (o ∷ []) })
    (cond (eqb k SHEET_ROW_KIND) (record st { last = k; rows = st.rows + 1 })
    (cond (eqb k SHEET_LIST_KIND) (record st { last = k; lists = st.lists ++ (o ∷ []); due = count })
    (cond (eqb k SHEET_COMPONENT_KIND) (record st { last = k; due = st.due - 1; total = st.total + 1 }) (record st { last = k })))))

-- where row r stands: behind settings, tones with their tails, and accents
abbrev pub row_at : SheetRead → ℕ → ℕ
row_at st r = SETTINGS_SIZE + SHEET_TONE_STEP * length st.tones + SHEET_ACCENT_SIZE * length st.accents + SHEET_ROW_SIZE * r

-- a row's list number is 0, or one that a list record gives as its own
unfoldable pub loose_row : List ℕ → SheetRead → Option ℕ
loose_row s st =
    range_to (λ r (u : ℕ). cond
    (zero_or_held s st.lists (byte_at s (row_at st r + SHEET_ROW_LIST)) && zero_or_held s st.lists (byte_at s (row_at st r + SHEET_ROW_FINAL_LIST)))
    (next u) (stop (Some (row_at st r)))) (λ u. None) 0 st.rows 0

-- an accent whose number is not above that of the one before it
unfoldable pub accent_down : List ℕ → SheetRead → Option ℕ
accent_down s st =
    range_to (λ i before. let n = number_at s (get_or st.accents i 0) in cond (ltb before n) (next n) (stop (Some (get_or st.accents i 0))))
    (λ n. None) 0 (length st.accents) 0

-- row r is the one due at its place
abbrev pub prev_due : List ℕ → SheetRead → ℕ → ℕ
prev_due s st zero = 0
prev_due s st (suc p) = number_at s (get_or st.tones p 0)

unfoldable pub row_due : List ℕ → SheetRead → ℕ → Bool
row_due s st r =
    let t = length st.tones in
    eqb (byte_at s (row_at st r + SHEET_ROW_ACCENT)) (number_at s (get_or st.accents (accent_place t r) 0))
    && (eqb (byte_at s (row_at st r + SHEET_ROW_TONE)) (number_at s (get_or st.tones (tone_place t r) 0))
    && eqb (byte_at s (row_at st r + SHEET_ROW_PREV)) (prev_due s st (prev_place t r)))

-- "a row naming a list above 1 more than the greatest before it", m, not final before final
unfoldable pub row_names : List ℕ → SheetRead → ℕ → ℕ → Bool
row_names s st r m =
    let n = byte_at s (row_at st r + SHEET_ROW_LIST) in
    leb n (m + 1) && leb (byte_at s (row_at st r + SHEET_ROW_FINAL_LIST)) (max m n + 1)

unfoldable pub row_wrong : List ℕ → SheetRead → Option ℕ
row_wrong s st =
    range_to (λ r m. cond (row_due s st r && row_names s st r m)
    (next (max (max m (byte_at s (row_at st r + SHEET_ROW_LIST))) (byte_at s (row_at st r + SHEET_ROW_FINAL_LIST))))
    (stop (Some (row_at st r)))) (λ m. None) 0 st.rows 0

-- a row names list n
unfoldable pub named : List ℕ → SheetRead → ℕ → Bool
named s st n =
    range (λ r used. used || (eqb (byte_at s (row_at st r + SHEET_ROW_LIST)) n || eqb (byte_at s (row_at st r + SHEET_ROW_FINAL_LIST)) n))
    0 st.rows false

-- the bytes of a list and its components, and two lists equal but for their numbers
abbrev pub list_size : List ℕ → ℕ → ℕ
list_size s o = SHEET_LIST_SIZE + SHEET_COMPONENT_SIZE * byte_at s (o + SHEET_LIST_COUNT)

unfoldable pub same_lists : List ℕ → ℕ → ℕ → Bool
same_lists s a b = range (λ k ok. ok && eqb (byte_at s (a + k)) (byte_at s (b + k))) SHEET_LIST_OWNER (list_size s a) true

-- one of the first n lists is equal to the one at o
unfoldable pub repeated : List ℕ → List ℕ → ℕ → ℕ → Bool
repeated s lists n o = range (λ i hit. hit || same_lists s o (get_or lists i 0)) 0 n false

-- list i has its place as its number, from 1, is named by a row, and is equal to none before it
unfoldable pub list_wrong : List ℕ → SheetRead → Option ℕ
list_wrong s st =
    range_to (λ i (u : ℕ). let o = get_or st.lists i 0 in
    cond (eqb (number_at s o) (i + 1) && (named s st (i + 1) && not (repeated s st.lists i o))) (next u) (stop (Some o)))
    (λ u. None) 0 (length st.lists) 0

-- "a sheet's list references (7), then 8, are judged at its end"; 8 stands at the first accent, row or list at fault
abbrev pub refused_at : Refusal → Option ℕ → Out SheetRead → Out SheetRead
refused_at r (Some o) out = refused r o
refused_at r None out = out

unfoldable pub finished : List ℕ → SheetRead → ℕ → Out SheetRead
finished s st e =
    refused_at Loose (loose_row s st)
    (refused_at Unordered (accent_down s st) (refused_at Unordered (row_wrong s st) (refused_at Unordered (list_wrong s st) (loaded st e))))

-- how a sheet is read
abbrev pub sheet_reader : Reader SheetRead
sheet_reader = record {
  start = record { at = 0; st = record { last = 0; tones = []; accents = []; rows = 0; lists = []; due = 0; total = 0 } };
  verdict = record_verdict;
  size = size_of;
  added = λ s o st. added (byte_at s o) o (byte_at s (o + SHEET_LIST_COUNT)) st;
  end = SHEET_END_KIND;
  finish = λ s o st. finished s st (o + SHEET_END_SIZE);
}

-- a sheet at the front of a longer input; a single sheet ("3 follows"); and a check of the sheet alone
unfoldable pub read_sheet : List ℕ → Out SheetRead
read_sheet s = read sheet_reader s

unfoldable pub load_sheet : List ℕ → Out SheetRead
load_sheet s = single_file s (read_sheet s)

unfoldable pub check_sheet : List ℕ → Result (Unit {0}) Rejection
check_sheet s = said (load_sheet s)
