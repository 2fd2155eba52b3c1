-- Worked examples, computed: sheets that load, and refusals with their places, among them those that wait for the sheet's end.
use Rattle.std.specs.Prelude.{ℕ, ◌≡◌, refl, List, [], ◌∷◌, ◌++◌, replicate, Ok, Err}
use Rattle.std.specs.Float.Ieee.{lt, le, of_bits}
use Rattle.tonekit_core.specs.Loop.{range, turns, range_to, turns_to, loop_to, loop_on}
use Rattle.tonekit_core.specs.declared.Refusal.TheVariants.{Misplaced, Overrun, Crowded, OffScale, Doubled, Loose, Unordered}
use Rattle.tonekit_core.specs.Calls as calls
use Rattle.spec_pack.specs.Ranges.{above_zero, probability_fine, weight_fine, region_fine, tail_fine, tails_fine, tolerances_fine}
use Rattle.spec_pack.specs.Pack.{holds, zero_or_held, settings_verdict, tail_verdict}
use Rattle.spec_arithmetic.specs.Files.{Out, loaded, refused}
use Rattle.spec_sheet.specs.Reader.{SheetRead, complete, due_next, size_of, tone_verdict, accent_verdict, row_verdict, list_verdict, point_fine, points_fine, component_verdict, body_verdict, record_verdict, added, loose_row, accent_down, row_due, row_names, row_wrong, named, same_lists, repeated, list_wrong, finished, read_sheet, load_sheet}
use Rattle.spec_sheet.specs.JudgeSheet.{judge_sheet_outcome, station_sheet_outcome}

-- what an input is, as a single sheet; opened, it computes
unfoldable read : List ℕ → Out SheetRead
unfolding load_sheet read_sheet finished loose_row accent_down row_due row_names row_wrong named same_lists repeated list_wrong record_verdict complete due_next size_of body_verdict settings_verdict tone_verdict tail_verdict accent_verdict row_verdict list_verdict component_verdict point_fine points_fine holds zero_or_held added above_zero probability_fine weight_fine region_fine tail_fine tails_fine tolerances_fine range turns range_to turns_to loop_to loop_on lt le of_bits
read s = load_sheet s

abbrev one : List ℕ
one = 0 ∷ 0 ∷ 128 ∷ 63 ∷ []

abbrev settings : List ℕ
settings = 17 ∷ (one ++ one)

-- a tone of prior 1 without a region, its tail of 0 and 0, both, and an accent of tolerances 1
abbrev bare : ℕ → List ℕ
bare number = 18 ∷ number ∷ (one ++ replicate 9 0)

abbrev no_tail : List ℕ
no_tail = 24 ∷ replicate 8 0

abbrev tone : ℕ → List ℕ
tone number = bare number ++ no_tail

abbrev accent : ℕ → List ℕ
accent number = 19 ∷ number ∷ (one ++ (one ++ (one ++ one)))

abbrev row : ℕ → ℕ → ℕ → ℕ → ℕ → List ℕ
row a t p n m = 20 ∷ a ∷ t ∷ p ∷ n ∷ m ∷ []

abbrev head : ℕ → ℕ → ℕ → ℕ → ℕ → List ℕ
head number owner form label count = 21 ∷ number ∷ owner ∷ form ∷ label ∷ 0 ∷ count ∷ []

-- a component of a weight, with all points 0
abbrev component : List ℕ → List ℕ
component weight = 22 ∷ (weight ++ replicate 40 0)

-- a list with one component of weight 1: 52 bytes
abbrev list : ℕ → ℕ → ℕ → ℕ → List ℕ
list number owner form label = head number owner form label 1 ++ component one

-- tone 1 and accent 1: the rows stand at 51 and 57, what follows at 63
abbrev front : List ℕ
front = settings ++ (tone 1 ++ accent 1)

-- its two rows, which name these lists
abbrev rows : ℕ → ℕ → ℕ → ℕ → List ℕ
rows a b c d = front ++ (row 1 1 0 a b ++ row 1 1 1 c d)

-- ---- sheets
no_lists : read (rows 0 0 0 0 ++ (23 ∷ [])) ≡ loaded (record { last = 20; tones = 9 ∷ []; accents = 33 ∷ []; rows = 2; lists = []; due = 0; total = 0 }) 64
unfolding read
no_lists = refl

one_list : read (rows 1 1 1 1 ++ (list 1 1 1 0 ++ (23 ∷ []))) ≡ loaded (record { last = 22; tones = 9 ∷ []; accents = 33 ∷ []; rows = 2; lists = 63 ∷ []; due = 0; total = 1 }) 116
unfolding read
one_list = refl

-- not final first: 1, then 2; the two lists differ in label alone
two_lists : read (rows 1 2 1 2 ++ (list 1 1 2 7 ++ (list 2 1 2 8 ++ (23 ∷ [])))) ≡ loaded (record { last = 22; tones = 9 ∷ []; accents = 33 ∷ []; rows = 2; lists = 63 ∷ 115 ∷ []; due = 0; total = 2 }) 168
unfolding read
two_lists = refl

-- two accents, and a list of each, which differ in owner alone
two_owners : read (settings ++ (tone 1 ++ (accent 1 ++ (accent 2 ++ (row 1 1 0 1 1 ++ (row 1 1 1 1 1 ++ (row 2 1 0 2 2 ++ (row 2 1 1 2 2 ++ (list 1 1 1 0 ++ (list 2 2 1 0 ++ (23 ∷ []))))))))))) ≡ loaded (record { last = 22; tones = 9 ∷ []; accents = 33 ∷ 51 ∷ []; rows = 4; lists = 93 ∷ 145 ∷ []; due = 0; total = 2 }) 198
unfolding read
two_owners = refl

-- ---- what waits for the end
-- a list number that no list record gives, although there are as many lists
loose_number : read (rows 1 1 1 1 ++ (list 2 1 1 0 ++ (23 ∷ []))) ≡ refused Loose 51
unfolding read
loose_number = refl

-- a loose number in the second row outranks the first row, which is not the one due
loose_first : read (front ++ (row 1 1 1 1 1 ++ (row 1 1 0 1 2 ++ (list 1 1 1 0 ++ (23 ∷ []))))) ≡ refused Loose 57
unfolding read
loose_first = refl

-- accent 2 before accent 1: 8 at the second, once the end is read
abbrev turned : List ℕ
turned = settings ++ (tone 1 ++ (accent 2 ++ (accent 1 ++ (row 2 1 0 1 1 ++ (row 2 1 1 1 1 ++ (row 1 1 0 1 1 ++ row 1 1 1 1 1))))))

accents_turned : read (turned ++ (list 1 1 1 0 ++ (23 ∷ []))) ≡ refused Unordered 51
unfolding read
accents_turned = refl

-- each accent is judged by the one before it: of 3, 1, 2 the second is at fault, and would be whatever follows
accents_three : read (settings ++ (tone 1 ++ (accent 3 ++ (accent 1 ++ (accent 2 ++ (row 3 1 0 0 0 ++ (row 3 1 1 0 0 ++ (row 1 1 0 0 0 ++ (row 1 1 1 0 0 ++ (row 2 1 0 0 0 ++ (row 2 1 1 0 0 ++ (23 ∷ [])))))))))))) ≡ refused Unordered 51
unfolding read
accents_three = refl

-- and a list of form 9 comes before it
off_scale_first : read (turned ++ (list 1 1 9 0 ++ (23 ∷ []))) ≡ refused OffScale 93
unfolding read
off_scale_first = refl

-- the rows in another order
rows_turned : read (front ++ (row 1 1 1 0 0 ++ (row 1 1 0 0 0 ++ (23 ∷ [])))) ≡ refused Unordered 51
unfolding read
rows_turned = refl

-- tones 7 and 4 in this order, and accent 1: six rows, prev 0, then 7, then 4, behind 57 bytes
abbrev pair : List ℕ → List ℕ
pair second = settings ++ (tone 7 ++ (tone 4 ++ (accent 1 ++ (row 1 7 0 0 0 ++ (second ++ (row 1 7 4 0 0 ++ (row 1 4 0 0 0 ++ (row 1 4 7 0 0 ++ (row 1 4 4 0 0 ++ (23 ∷ []))))))))))

two_tones : read (pair (row 1 7 7 0 0)) ≡ loaded (record { last = 20; tones = 9 ∷ 33 ∷ []; accents = 57 ∷ []; rows = 6; lists = []; due = 0; total = 0 }) 112
unfolding read
two_tones = refl

-- after 7, and not after 4, is due second; the row of tone 7, and not of tone 4
prev_due : read (pair (row 1 7 4 0 0)) ≡ refused Unordered 81
unfolding read
prev_due = refl

tone_due : read (pair (row 1 4 7 0 0)) ≡ refused Unordered 81
unfolding read
tone_due = refl

-- "a row naming a list above 1 more than the greatest before it": after list 1 the second row may name 2, not 3, and a row's list
-- when final may be 1 above that when not final, not 2
greatest_and_one : read (rows 1 1 2 3 ++ (list 1 1 2 7 ++ (list 2 1 2 8 ++ (list 3 1 2 9 ++ (23 ∷ []))))) ≡ loaded (record { last = 22; tones = 9 ∷ []; accents = 33 ∷ []; rows = 2; lists = 63 ∷ 115 ∷ 167 ∷ []; due = 0; total = 3 }) 220
unfolding read
greatest_and_one = refl

greatest_and_two : read (rows 1 1 3 2 ++ (list 1 1 2 7 ++ (list 2 1 2 8 ++ (list 3 1 2 9 ++ (23 ∷ []))))) ≡ refused Unordered 57
unfolding read
greatest_and_two = refl

final_and_two : read (rows 1 3 2 2 ++ (list 1 1 2 7 ++ (list 2 1 2 8 ++ (list 3 1 2 9 ++ (23 ∷ []))))) ≡ refused Unordered 51
unfolding read
final_and_two = refl

-- list 2 is named before list 1
named_turned : read (rows 2 1 1 2 ++ (list 1 1 2 7 ++ (list 2 1 2 8 ++ (23 ∷ [])))) ≡ refused Unordered 51
unfolding read
named_turned = refl

-- a list that no row names, and one that is equal to an earlier one
unused : read (rows 0 0 0 0 ++ (list 1 1 1 0 ++ (23 ∷ []))) ≡ refused Unordered 63
unfolding read
unused = refl

twins : read (rows 1 2 1 2 ++ (list 1 1 2 7 ++ (list 2 1 2 7 ++ (23 ∷ [])))) ≡ refused Unordered 115
unfolding read
twins = refl

-- equal to one that does not stand right before it
third_twin : read (rows 1 2 3 3 ++ (list 1 1 2 7 ++ (list 2 1 2 8 ++ (list 3 1 2 7 ++ (23 ∷ []))))) ≡ refused Unordered 167
unfolding read
third_twin = refl

-- a byte behind the end; 8 comes before it
behind : read (rows 0 0 0 0 ++ (23 ∷ 0 ∷ [])) ≡ refused Overrun 64
unfolding read
behind = refl

unused_behind : read (rows 0 0 0 0 ++ (list 1 1 1 0 ++ (23 ∷ 0 ∷ []))) ≡ refused Unordered 63
unfolding read
unused_behind = refl

-- ---- "kind 24 with the same two values after each tone": 50 and -50 are values
tails_there : read (settings ++ (bare 1 ++ ((24 ∷ 0 ∷ 0 ∷ 0x48 ∷ 0x42 ∷ 0 ∷ 0 ∷ 0x48 ∷ 0xc2 ∷ []) ++ (accent 1 ++ (row 1 1 0 0 0 ++ (row 1 1 1 0 0 ++ (23 ∷ []))))))) ≡ loaded (record { last = 20; tones = 9 ∷ []; accents = 33 ∷ []; rows = 2; lists = []; due = 0; total = 0 }) 64
unfolding read
tails_there = refl

-- "one without them gets 1": before an accent, and before the next tone; a second one; one behind an accent
tail_missing : (read (settings ++ (bare 1 ++ accent 1)) ≡ refused Misplaced 24) × (read (settings ++ (bare 1 ++ tone 2)) ≡ refused Misplaced 24)
unfolding read
tail_missing = (refl, refl)

tail_twice : (read (settings ++ (tone 1 ++ no_tail)) ≡ refused Misplaced 33) × (read (front ++ no_tail) ≡ refused Misplaced 51)
unfolding read
tail_twice = (refl, refl)

-- "Fields have the pack's ranges": the f32 above 50 at a phrase's end, that below -50 elsewhere
tail_above : (read (settings ++ (bare 1 ++ (24 ∷ 1 ∷ 0 ∷ 0x48 ∷ 0x42 ∷ replicate 4 0))) ≡ refused OffScale 24)
    × (read (settings ++ (bare 1 ++ (24 ∷ 0 ∷ 0 ∷ 0 ∷ 0 ∷ 1 ∷ 0 ∷ 0x48 ∷ 0xc2 ∷ []))) ≡ refused OffScale 24)
unfolding read
tail_above = (refl, refl)

-- ---- what is refused on sight
-- "tone or accent number repeated": at the second, also where an accent stands between the two accents of one number, out of order
tone_doubled : read (settings ++ (tone 1 ++ tone 1)) ≡ refused Doubled 33
unfolding read
tone_doubled = refl

accent_doubled : read (front ++ accent 1) ≡ refused Doubled 51
unfolding read
accent_doubled = refl

accent_doubled_later : read (settings ++ (tone 1 ++ (accent 2 ++ (accent 1 ++ accent 2)))) ≡ refused Doubled 69
unfolding read
accent_doubled_later = refl

-- "Numbers are 1 to 255": 0 is off scale in a tone, an accent, a row and a list, and 255 is a number
tone_zero : read (settings ++ tone 0) ≡ refused OffScale 9
unfolding read
tone_zero = refl

accent_zero : read (settings ++ (tone 1 ++ accent 0)) ≡ refused OffScale 33
unfolding read
accent_zero = refl

row_of_none : read (front ++ row 1 0 0 0 0) ≡ refused OffScale 51
unfolding read
row_of_none = refl

list_zero : read (rows 0 0 0 0 ++ head 0 1 1 0 1) ≡ refused OffScale 63
unfolding read
list_zero = refl

number_255 : read (settings ++ (tone 255 ++ (accent 255 ++ (row 255 255 0 0 0 ++ (row 255 255 255 0 0 ++ (23 ∷ [])))))) ≡ loaded (record { last = 20; tones = 9 ∷ []; accents = 33 ∷ []; rows = 2; lists = []; due = 0; total = 0 }) 64
unfolding read
number_255 = refl

-- "At most 128 lists and 192 components; the record that goes past is 4": a list and a component after so many
abbrev after : ℕ → ℕ → SheetRead
after lists components = record { last = 22; tones = []; accents = 0 ∷ []; rows = 0; lists = replicate lists 0; due = 1; total = components }

list_128 : list_verdict (0 ∷ 1 ∷ head 1 1 3 0 1) 2 (after 127 0) ≡ Ok tt
unfolding list_verdict holds
list_128 = refl

list_129 : list_verdict (0 ∷ 1 ∷ head 1 1 3 0 1) 2 (after 128 0) ≡ Err Crowded
unfolding list_verdict
list_129 = refl

component_192 : component_verdict (list 1 1 3 0) 7 (after 1 191) ≡ Ok tt
unfolding component_verdict weight_fine points_fine point_fine range turns lt le of_bits
component_192 = refl

component_193 : component_verdict (list 1 1 3 0) 7 (after 1 192) ≡ Err Crowded
unfolding component_verdict
component_193 = refl

-- "points are finite, size at most 128": 128 and -128 are points; the f32 above 128, the infinities and a NaN are off scale
abbrev points : List ℕ → List ℕ
points last = 22 ∷ (one ++ (replicate 36 0 ++ last))

abbrev pointed : List ℕ → List ℕ
pointed last = rows 1 1 1 1 ++ (head 1 1 1 0 1 ++ (points last ++ (23 ∷ [])))

abbrev printed : Out SheetRead
printed = loaded (record { last = 22; tones = 9 ∷ []; accents = 33 ∷ []; rows = 2; lists = 63 ∷ []; due = 0; total = 1 }) 116

point_128 : (read (pointed (0 ∷ 0 ∷ 0 ∷ 0x43 ∷ [])) ≡ printed) × (read (pointed (0 ∷ 0 ∷ 0 ∷ 0xc3 ∷ [])) ≡ printed)
unfolding read
point_128 = (refl, refl)

point_above : (read (pointed (1 ∷ 0 ∷ 0 ∷ 0x43 ∷ [])) ≡ refused OffScale 70) × (read (pointed (1 ∷ 0 ∷ 0 ∷ 0xc3 ∷ [])) ≡ refused OffScale 70)
unfolding read
point_above = (refl, refl)

point_not_finite : (read (pointed (0 ∷ 0 ∷ 0x80 ∷ 0x7f ∷ [])) ≡ refused OffScale 70) × (read (pointed (0 ∷ 0 ∷ 0xc0 ∷ 0x7f ∷ [])) ≡ refused OffScale 70)
unfolding read
point_not_finite = (refl, refl)

-- a row too few, a row too many, a component too few, a component too many
row_missing : read (front ++ (row 1 1 0 0 0 ++ (23 ∷ []))) ≡ refused Misplaced 57
unfolding read
row_missing = refl

row_over : read (rows 0 0 0 0 ++ row 1 1 1 0 0) ≡ refused Misplaced 63
unfolding read
row_over = refl

component_missing : read (rows 1 1 1 1 ++ (head 1 1 3 0 2 ++ (component one ++ (23 ∷ [])))) ≡ refused Misplaced 115
unfolding read
component_missing = refl

component_over : read (rows 1 1 1 1 ++ (list 1 1 1 0 ++ component one)) ≡ refused Misplaced 115
unfolding read
component_over = refl

-- a component before the first record, a tone behind an accent, and an end behind the head of a list
component_first : read (component one) ≡ refused Misplaced 0
unfolding read
component_first = refl

tone_late : read (front ++ tone 2) ≡ refused Misplaced 51
unfolding read
tone_late = refl

no_component : read (rows 1 1 1 1 ++ (head 1 1 1 0 1 ++ (23 ∷ []))) ≡ refused Misplaced 70
unfolding read
no_component = refl

-- "count before form": form 9 with 2 components, with 1; no component; a label in form 1; a weight of 0 in form 2
form_crowded : read (rows 1 1 1 1 ++ head 1 1 9 0 2) ≡ refused Crowded 63
unfolding read
form_crowded = refl

form_nine : read (rows 1 1 1 1 ++ head 1 1 9 0 1) ≡ refused OffScale 63
unfolding read
form_nine = refl

count_zero : read (rows 1 1 1 1 ++ head 1 1 3 0 0) ≡ refused OffScale 63
unfolding read
count_zero = refl

label_one : read (rows 1 1 1 1 ++ head 1 1 1 5 1) ≡ refused OffScale 63
unfolding read
label_one = refl

light : read (rows 1 1 1 1 ++ (head 1 1 2 0 1 ++ component (replicate 4 0))) ≡ refused OffScale 70
unfolding read
light = refl

-- an owner, and a row's accent, that is not held
owner_loose : read (rows 1 1 1 1 ++ head 1 2 1 0 1) ≡ refused Loose 63
unfolding read
owner_loose = refl

accent_loose : read (front ++ row 2 1 0 0 0) ≡ refused Loose 51
unfolding read
accent_loose = refl

-- ---- the call `judge_sheet` and the program `station_sheet`, which takes the sheet's length first: the refusal and place of the sheet, whatever the query
place_told : (judge_sheet_outcome (settings ++ tone 0) [] ≡ calls.refused OffScale 9)
    × (station_sheet_outcome (24 ∷ 0 ∷ (settings ++ tone 0)) ≡ calls.refused OffScale 9)
unfolding judge_sheet_outcome load_sheet read_sheet record_verdict complete due_next size_of body_verdict settings_verdict tone_verdict holds added above_zero probability_fine region_fine loop_to loop_on range_to turns_to lt le of_bits
place_told = (refl, refl)
