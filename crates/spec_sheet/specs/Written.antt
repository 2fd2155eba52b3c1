-- Worked examples, computed: what is one list and what are two, and the sheet of a small source.
use Rattle.std.specs.Prelude.{ℕ, ◌≡◌, refl, Bool, true, false, cond, List, [], ◌∷◌, ◌++◌, eqb, take, get_or, replicate}
use Rattle.std.proofs.Math.Option.{Option, none, some}
use Rattle.std.proofs.Common.{inl, inr, subst, T}
use Rattle.tonekit_core.specs.declared.layout.TheConstants.{SHEET_ACCENT_CONTOUR, SHEET_TONE_REGION, SHEET_TAIL_KIND}
use Rattle.tonekit_core.specs.Loop.{turns, range, turns_to, range_to}
use Rattle.spec_lookup.specs.Source.{Settings, Tone, Accent, Carried, Source, accent_in, tone_in, absent_tone, settings_at, tone_at, accent_at}
use Rattle.spec_arithmetic.specs.Places.{index_of}
use Rattle.spec_lookup.specs.declared.Context.{Context}
use Rattle.spec_sheet.specs.Agree.{Held, Agree}
use Rattle.spec_sheet.specs.Number.{same_carried, same, seen_in, place_in, noted, number_in, same_by}
use Rattle.spec_sheet.specs.Pieces.{pieces, piecewise}
use Rattle.spec_sheet.specs.Sheet.{asc_from, ascending, row_context, view_of, lists_of, bits_bytes, components_bytes, bytes_with, sheet}
use Rattle.spec_sheet.specs.Sheet.{settings_bytes, tone_bytes, accent_bytes, row_bytes, list_bytes}
use Rattle.spec_sheet.specs.Reader.{SheetRead, row_due, row_names, list_size}
use Rattle.spec_sheet.specs.FromSheet.{bits_at, carried_at, carried_from, list_numbered, look_sheet, source_of_sheet}

-- a component of this owner, label, weight and first point
abbrev curve : ℕ → ℕ → ℕ → ℕ → Carried
curve owner label weight point = record { owner = owner; form = 2; label = label; part = 0; weight = weight; points = point ∷ replicate 9 0 }

abbrev lone : ℕ → ℕ → ℕ → ℕ → List Carried
lone owner label weight point = curve owner label weight point ∷ []

-- "Lists equal in every bit are one": another owner, another label, a weight's or a point's sign make two
same_list : same (lone 3 7 0 0) (lone 3 7 0 0) ≡ true
unfolding same_by same_carried
same_list = refl

another_owner : same (lone 3 7 0 0) (lone 5 7 0 0) ≡ false
unfolding same_by same_carried
another_owner = refl

another_label : same (lone 3 7 0 0) (lone 3 8 0 0) ≡ false
unfolding same_by same_carried
another_label = refl

weight_sign : same (lone 3 7 0 0) (lone 3 7 0x8000_0000 0) ≡ false
unfolding same_by same_carried
weight_sign = refl

point_sign : same (lone 3 7 0 0) (lone 3 7 0 0x8000_0000) ≡ false
unfolding same_by same_carried
point_sign = refl

-- and so does the second of two components
another_second : same (curve 3 7 0 0 ∷ lone 3 7 0 0) (curve 3 7 0 0 ∷ lone 3 7 0 1) ≡ false
unfolding same_by same_carried
another_second = refl

-- a source of one tone and of accents 5 and 3, in this order. With nothing before it, not at the end of a phrase, the tone takes the list of label 7; else
-- that of label 8
abbrev tone : Tone
tone = record { number = 1; prior = 0; flag = 0; from = 0; to = 0; tail_final = 0; tail_elsewhere = 0 }

abbrev accent : ℕ → Accent
accent n = record { number = n; contour = 0; onset = 0; offset = 0; turning = 0 }

abbrev looked : Context → Option (List Carried)
looked c = cond (eqb c.prev 0) (cond c.last (some (lone 3 8 0 0)) (some (lone 3 7 0 0))) (some (lone 3 8 0 0))

abbrev small : Source
small = record { settings = record { temperature = 0; threshold = 0 }; tones = tone ∷ []; accents = accent 5 ∷ accent 3 ∷ []; look = looked }

-- "accent .. ascending by number", "numbered from 1 by first use along the rows", "list when not final, list when final"
small_sheet : sheet small
    ≡ (17 ∷ replicate 8 0)
    ++ ((18 ∷ 1 ∷ (replicate 13 0 ++ 24 ∷ replicate 8 0))
    ++ ((19 ∷ 3 ∷ replicate 16 0)
    ++ ((19 ∷ 5 ∷ replicate 16 0)
    ++ ((20 ∷ 3 ∷ 1 ∷ 0 ∷ 1 ∷ 2 ∷ [])
    ++ ((20 ∷ 3 ∷ 1 ∷ 1 ∷ 2 ∷ 2 ∷ [])
    ++ ((20 ∷ 5 ∷ 1 ∷ 0 ∷ 1 ∷ 2 ∷ [])
    ++ ((20 ∷ 5 ∷ 1 ∷ 1 ∷ 2 ∷ 2 ∷ [])
    ++ ((21 ∷ 1 ∷ 3 ∷ 2 ∷ 7 ∷ 0 ∷ 1 ∷ 22 ∷ replicate 44 0)
    ++ ((21 ∷ 2 ∷ 3 ∷ 2 ∷ 8 ∷ 0 ∷ 1 ∷ 22 ∷ replicate 44 0) ++ (23 ∷ []))))))))))
unfolding sheet bytes_with view_of ascending asc_from accent_in lists_of row_context noted number_in seen_in place_in same_by same_carried bits_bytes components_bytes piecewise pieces range turns
small_sheet = refl

-- a source of tones 7 and 4, in this order, and of accent 3. After tone 4, tone 7 takes the list of label 9, and nothing at the end of
-- a phrase; tone 4 has that of label 8 after none; else label 7
abbrev toned : ℕ → Tone
toned n = record { number = n; prior = 0; flag = 0; from = 0; to = 0; tail_final = 0; tail_elsewhere = 0 }

abbrev sought : Context → Option (List Carried)
sought c =
    cond (eqb c.tone 7)
    (cond (eqb c.prev 4) (cond c.last none (some (lone 3 9 0 0))) (some (lone 3 7 0 0)))
    (cond (eqb c.prev 0) (some (lone 3 8 0 0)) (some (lone 3 7 0 0)))

abbrev pair : Source
pair = record { settings = record { temperature = 0; threshold = 0 }; tones = toned 7 ∷ toned 4 ∷ []; accents = accent 3 ∷ []; look = sought }

-- "tone in pack order, prev 0 then tones in pack order", "0 nothing"
pair_sheet : sheet pair
    ≡ (17 ∷ replicate 8 0)
    ++ ((18 ∷ 7 ∷ (replicate 13 0 ++ 24 ∷ replicate 8 0))
    ++ ((18 ∷ 4 ∷ (replicate 13 0 ++ 24 ∷ replicate 8 0))
    ++ ((19 ∷ 3 ∷ replicate 16 0)
    ++ ((20 ∷ 3 ∷ 7 ∷ 0 ∷ 1 ∷ 1 ∷ [])
    ++ ((20 ∷ 3 ∷ 7 ∷ 7 ∷ 1 ∷ 1 ∷ [])
    ++ ((20 ∷ 3 ∷ 7 ∷ 4 ∷ 2 ∷ 0 ∷ [])
    ++ ((20 ∷ 3 ∷ 4 ∷ 0 ∷ 3 ∷ 3 ∷ [])
    ++ ((20 ∷ 3 ∷ 4 ∷ 7 ∷ 1 ∷ 1 ∷ [])
    ++ ((20 ∷ 3 ∷ 4 ∷ 4 ∷ 1 ∷ 1 ∷ [])
    ++ ((21 ∷ 1 ∷ 3 ∷ 2 ∷ 7 ∷ 0 ∷ 1 ∷ 22 ∷ replicate 44 0)
    ++ ((21 ∷ 2 ∷ 3 ∷ 2 ∷ 9 ∷ 0 ∷ 1 ∷ 22 ∷ replicate 44 0)
    ++ ((21 ∷ 3 ∷ 3 ∷ 2 ∷ 8 ∷ 0 ∷ 1 ∷ 22 ∷ replicate 44 0) ++ (23 ∷ [])))))))))))))
unfolding sheet bytes_with view_of ascending asc_from accent_in lists_of row_context noted number_in seen_in place_in same_by same_carried bits_bytes components_bytes piecewise pieces range turns
pair_sheet = refl

-- "A lookup takes accent, tone, prev (a held tone or 0) and final (0 or 1)": after none at the end of a phrase, after tone 4 elsewhere
held_after_none : Held pair (record { accent = 3; tone = 7; prev = 0; last = true })
unfolding accent_in tone_in
held_after_none = record { accent = (accent 3, refl); tone = refl; prev = inl refl }

held_after_tone : Held pair (record { accent = 3; tone = 7; prev = 4; last = false })
unfolding accent_in tone_in
held_after_tone = record { accent = (accent 3, refl); tone = refl; prev = inr refl }

-- a sheet of one tone and of accents 3 and 5, with those two lists, looked up by position
abbrev lists : List ℕ
lists = (21 ∷ 1 ∷ 3 ∷ 2 ∷ 7 ∷ 0 ∷ 1 ∷ 22 ∷ replicate 44 0) ++ ((21 ∷ 2 ∷ 3 ∷ 2 ∷ 8 ∷ 0 ∷ 1 ∷ 22 ∷ replicate 44 0) ++ (23 ∷ []))

abbrev printed : List ℕ
printed =
    (17 ∷ replicate 8 0)
    ++ ((18 ∷ 1 ∷ (replicate 13 0 ++ 24 ∷ replicate 8 0))
    ++ ((19 ∷ 3 ∷ replicate 16 0)
    ++ ((19 ∷ 5 ∷ replicate 16 0)
    ++ ((20 ∷ 3 ∷ 1 ∷ 0 ∷ 1 ∷ 2 ∷ [])
    ++ ((20 ∷ 3 ∷ 1 ∷ 1 ∷ 2 ∷ 2 ∷ []) ++ ((20 ∷ 5 ∷ 1 ∷ 0 ∷ 2 ∷ 1 ∷ []) ++ ((20 ∷ 5 ∷ 1 ∷ 1 ∷ 0 ∷ 2 ∷ []) ++ lists)))))))

abbrev read : SheetRead
read = record { last = 22; tones = 9 ∷ []; accents = 33 ∷ 51 ∷ []; rows = 4; lists = 93 ∷ 145 ∷ []; due = 0; total = 2 }

abbrev at : ℕ → ℕ → Bool → Context
at accent prev last = record { accent = accent; tone = 1; prev = prev; last = last }

not_final : look_sheet printed read (at 3 0 false) ≡ some (lone 3 7 0 0)
unfolding look_sheet index_of range_to turns_to carried_from carried_at bits_at
not_final = refl

final : look_sheet printed read (at 3 0 true) ≡ some (lone 3 8 0 0)
unfolding look_sheet index_of range_to turns_to carried_from carried_at bits_at
final = refl

second_accent : look_sheet printed read (at 5 0 false) ≡ some (lone 3 8 0 0)
unfolding look_sheet index_of range_to turns_to carried_from carried_at bits_at
second_accent = refl

after_tone : look_sheet printed read (at 5 1 false) ≡ none
unfolding look_sheet index_of range_to turns_to carried_from carried_at bits_at
after_tone = refl

after_held : look_sheet printed read (at 3 1 false) ≡ some (lone 3 8 0 0)
unfolding look_sheet index_of range_to turns_to carried_from carried_at bits_at
after_held = refl

after_unknown : look_sheet printed read (at 3 9 false) ≡ none
unfolding look_sheet index_of range_to turns_to
after_unknown = refl

-- ---- every field of each record, read and written: bytes that are their own offsets behind the kind
abbrev record17 : List ℕ
record17 = 17 ∷ 1 ∷ 2 ∷ 3 ∷ 4 ∷ 5 ∷ 6 ∷ 7 ∷ 8 ∷ []

abbrev settings17 : Settings
settings17 = record { temperature = 0x0403_0201; threshold = 0x0807_0605 }

fields17 : (settings_at record17 0 ≡ settings17) × (settings_bytes settings17 ≡ record17)
fields17 = (refl, refl)

abbrev record18 : List ℕ
record18 = 18 ∷ 1 ∷ 2 ∷ 3 ∷ 4 ∷ 5 ∷ 6 ∷ 7 ∷ 8 ∷ 9 ∷ 10 ∷ 11 ∷ 12 ∷ 13 ∷ 14 ∷ (24 ∷ 16 ∷ 17 ∷ 18 ∷ 19 ∷ 20 ∷ 21 ∷ 22 ∷ 23 ∷ [])

abbrev tone18 : Tone
tone18 = record { number = 1; prior = 0x0504_0302; flag = 6; from = 0x0a09_0807; to = 0x0e0d_0c0b; tail_final = 0x1312_1110; tail_elsewhere = 0x1716_1514 }

fields18 : (tone_at SHEET_TONE_REGION SHEET_TAIL_KIND record18 0 ≡ tone18) × (tone_bytes tone18 ≡ record18)
fields18 = (refl, refl)

abbrev record19 : List ℕ
record19 = 19 ∷ 1 ∷ 2 ∷ 3 ∷ 4 ∷ 5 ∷ 6 ∷ 7 ∷ 8 ∷ 9 ∷ 10 ∷ 11 ∷ 12 ∷ 13 ∷ 14 ∷ 15 ∷ 16 ∷ 17 ∷ []

abbrev accent19 : Accent
accent19 = record { number = 1; contour = 0x0504_0302; onset = 0x0908_0706; offset = 0x0d0c_0b0a; turning = 0x1110_0f0e }

fields19 : (accent_at SHEET_ACCENT_CONTOUR record19 0 ≡ accent19) × (accent_bytes accent19 ≡ record19)
fields19 = (refl, refl)

-- the third row of a sheet of tones 2 and 3 and of accent 1; list 3 is the greatest before it
abbrev record20 : List ℕ
record20 = 20 ∷ 1 ∷ 2 ∷ 3 ∷ 4 ∷ 5 ∷ []

abbrev context20 : Context
context20 = record { accent = 1; tone = 2; prev = 3; last = false }

abbrev before20 : List ℕ
before20 = replicate 9 0 ++ ((18 ∷ 2 ∷ (replicate 13 0 ++ 24 ∷ replicate 8 0)) ++ ((18 ∷ 3 ∷ (replicate 13 0 ++ 24 ∷ replicate 8 0)) ++ ((19 ∷ 1 ∷ replicate 16 0) ++ replicate 12 0)))

abbrev read20 : SheetRead
read20 = record { last = 20; tones = 9 ∷ 33 ∷ []; accents = 57 ∷ []; rows = 3; lists = []; due = 0; total = 0 }

fields20 : (row_due (before20 ++ record20) read20 2 ≡ true)
    × (row_names (before20 ++ record20) read20 2 3 ≡ true)
    × (row_bytes context20 4 5 ≡ record20)
unfolding row_due row_names
fields20 = (refl, refl, refl)

-- a list of 6, and the second of its components
abbrev record21 : List ℕ
record21 = 21 ∷ 1 ∷ 2 ∷ 3 ∷ 4 ∷ 5 ∷ 6 ∷ []

abbrev record22 : List ℕ
record22 =
    22 ∷ 1 ∷ 2 ∷ 3 ∷ 4 ∷ 5 ∷ 6 ∷ 7 ∷ 8 ∷ 9 ∷ 10 ∷ 11 ∷ 12 ∷ 13 ∷ 14 ∷ 15 ∷ 16 ∷ 17 ∷ 18 ∷ 19 ∷ 20 ∷ 21 ∷ 22 ∷ 23 ∷ 24 ∷ 25 ∷ 26 ∷ 27 ∷
    28 ∷ 29 ∷ 30 ∷ 31 ∷ 32 ∷ 33 ∷ 34 ∷ 35 ∷ 36 ∷ 37 ∷ 38 ∷ 39 ∷ 40 ∷ 41 ∷ 42 ∷ 43 ∷ 44 ∷ []

abbrev carried22 : Carried
carried22 = record {
  owner = 2;
  form = 3;
  label = 0x0504;
  part = 1;
  weight = 0x0403_0201;
  points =
      0x0807_0605 ∷ 0x0c0b_0a09 ∷ 0x100f_0e0d ∷ 0x1413_1211 ∷ 0x1817_1615 ∷ 0x1c1b_1a19 ∷ 0x201f_1e1d ∷ 0x2423_2221 ∷ 0x2827_2625 ∷ 0x2c2b_2a29 ∷ [];
}

abbrev list21 : List ℕ
list21 = record21 ++ (replicate 45 0 ++ record22)

fields22 : (carried_at list21 0 1 ≡ carried22)
    × (list_size list21 0 ≡ 277)
    × (take 7 (list_bytes 1 (replicate 6 carried22)) ≡ record21)
    × (components_bytes (carried22 ∷ []) ≡ record22)
unfolding carried_at bits_at bits_bytes components_bytes
fields22 = (refl, refl, refl, refl)

-- ---- lists of one component and of two, written one behind the other and read by number
abbrev mixed : ℕ → ℕ → Carried
mixed part point = record { owner = 3; form = 3; label = 7; part = part; weight = 0; points = point ∷ replicate 9 0 }

abbrev single : List Carried
single = lone 3 7 0 1

abbrev double : List Carried
double = mixed 0 2 ∷ mixed 1 3 ∷ []

abbrev component22 : ℕ → List ℕ
component22 point = (22 ∷ replicate 4 0) ++ ((point ∷ []) ++ replicate 39 0)

abbrev listed : List ℕ
listed = (21 ∷ 1 ∷ 3 ∷ 2 ∷ 7 ∷ 0 ∷ 1 ∷ component22 1) ++ ((21 ∷ 2 ∷ 3 ∷ 3 ∷ 7 ∷ 0 ∷ 2 ∷ component22 2) ++ component22 3)

both_written : list_bytes 1 single ++ list_bytes 2 double ≡ listed
unfolding components_bytes bits_bytes
both_written = refl

abbrev read21 : SheetRead
read21 = record { last = 22; tones = []; accents = []; rows = 0; lists = 0 ∷ 52 ∷ []; due = 0; total = 3 }

both_read : (list_numbered listed read21 0 ≡ none)
    × (list_numbered listed read21 1 ≡ some single)
    × (list_numbered listed read21 2 ≡ some double)
unfolding carried_from carried_at bits_at
both_read = (refl, refl, refl)

-- ---- what a sheet of two tones and an accent holds
abbrev sheet19 : List ℕ
sheet19 = record17 ++ (record18 ++ ((18 ∷ 2 ∷ (replicate 13 0 ++ 24 ∷ replicate 8 0)) ++ record19))

abbrev read19 : SheetRead
read19 = record { last = 19; tones = 9 ∷ 33 ∷ []; accents = 57 ∷ []; rows = 0; lists = []; due = 0; total = 0 }

held19 : ((source_of_sheet sheet19 read19).settings ≡ settings17)
    × ((source_of_sheet sheet19 read19).tones ≡ tone18 ∷ toned 2 ∷ [])
    × ((source_of_sheet sheet19 read19).accents ≡ accent19 ∷ [])
unfolding source_of_sheet
held19 = (refl, refl, refl)

-- ---- "Two packs that differ in a tail value now have different settings": a tail's last bit, and its sign, tell two sources apart
abbrev ending : ℕ → ℕ → Source
ending final elsewhere = record {
  settings = record { temperature = 0; threshold = 0 };
  tones = record { number = 1; prior = 0; flag = 0; from = 0; to = 0; tail_final = final; tail_elsewhere = elsewhere } ∷ [];
  accents = accent 3 ∷ [];
  look = looked;
}

another_final : Agree (ending 0 0) (ending 1 0) → ⊥
another_final agree = subst (λ (tones : List Tone). T (eqb (get_or tones 0 absent_tone).tail_final 0)) agree.tones tt

another_elsewhere : Agree (ending 0 0) (ending 0 0x8000_0000) → ⊥
another_elsewhere agree = subst (λ (tones : List Tone). T (eqb (get_or tones 0 absent_tone).tail_elsewhere 0)) agree.tones tt
