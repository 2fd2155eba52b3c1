-- Worked examples, computed: the book of a small pack, by its bytes and by its records, and lookups in it.
use Rattle.std.specs.Prelude.{ℕ, ◌≡◌, refl, List, [], ◌∷◌, ◌++◌, replicate, Bool, true, false, Ok, Err}
use Rattle.std.proofs.Math.Option.{none, some}
use Rattle.std.specs.Float.Ieee.{lt, le, to_bits, of_bits, of_int, add, sub, mul, div}
use Rattle.tonekit_core.specs.declared.Refusal.TheVariants.{Loose, EndlessChain}
use Rattle.tonekit_core.specs.Loop.{fold, range, turns, range_to, turns_to, loop_to, loop_on}
use Rattle.spec_arithmetic.specs.Whole.{whole_part}
use Rattle.spec_arithmetic.specs.Narrow.{narrowed}
use Rattle.spec_arithmetic.specs.Position.{position}
use Rattle.spec_pack.specs.Ranges.{above_zero, probability_fine, knot_fine, weight_fine, slot_fine, knots_fine, region_fine, tail_fine, tails_fine, tolerances_fine}
use Rattle.spec_arithmetic.specs.Files.{loaded}
use Rattle.spec_arithmetic.specs.Places.{index_of}
use Rattle.spec_pack.specs.Pack.{PackRead, due_after, size_of, holds, zero_or_held, settings_verdict, tone_verdict, tail_verdict, accent_verdict, rule_verdict, part_verdict, body_verdict, record_verdict, added, parents_held, chain_ends, chains_end, end_verdict, parts_from, read_pack}
use Rattle.spec_lookup.specs.declared.Context.{Context}
use Rattle.spec_lookup.specs.Knots.{segment, past_knot, on_line, point_at, first_points, knots_at}
use Rattle.spec_lookup.specs.Lookup.{meets, component_of}
use Rattle.spec_lookup.specs.Source.{Accent, Carried, carried, components}
use Rattle.tonekit_records.specs.Records.{among, zero_or_among, records_bytes}
use Rattle.tonekit_records.specs.Bench.{settings, tone, tail, context_tone, accent, rule, part, second_part, tailed, tailed_kept}
use Rattle.tonekit_book.specs.Book.{Rule, BookAccent, BookTone, Book, first_with, rule_matches, conditions, better_rule, best_of, climb, look_in, parents_among, reaches_end, all_reach_end, ending_of, tabulate, book_of}
use Rattle.tonekit_book.specs.Groups.{grouped, tone_records, book_of_records}

-- ---- a pack of one tone and two accents: the records of tonekit_records/specs/Bench, a second rule of accent 7, and accent 8, its child, with a rule
-- a single rule with this label, for tone 4 after tone 4
abbrev after_four : ℕ → List ℕ
after_four label = 4 ∷ label ∷ 0 ∷ 4 ∷ 4 ∷ 0 ∷ 2 ∷ []

-- weight 1, knot 1
abbrev lone_part : List ℕ
lone_part = 5 ∷ 0 ∷ 0 ∷ 128 ∷ 63 ∷ 1 ∷ 0 ∷ 0 ∷ 128 ∷ 63 ∷ replicate 36 0

abbrev records : List (List ℕ)
records = settings ∷ tone ∷ accent 7 0 ∷ rule ∷ part ∷ second_part ∷ after_four 8 ∷ lone_part ∷ accent 8 7 ∷ after_four 9 ∷ lone_part ∷ []

abbrev pack : List ℕ
pack = records_bytes records ++ (6 ∷ [])

-- what the reader keeps of it
abbrev kept : PackRead
kept = record { last = 5; tones = 9 ∷ []; accents = 65 ∷ 236 ∷ []; firsts = 0 ∷ 2 ∷ []; rules = 84 ∷ 183 ∷ 255 ∷ []; parts = 1; total = 4 }

reads : read_pack pack ≡ loaded kept 309
unfolding records_bytes read_pack record_verdict due_after size_of body_verdict settings_verdict tone_verdict tail_verdict accent_verdict rule_verdict part_verdict holds zero_or_held added parents_held chain_ends chains_end end_verdict index_of range_to turns_to above_zero probability_fine knot_fine weight_fine slot_fine knots_fine region_fine tail_fine tails_fine tolerances_fine range turns loop_to loop_on lt le of_bits
reads = refl

-- ---- its book
abbrev accent_numbered : ℕ → Accent
accent_numbered n = record { number = n; contour = 0x3f80_0000; onset = 0x4000_0000; offset = 0x4040_0000; turning = 0x4080_0000 }

-- the citation under accent n, from 3 down to 1
abbrev cited_under : ℕ → List Carried
cited_under n = record {
  owner = n;
  form = 1;
  label = 0;
  part = 0;
  weight = 0x3f80_0000;
  points = 0x4040_0000 ∷ 0x4031_c71c ∷ 0x4023_8e39 ∷ 0x4015_5555 ∷ 0x4007_1c72 ∷ 0x3ff1_c71c ∷ 0x3fd5_5555 ∷ 0x3fb8_e38e ∷ 0x3f9c_71c7 ∷ 0x3f80_0000 ∷ [];
} ∷ []

-- a mixture of a level 2 and a level 4, of accent 7
abbrev mixture : List Carried
mixture =
    record { owner = 7; form = 3; label = 513; part = 0; weight = 0x3e80_0000; points = replicate 10 0x4000_0000 }
    ∷ record { owner = 7; form = 3; label = 513; part = 1; weight = 0x3f40_0000; points = replicate 10 0x4080_0000 } ∷ []

-- a level 1
abbrev level : ℕ → ℕ → List Carried
level owner label = record { owner = owner; form = 2; label = label; part = 0; weight = 0x3f80_0000; points = replicate 10 0x3f80_0000 } ∷ []

-- a rule for tone 4
abbrev rule_for : ℕ → ℕ → List Carried → Rule
rule_for prev final gives = record { tone = 4; prev = prev; final = final; gives = gives }

-- tone 4 with a tail of these values
abbrev tone_four : ℕ → ℕ → BookTone
tone_four final elsewhere = record {
  tone = record { number = 4; prior = 0x3e80_0000; flag = 1; from = 0x3e80_0000; to = 0x3f00_0000; tail_final = final; tail_elsewhere = elsewhere };
  cited = λ n. some (cited_under n);
}

abbrev book : Book
book = record {
  settings = record { temperature = 0x3f00_0000; threshold = 0x3f40_0000 };
  tones = tone_four 0 0 ∷ [];
  accents =
      record { accent = accent_numbered 7; parent = 0; rules = rule_for 0 2 mixture ∷ rule_for 4 0 (level 7 8) ∷ [] }
      ∷ record { accent = accent_numbered 8; parent = 7; rules = rule_for 4 0 (level 8 9) ∷ [] } ∷ [];
}

by_bytes : book_of pack kept ≡ book
unfolding book_of tabulate records_bytes components component_of carried parts_from knots_at first_points point_at on_line past_knot segment position add sub mul div of_int of_bits to_bits whole_part narrowed
by_bytes = refl

by_records : book_of_records records ≡ book
unfolding book_of_records grouped tone_records records_bytes components component_of carried parts_from knots_at first_points point_at on_line past_knot segment position add sub mul div of_int of_bits to_bits whole_part narrowed
by_records = refl

-- of a pack whose first tone has a tail: -1 at phrase end, 0.5 elsewhere. The second one has none, and is for contexts only
abbrev tailed_book : Book
tailed_book = record {
  settings = book.settings;
  tones =
      tone_four 0xbf80_0000 0x3f00_0000
      ∷ record { tone = record { number = 5; prior = 0x3e80_0000; flag = 0; from = 0; to = 0; tail_final = 0; tail_elsewhere = 0 }; cited = λ n. none } ∷ [];
  accents = record { accent = accent_numbered 7; parent = 0; rules = [] } ∷ [];
}

tailed_by_bytes : book_of (records_bytes tailed ++ (6 ∷ [])) tailed_kept ≡ tailed_book
unfolding book_of tabulate records_bytes components component_of carried parts_from knots_at first_points point_at on_line past_knot segment position add sub mul div of_int of_bits to_bits whole_part narrowed
tailed_by_bytes = refl

tailed_by_records : book_of_records tailed ≡ tailed_book
unfolding book_of_records grouped tone_records records_bytes components component_of carried parts_from knots_at first_points point_at on_line past_knot segment position add sub mul div of_int of_bits to_bits whole_part narrowed
tailed_by_records = refl

-- a tail behind the second tone is no matter to the first
second_tailed : tone_records (settings ∷ tone ∷ context_tone ∷ tail ∷ accent 7 0 ∷ []) ≡ tone ∷ (context_tone ++ tail) ∷ []
unfolding tone_records
second_tailed = refl

-- ---- lookups
context : ℕ → ℕ → ℕ → Bool → Context
context a t p final = record { accent = a; tone = t; prev = p; last = final }

-- accent 7 at the end of a phrase: its first rule
takes_rule : look_in book (context 7 4 0 true) ≡ some mixture
unfolding context look_in climb first_with best_of better_rule rule_matches conditions meets fold
takes_rule = refl

-- elsewhere, and after no tone: the citation
takes_citation : look_in book (context 7 4 0 false) ≡ some (cited_under 7)
unfolding context look_in climb first_with best_of better_rule rule_matches conditions meets fold
takes_citation = refl

-- at the end and after tone 4: both rules match and state as much, and the first is taken
takes_first : look_in book (context 7 4 4 true) ≡ some mixture
unfolding context look_in climb first_with best_of better_rule rule_matches conditions meets fold
takes_first = refl

-- accent 8 after tone 4: its own rule
takes_own : look_in book (context 8 4 4 true) ≡ some (level 8 9)
unfolding context look_in climb first_with best_of better_rule rule_matches conditions meets fold
takes_own = refl

-- at the end of a phrase, after no tone: its parent's, under the parent's number
takes_parents : look_in book (context 8 4 0 true) ≡ some mixture
unfolding context look_in climb first_with best_of better_rule rule_matches conditions meets fold
takes_parents = refl

-- elsewhere: the citation, under accent 8
takes_own_citation : look_in book (context 8 4 0 false) ≡ some (cited_under 8)
unfolding context look_in climb first_with best_of better_rule rule_matches conditions meets fold
takes_own_citation = refl

-- an accent and a tone that the book has not
no_accent : look_in book (context 9 4 0 true) ≡ none
unfolding context look_in climb first_with best_of better_rule rule_matches conditions meets fold
no_accent = refl

no_tone : look_in book (context 7 5 0 true) ≡ none
unfolding context look_in climb first_with best_of better_rule rule_matches conditions meets fold
no_tone = refl

-- of rules that match, the one that states most
most_stated : best_of (context 7 4 4 true) (rule_for 0 0 [] ∷ rule_for 4 2 mixture ∷ rule_for 4 0 [] ∷ []) ≡ some (rule_for 4 2 mixture)
unfolding context best_of better_rule rule_matches conditions meets fold
most_stated = refl

-- ---- the tests at End
fine_at_end : ending_of book.accents ≡ Ok tt
unfolding ending_of parents_among zero_or_among among all_reach_end reaches_end first_with
fine_at_end = refl

-- an accent that says no more than its parent's number
abbrev child_of : ℕ → ℕ → BookAccent
child_of parent number = record { accent = accent_numbered number; parent = parent; rules = [] }

-- a chain of all accents, wherever each stands
in_any_order : (ending_of (child_of 0 7 ∷ child_of 7 8 ∷ child_of 8 9 ∷ []) ≡ Ok tt) × (ending_of (child_of 8 9 ∷ child_of 0 7 ∷ child_of 7 8 ∷ []) ≡ Ok tt)
unfolding ending_of parents_among zero_or_among among all_reach_end reaches_end first_with
in_any_order = (refl, refl)

-- a parent that is no accent, also behind a ring
loose : (ending_of (child_of 9 7 ∷ []) ≡ Err Loose) × (ending_of (child_of 7 7 ∷ child_of 9 8 ∷ []) ≡ Err Loose)
unfolding ending_of parents_among zero_or_among among all_reach_end reaches_end first_with
loose = (refl, refl)

-- its own parent; a ring of two, behind a chain that ends; a chain into a ring
endless : (ending_of (child_of 7 7 ∷ []) ≡ Err EndlessChain)
    × (ending_of (child_of 0 7 ∷ child_of 9 8 ∷ child_of 8 9 ∷ []) ≡ Err EndlessChain)
    × (ending_of (child_of 8 7 ∷ child_of 9 8 ∷ child_of 9 9 ∷ []) ≡ Err EndlessChain)
unfolding ending_of parents_among zero_or_among among all_reach_end reaches_end first_with
endless = (refl, refl, refl)
