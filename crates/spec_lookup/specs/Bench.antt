-- Worked examples, computed: document 01's bench cases for knots, and lookups in a pack of two accents.
use Rattle.std.specs.Prelude.{ℕ, ◌≡◌, refl, Bool, true, false, List, [], ◌∷◌, ◌++◌, Some, None, replicate, Float}
use Rattle.std.specs.Float.{binary32, binary64}
use Rattle.std.specs.Float.Ieee.{add, sub, mul, div, of_int, of_bits, le, lt}
use Rattle.tonekit_core.specs.declared.layout.TheConstants.{ACCENT_CONTOUR, TONE_REGION, TAIL_KIND}
use Rattle.tonekit_core.specs.Loop.{turns, range, turns_to, range_to, loop_on, loop_to}
use Rattle.spec_arithmetic.specs.Whole.{whole_part}
use Rattle.spec_arithmetic.specs.Narrow.{narrowed}
use Rattle.spec_arithmetic.specs.Places.{index_of}
use Rattle.spec_pack.specs.Ranges.{above_zero, probability_fine, knot_fine, weight_fine, slot_fine, knots_fine, region_fine, tail_fine, tails_fine, tolerances_fine}
use Rattle.spec_arithmetic.specs.Files.{loaded}
use Rattle.spec_pack.specs.Pack.{parts_from, PackRead, due_after, size_of, holds, zero_or_held, settings_verdict, tone_verdict, tail_verdict, accent_verdict, rule_verdict, part_verdict, body_verdict, record_verdict, added, parents_held, chain_ends, chains_end, end_verdict, read_pack}
use Rattle.spec_lookup.specs.declared.Context.{Context}
use Rattle.spec_lookup.specs.declared.Listing.{Listing}
use Rattle.spec_arithmetic.specs.Position.{position}
use Rattle.spec_lookup.specs.Knots.{segment, past_knot, on_line, point_at, first_points, expanded, knots_at, Point}
use Rattle.spec_lookup.specs.Lookup.{meets, matches, specificity, better_of, best_rule, climb_turn, find_rule, rule_listing, listed, look_up, tone_knots_at, part_knots_at, component_of}
use Rattle.spec_lookup.specs.Source.{settings_at, tone_at, accent_at}

abbrev pub two : Float
two = of_bits binary32 0x4000_0000

-- "Knots [2] and [2, 2]: all 2."
pub one_knot : expanded (two ∷ []) ≡ replicate 10 two
unfolding first_points point_at on_line past_knot segment position add sub mul div of_int of_bits whole_part narrowed
one_knot = refl

pub two_knots : expanded (two ∷ two ∷ []) ≡ replicate 10 two
unfolding first_points point_at on_line past_knot segment position add sub mul div of_int of_bits whole_part narrowed
two_knots = refl

-- halfway from a third to 1: the knots' difference is an f32, without which the point would be 0x3F2AAAAB
pub difference : on_line (of_bits binary32 0x3eaa_aaab) (of_bits binary32 0x3f80_0000) (of_bits binary64 0x3fe0_0000_0000_0000) ≡ of_bits binary32 0x3f2a_aaaa
unfolding on_line add sub mul of_bits narrowed
difference = refl

-- knots of size 100 are points within the bounds
bounds : Point (of_bits binary32 0x42c8_0000) × Point (of_bits binary32 0xc2c8_0000)
unfolding le of_bits
bounds = (record { low = tt; high = tt }, record { low = tt; high = tt })

-- ---- a pack: tone 1 with a citation, tone 2 for contexts only. Accent 5 has a rule for tone 1 at the end of a phrase, and one for tone 2
-- after tone 1. Accent 3, its child, has two rules for tone 1, equally specific
abbrev one : List ℕ
one = 0 ∷ 0 ∷ 128 ∷ 63 ∷ []

-- the bits of 2 as the one knot, and nine slots unused
abbrev knots : List ℕ
knots = 1 ∷ 0 ∷ 0 ∷ 0 ∷ 64 ∷ replicate 36 0

abbrev no_region : List ℕ
no_region = replicate 9 0

abbrev part : List ℕ
part = (5 ∷ one) ++ knots

abbrev pack : List ℕ
pack =
    (1 ∷ one) ++ (one
    ++ ((2 ∷ 1 ∷ one) ++ (knots ++ (no_region
    ++ ((2 ∷ 2 ∷ one) ++ ((0 ∷ replicate 40 0) ++ (no_region
    ++ ((3 ∷ 5 ∷ 0 ∷ one) ++ (one ++ (one ++ (one
    ++ ((4 ∷ 7 ∷ 0 ∷ 1 ∷ 0 ∷ 2 ∷ 2 ∷ []) ++ (part
    ++ ((4 ∷ 6 ∷ 0 ∷ 2 ∷ 1 ∷ 0 ∷ 2 ∷ []) ++ (part
    ++ ((3 ∷ 3 ∷ 5 ∷ one) ++ (one ++ (one ++ (one
    ++ ((4 ∷ 8 ∷ 0 ∷ 1 ∷ 0 ∷ 0 ∷ 3 ∷ []) ++ (part ++ (part
    ++ ((4 ∷ 9 ∷ 0 ∷ 1 ∷ 0 ∷ 0 ∷ 2 ∷ []) ++ (part
    ++ (6 ∷ [])))))))))))))))))))))))))

abbrev read : PackRead
read = record { last = 5; tones = 9 ∷ 65 ∷ []; accents = 121 ∷ 246 ∷ []; firsts = 0 ∷ 2 ∷ []; rules = 140 ∷ 193 ∷ 265 ∷ 364 ∷ []; parts = 1; total = 5 }

reads : read_pack pack ≡ loaded read 418
unfolding read_pack loop_to loop_on record_verdict body_verdict settings_verdict tone_verdict tail_verdict accent_verdict rule_verdict part_verdict due_after size_of holds zero_or_held added parents_held chain_ends chains_end end_verdict index_of range_to turns_to above_zero probability_fine knot_fine weight_fine slot_fine knots_fine region_fine tail_fine tails_fine tolerances_fine range turns of_bits le lt
reads = refl

context : ℕ → ℕ → ℕ → Bool → Context
context a t p final = record { accent = a; tone = t; prev = p; last = final }

-- accent 3's own rule, the first of its two, and not accent 5's, which states more
nearest : look_up pack read (context 3 1 0 true) ≡ Some (record { name = record { owner = 3; form = 3; label = 8 }; at = 272; count = 2 })
unfolding context look_up find_rule climb_turn best_rule better_of matches meets specificity index_of range_to turns_to loop_to loop_on range turns parts_from
nearest = refl

-- accent 5's own at the end of a phrase; else the tone's citation, under the graded accent
stated : look_up pack read (context 5 1 0 true) ≡ Some (record { name = record { owner = 5; form = 2; label = 7 }; at = 147; count = 1 })
unfolding context look_up find_rule climb_turn best_rule better_of matches meets specificity index_of range_to turns_to loop_to loop_on range turns parts_from
stated = refl

cited : look_up pack read (context 5 1 0 false) ≡ Some (record { name = record { owner = 5; form = 1; label = 0 }; at = 9; count = 1 })
unfolding context look_up find_rule climb_turn best_rule better_of matches meets specificity index_of range_to turns_to loop_to loop_on range turns parts_from
cited = refl

-- "A citation has form 1, the graded accent as owner, label 0", where no rule of the chain was found
graded : listed pack read (context 3 1 0 false) 9 None ≡ Some (record { name = record { owner = 3; form = 1; label = 0 }; at = 9; count = 1 })
unfolding context
graded = refl

-- tone 2 after tone 1: the parent's rule, under the parent. Else nothing, as tone 2 has no citation
inherited : look_up pack read (context 3 2 1 false) ≡ Some (record { name = record { owner = 5; form = 2; label = 6 }; at = 200; count = 1 })
unfolding context look_up find_rule climb_turn best_rule better_of matches meets specificity index_of range_to turns_to loop_to loop_on range turns parts_from
inherited = refl

contextual : look_up pack read (context 3 2 2 false) ≡ None
unfolding context look_up find_rule climb_turn best_rule better_of matches meets specificity index_of range_to turns_to loop_to loop_on range turns parts_from
contextual = refl

-- "A parent may now be any accent of the file": accent 3 before accent 5, whose rule it takes, under 5
abbrev child_first : List ℕ
child_first =
    (1 ∷ one) ++ (one
    ++ ((2 ∷ 1 ∷ one) ++ (knots ++ (no_region
    ++ ((3 ∷ 3 ∷ 5 ∷ one) ++ (one ++ (one ++ (one
    ++ ((3 ∷ 5 ∷ 0 ∷ one) ++ (one ++ (one ++ (one
    ++ ((4 ∷ 7 ∷ 0 ∷ 1 ∷ 0 ∷ 2 ∷ 2 ∷ []) ++ (part
    ++ (6 ∷ [])))))))))))))))

abbrev read_first : PackRead
read_first = record { last = 5; tones = 9 ∷ []; accents = 65 ∷ 84 ∷ []; firsts = 0 ∷ 0 ∷ []; rules = 103 ∷ []; parts = 1; total = 1 }

parent_behind : (read_pack child_first ≡ loaded read_first 157)
    × (look_up child_first read_first (context 3 1 0 true) ≡ Some (record { name = record { owner = 5; form = 2; label = 7 }; at = 110; count = 1 }))
unfolding context read_pack record_verdict body_verdict settings_verdict tone_verdict tail_verdict accent_verdict rule_verdict part_verdict due_after size_of holds zero_or_held added parents_held chain_ends chains_end end_verdict above_zero probability_fine knot_fine weight_fine slot_fine knots_fine region_fine tail_fine tails_fine tolerances_fine of_bits le lt look_up find_rule climb_turn best_rule better_of matches meets specificity index_of range_to turns_to loop_to loop_on range turns parts_from
parent_behind = (refl, refl)

-- an accent and a tone that are not held
no_accent : look_up pack read (context 4 1 0 false) ≡ None
unfolding context look_up find_rule climb_turn best_rule better_of matches meets specificity index_of range_to turns_to loop_to loop_on range turns parts_from
no_accent = refl

no_tone : look_up pack read (context 3 4 0 false) ≡ None
unfolding context look_up find_rule climb_turn best_rule better_of matches meets specificity index_of range_to turns_to loop_to loop_on range turns parts_from
no_tone = refl

-- ---- every field of each record, from bytes that are their own offsets behind the kind
abbrev f32 : ℕ → Float
f32 bits = of_bits binary32 bits

fields1 : settings_at (1 ∷ 1 ∷ 2 ∷ 3 ∷ 4 ∷ 5 ∷ 6 ∷ 7 ∷ 8 ∷ []) 0 ≡ record { temperature = 0x0403_0201; threshold = 0x0807_0605 }
fields1 = refl

abbrev record2 : List ℕ
record2 =
    2 ∷ 1 ∷ 2 ∷ 3 ∷ 4 ∷ 5 ∷ 6 ∷ 7 ∷ 8 ∷ 9 ∷ 10 ∷ 11 ∷ 12 ∷ 13 ∷ 14 ∷ 15 ∷ 16 ∷ 17 ∷ 18 ∷ 19 ∷ 20 ∷ 21 ∷ 22 ∷ 23 ∷ 24 ∷ 25 ∷ 26 ∷ 27 ∷
    28 ∷ 29 ∷ 30 ∷ 31 ∷ 32 ∷ 33 ∷ 34 ∷ 35 ∷ 36 ∷ 37 ∷ 38 ∷ 39 ∷ 40 ∷ 41 ∷ 42 ∷ 43 ∷ 44 ∷ 45 ∷ 46 ∷ 47 ∷ 48 ∷ 49 ∷ 50 ∷ 51 ∷ 52 ∷ 53 ∷ 54 ∷ 55 ∷ []

fields2 : (tone_at TONE_REGION TAIL_KIND record2 0 ≡ record { number = 1; prior = 0x0504_0302; flag = 47; from = 0x3332_3130; to = 0x3736_3534; tail_final = 0; tail_elsewhere = 0 })
    × (tone_knots_at record2 0 ≡ f32 0x0a09_0807 ∷ f32 0x0e0d_0c0b ∷ f32 0x1211_100f ∷ f32 0x1615_1413 ∷ f32 0x1a19_1817 ∷ f32 0x1e1d_1c1b ∷ [])
unfolding knots_at
fields2 = (refl, refl)

-- a tail behind it; and one that does not follow it, but the next record
abbrev record7 : List ℕ
record7 = 7 ∷ 1 ∷ 2 ∷ 3 ∷ 4 ∷ 5 ∷ 6 ∷ 7 ∷ 8 ∷ []

fields7 : (tone_at TONE_REGION TAIL_KIND (record2 ++ record7) 0 ≡ record { number = 1; prior = 0x0504_0302; flag = 47; from = 0x3332_3130; to = 0x3736_3534; tail_final = 0x0403_0201; tail_elsewhere = 0x0807_0605 })
    × (tone_at TONE_REGION TAIL_KIND (record2 ++ (record2 ++ record7)) 0 ≡ tone_at TONE_REGION TAIL_KIND record2 0)
fields7 = (refl, refl)

abbrev record3 : List ℕ
record3 = 3 ∷ 1 ∷ 2 ∷ 3 ∷ 4 ∷ 5 ∷ 6 ∷ 7 ∷ 8 ∷ 9 ∷ 10 ∷ 11 ∷ 12 ∷ 13 ∷ 14 ∷ 15 ∷ 16 ∷ 17 ∷ 18 ∷ []

fields3 : accent_at ACCENT_CONTOUR record3 0 ≡ record { number = 1; contour = 0x0605_0403; onset = 0x0a09_0807; offset = 0x0e0d_0c0b; turning = 0x1211_100f }
fields3 = refl

-- label 0x0908, tone 3, prev 4, final 2, form 6, and no part behind it
abbrev record4 : List ℕ
record4 = 4 ∷ 8 ∷ 9 ∷ 3 ∷ 4 ∷ 2 ∷ 6 ∷ []

fields4 : (rule_listing record4 5 0 ≡ record { name = record { owner = 5; form = 6; label = 0x0908 }; at = 7; count = 0 })
    × (matches record4 (context 5 3 4 true) 0 ≡ true)
unfolding context matches meets parts_from
fields4 = (refl, refl)

-- the second of two parts, of which the first weighs 0
abbrev record5 : List ℕ
record5 =
    5 ∷ 1 ∷ 2 ∷ 3 ∷ 4 ∷ 5 ∷ 6 ∷ 7 ∷ 8 ∷ 9 ∷ 10 ∷ 11 ∷ 12 ∷ 13 ∷ 14 ∷ 15 ∷ 16 ∷ 17 ∷ 18 ∷ 19 ∷ 20 ∷ 21 ∷ 22 ∷ 23 ∷ 24 ∷ 25 ∷ 26 ∷ 27 ∷
    28 ∷ 29 ∷ 30 ∷ 31 ∷ 32 ∷ 33 ∷ 34 ∷ 35 ∷ 36 ∷ 37 ∷ 38 ∷ 39 ∷ 40 ∷ 41 ∷ 42 ∷ 43 ∷ 44 ∷ 45 ∷ []

abbrev parts : Listing
parts = record { name = record { owner = 1; form = 3; label = 2 }; at = 0; count = 2 }

fields5 : ((component_of (replicate 46 0 ++ record5) parts 1).weight ≡ f32 0x0403_0201)
    × ((component_of (replicate 46 0 ++ record5) parts 1).part ≡ 1)
    × (part_knots_at (replicate 46 0 ++ record5) 46 ≡ f32 0x0908_0706 ∷ f32 0x0d0c_0b0a ∷ f32 0x1110_0f0e ∷ f32 0x1514_1312 ∷ f32 0x1918_1716 ∷ [])
unfolding component_of knots_at
fields5 = (refl, refl, refl)
