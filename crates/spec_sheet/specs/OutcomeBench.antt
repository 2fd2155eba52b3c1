-- Worked examples, computed: a pack of one tone with a citation and two accents, the greater number first, and its sheet; one with a parent, in two orders.
use Rattle.std.specs.Prelude.{ℕ, ◌≡◌, refl, List, [], ◌∷◌, ◌++◌, replicate, Err}
use Rattle.std.specs.Float.Ieee.{le, lt, of_bits, to_bits}
use Rattle.tonekit_core.specs.Loop.{turns, range, turns_to, range_to, loop_on, loop_to}
use Rattle.tonekit_core.specs.Calls.{answer_in, written}
use Rattle.tonekit_core.specs.declared.Refusal.TheVariants.{ShortBuffer}
use Rattle.spec_arithmetic.specs.Places.{index_of}
use Rattle.spec_pack.specs.Ranges.{above_zero, probability_fine, knot_fine, weight_fine, slot_fine, knots_fine, region_fine, tail_fine, tails_fine, tolerances_fine}
use Rattle.spec_pack.specs.Pack.{parts_from, due_after, size_of, holds, zero_or_held, settings_verdict, tone_verdict, tail_verdict, accent_verdict, rule_verdict, part_verdict, body_verdict, record_verdict, added, parents_held, chain_ends, chains_end, end_verdict, read_pack, load_pack}
use Rattle.spec_lookup.specs.Knots.{point_at, first_points, knots_at}
use Rattle.spec_lookup.specs.Lookup.{meets, matches, specificity, better_of, best_rule, climb_turn, find_rule, look_up, component_of}
use Rattle.spec_lookup.specs.Source.{accent_in, carried, components, source_of_pack}
use Rattle.spec_sheet.specs.Pieces.{pieces, piecewise}
use Rattle.spec_sheet.specs.Number.{same_carried, seen_in, place_in, noted, number_in, same_by}
use Rattle.spec_sheet.specs.Sheet.{asc_from, ascending, row_context, view_of, lists_of, bits_bytes, components_bytes, bytes_with, sheet}
use Rattle.spec_sheet.specs.Outcome.{sheet_outcome}

abbrev one : List ℕ
one = 0 ∷ 0 ∷ 128 ∷ 63 ∷ []

-- tone 2, cited by one knot of 1; accents 5 and 3
abbrev pack : List ℕ
pack =
    (1 ∷ (one ++ one))
    ++ ((2 ∷ 2 ∷ (one ++ (1 ∷ (one ++ replicate 45 0))))
    ++ ((3 ∷ 5 ∷ 0 ∷ (one ++ (one ++ (one ++ one)))) ++ ((3 ∷ 3 ∷ 0 ∷ (one ++ (one ++ (one ++ one)))) ++ (6 ∷ []))))

-- list n: one component, the curve of one knot of 1; here the citation, under its owner
abbrev listed : ℕ → ℕ → ℕ → ℕ → List ℕ
listed n owner form label = (21 ∷ n ∷ owner ∷ form ∷ label ∷ 0 ∷ 1 ∷ []) ++ ((22 ∷ one) ++ (one ++ (one ++ (one ++ (one ++ (one ++ (one ++ (one ++ (one ++ (one ++ one))))))))))

abbrev list : ℕ → ℕ → List ℕ
list n owner = listed n owner 1 0

-- accents ascend, and lists are numbered along the rows
abbrev its : List ℕ
its =
    (17 ∷ (one ++ one))
    ++ ((18 ∷ 2 ∷ (one ++ (replicate 9 0 ++ 24 ∷ replicate 8 0)))
    ++ ((19 ∷ 3 ∷ (one ++ (one ++ (one ++ one)))) ++ ((19 ∷ 5 ∷ (one ++ (one ++ (one ++ one))))
    ++ ((20 ∷ 3 ∷ 2 ∷ 0 ∷ 1 ∷ 1 ∷ 20 ∷ 3 ∷ 2 ∷ 2 ∷ 1 ∷ 1 ∷ [])
    ++ ((20 ∷ 5 ∷ 2 ∷ 0 ∷ 2 ∷ 2 ∷ 20 ∷ 5 ∷ 2 ∷ 2 ∷ 2 ∷ 2 ∷ []) ++ (list 1 3 ++ (list 2 5 ++ (23 ∷ []))))))))

whole : sheet_outcome pack ≡ written its
unfolding sheet_outcome load_pack read_pack record_verdict due_after size_of body_verdict settings_verdict tone_verdict tail_verdict accent_verdict rule_verdict part_verdict holds zero_or_held added parents_held chain_ends chains_end end_verdict above_zero probability_fine knot_fine weight_fine slot_fine knots_fine region_fine tail_fine tails_fine tolerances_fine range turns range_to turns_to loop_to loop_on le lt of_bits to_bits sheet bytes_with view_of source_of_pack ascending asc_from accent_in row_context lists_of noted number_in seen_in place_in same_by same_carried piecewise pieces bits_bytes components_bytes look_up find_rule climb_turn best_rule index_of parts_from components carried component_of knots_at first_points point_at
whole = refl

-- "A pack whose accents, each with its rules, are written in any other order gives the same sheet": accent 5 with a rule for the end of a phrase, and
-- accent 3, whose parent it is, behind it or before it
abbrev front : List ℕ
front = (1 ∷ (one ++ one)) ++ (2 ∷ 2 ∷ (one ++ (1 ∷ (one ++ replicate 45 0))))

abbrev parent : List ℕ
parent = (3 ∷ 5 ∷ 0 ∷ (one ++ (one ++ (one ++ one)))) ++ ((4 ∷ 7 ∷ 0 ∷ 0 ∷ 0 ∷ 2 ∷ 2 ∷ []) ++ ((5 ∷ one) ++ ((1 ∷ one) ++ replicate 36 0)))

abbrev child : List ℕ
child = 3 ∷ 3 ∷ 5 ∷ (one ++ (one ++ (one ++ one)))

abbrev theirs : List ℕ
theirs =
    (17 ∷ (one ++ one))
    ++ ((18 ∷ 2 ∷ (one ++ (replicate 9 0 ++ 24 ∷ replicate 8 0)))
    ++ ((19 ∷ 3 ∷ (one ++ (one ++ (one ++ one)))) ++ ((19 ∷ 5 ∷ (one ++ (one ++ (one ++ one))))
    ++ ((20 ∷ 3 ∷ 2 ∷ 0 ∷ 1 ∷ 2 ∷ 20 ∷ 3 ∷ 2 ∷ 2 ∷ 1 ∷ 2 ∷ [])
    ++ ((20 ∷ 5 ∷ 2 ∷ 0 ∷ 3 ∷ 2 ∷ 20 ∷ 5 ∷ 2 ∷ 2 ∷ 3 ∷ 2 ∷ []) ++ (list 1 3 ++ (listed 2 5 2 7 ++ (list 3 5 ++ (23 ∷ [])))))))))

any_order : (sheet_outcome (front ++ (parent ++ (child ++ (6 ∷ [])))) ≡ written theirs)
    × (sheet_outcome (front ++ (child ++ (parent ++ (6 ∷ [])))) ≡ written theirs)
unfolding sheet_outcome load_pack read_pack record_verdict due_after size_of body_verdict settings_verdict tone_verdict tail_verdict accent_verdict rule_verdict part_verdict holds zero_or_held added parents_held chain_ends chains_end end_verdict above_zero probability_fine knot_fine weight_fine slot_fine knots_fine region_fine tail_fine tails_fine tolerances_fine range turns range_to turns_to loop_to loop_on le lt of_bits to_bits sheet bytes_with view_of source_of_pack ascending asc_from accent_in row_context lists_of noted number_in seen_in place_in same_by same_carried piecewise pieces bits_bytes components_bytes look_up find_rule climb_turn best_rule index_of parts_from components carried component_of knots_at first_points point_at better_of matches meets specificity
any_order = (refl, refl)

-- tails: kind 7's of -0 and 1 is a kind 24 of these bits; of a tone without one, zeros, as of one of zeros
abbrev tailed : List ℕ → List ℕ
tailed tail = front ++ (tail ++ ((3 ∷ 3 ∷ 0 ∷ (one ++ (one ++ (one ++ one)))) ++ (6 ∷ [])))

abbrev with_tail : List ℕ → List ℕ
with_tail values =
    (17 ∷ (one ++ one))
    ++ ((18 ∷ 2 ∷ (one ++ replicate 9 0)) ++ ((24 ∷ values)
    ++ ((19 ∷ 3 ∷ (one ++ (one ++ (one ++ one)))) ++ ((20 ∷ 3 ∷ 2 ∷ 0 ∷ 1 ∷ 1 ∷ 20 ∷ 3 ∷ 2 ∷ 2 ∷ 1 ∷ 1 ∷ []) ++ (list 1 3 ++ (23 ∷ []))))))

tails_written : (sheet_outcome (tailed (7 ∷ 0 ∷ 0 ∷ 0 ∷ 0x80 ∷ one)) ≡ written (with_tail (0 ∷ 0 ∷ 0 ∷ 0x80 ∷ one)))
    × (sheet_outcome (tailed []) ≡ written (with_tail (replicate 8 0)))
    × (sheet_outcome (tailed (7 ∷ replicate 8 0)) ≡ written (with_tail (replicate 8 0)))
unfolding sheet_outcome load_pack read_pack record_verdict due_after size_of body_verdict settings_verdict tone_verdict tail_verdict accent_verdict rule_verdict part_verdict holds zero_or_held added parents_held chain_ends chains_end end_verdict above_zero probability_fine knot_fine weight_fine slot_fine knots_fine region_fine tail_fine tails_fine tolerances_fine range turns range_to turns_to loop_to loop_on le lt of_bits to_bits sheet bytes_with view_of source_of_pack ascending asc_from accent_in row_context lists_of noted number_in seen_in place_in same_by same_carried piecewise pieces bits_bytes components_bytes look_up find_rule climb_turn best_rule index_of parts_from components carried component_of knots_at first_points point_at
tails_written = (refl, refl, refl)

-- one byte short: the length is answered
short : answer_in 197 (written its) ≡ Err (record { why = ShortBuffer; place = 198 })
unfolding answer_in
short = refl
