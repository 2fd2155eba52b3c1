-- Worked examples, computed: the smallest pack loads, and one refusal of each number that a pack can have, with its place.
use Rattle.std.specs.Prelude.{ℕ, ◌≡◌, refl, List, [], ◌∷◌, ◌++◌, replicate, Ok, Err}
use Rattle.std.specs.Float.Ieee.{lt, le, of_bits}
use Rattle.tonekit_core.specs.Loop.{range, turns, range_to, turns_to, loop_to, loop_on}
use Rattle.spec_arithmetic.specs.Places.{index_of}
use Rattle.tonekit_core.specs.declared.Refusal.TheVariants.{Misplaced, CutShort, Overrun, Crowded, OffScale, Doubled, Loose, EndlessChain}
use Rattle.spec_pack.specs.Ranges.{above_zero, probability_fine, knot_fine, weight_fine, slot_fine, knots_fine, region_fine, tail_fine, tails_fine, tolerances_fine}
use Rattle.spec_arithmetic.specs.Files.{Out, loaded, refused}
use Rattle.spec_pack.specs.Pack.{PackRead, due_after, size_of, holds, zero_or_held, settings_verdict, tone_verdict, tail_verdict, accent_verdict, rule_verdict, part_verdict, body_verdict, record_verdict, added, parents_held, chain_ends, chains_end, end_verdict, read_pack, load_pack, check_pack}

abbrev one : List ℕ
one = 0 ∷ 0 ∷ 128 ∷ 63 ∷ []

-- temperature 1, threshold 1
abbrev settings : List ℕ
settings = 1 ∷ (one ++ one)

-- a tone of prior 1 with so many knots, of which the first is 1, and no region
abbrev tone : ℕ → ℕ → List ℕ
tone number knots = 2 ∷ number ∷ (one ++ (knots ∷ (one ++ replicate 45 0)))

abbrev accent : ℕ → ℕ → List ℕ
accent number parent = 3 ∷ number ∷ parent ∷ (one ++ (one ++ (one ++ one)))

abbrev pack : List ℕ
pack = settings ++ (tone 1 1 ++ (accent 1 0 ++ (6 ∷ [])))

smallest : load_pack pack ≡ loaded (record { last = 3; tones = 9 ∷ []; accents = 65 ∷ []; firsts = 0 ∷ []; rules = []; parts = 0; total = 0 }) 85
unfolding load_pack read_pack record_verdict due_after size_of body_verdict settings_verdict tone_verdict tail_verdict accent_verdict rule_verdict part_verdict holds zero_or_held added parents_held chain_ends chains_end end_verdict index_of range_to turns_to above_zero probability_fine knot_fine weight_fine slot_fine knots_fine region_fine tail_fine tails_fine tolerances_fine range turns loop_to loop_on lt le of_bits
smallest = refl

-- a tone first
no_settings : read_pack (tone 1 1) ≡ refused Misplaced 0
unfolding load_pack read_pack record_verdict due_after size_of body_verdict settings_verdict tone_verdict tail_verdict accent_verdict rule_verdict part_verdict holds zero_or_held added parents_held chain_ends chains_end end_verdict index_of range_to turns_to above_zero probability_fine knot_fine weight_fine slot_fine knots_fine region_fine tail_fine tails_fine tolerances_fine range turns loop_to loop_on lt le of_bits
no_settings = refl

-- a kind that there is not, once something is due
unknown_kind : read_pack (settings ++ (8 ∷ [])) ≡ refused Misplaced 9
unfolding load_pack read_pack record_verdict due_after size_of body_verdict settings_verdict tone_verdict tail_verdict accent_verdict rule_verdict part_verdict holds zero_or_held added parents_held chain_ends chains_end end_verdict index_of range_to turns_to above_zero probability_fine knot_fine weight_fine slot_fine knots_fine region_fine tail_fine tails_fine tolerances_fine range turns loop_to loop_on lt le of_bits
unknown_kind = refl

-- nothing at all: the first record is missing, at the input's end
empty : read_pack [] ≡ refused CutShort 0
unfolding load_pack read_pack record_verdict due_after size_of body_verdict settings_verdict tone_verdict tail_verdict accent_verdict rule_verdict part_verdict holds zero_or_held added parents_held chain_ends chains_end end_verdict index_of range_to turns_to above_zero probability_fine knot_fine weight_fine slot_fine knots_fine region_fine tail_fine tails_fine tolerances_fine range turns loop_to loop_on lt le of_bits
empty = refl

-- a record that the input cuts
cut : read_pack (settings ++ (2 ∷ 1 ∷ [])) ≡ refused CutShort 9
unfolding load_pack read_pack record_verdict due_after size_of body_verdict settings_verdict tone_verdict tail_verdict accent_verdict rule_verdict part_verdict holds zero_or_held added parents_held chain_ends chains_end end_verdict index_of range_to turns_to above_zero probability_fine knot_fine weight_fine slot_fine knots_fine region_fine tail_fine tails_fine tolerances_fine range turns loop_to loop_on lt le of_bits
cut = refl

-- no End: it is missing, at the input's end
no_end : read_pack (settings ++ (tone 1 1 ++ accent 1 0)) ≡ refused CutShort 84
unfolding load_pack read_pack record_verdict due_after size_of body_verdict settings_verdict tone_verdict tail_verdict accent_verdict rule_verdict part_verdict holds zero_or_held added parents_held chain_ends chains_end end_verdict index_of range_to turns_to above_zero probability_fine knot_fine weight_fine slot_fine knots_fine region_fine tail_fine tails_fine tolerances_fine range turns loop_to loop_on lt le of_bits
no_end = refl

-- one byte behind the pack
behind : load_pack (pack ++ (0 ∷ [])) ≡ refused Overrun 85
unfolding load_pack read_pack record_verdict due_after size_of body_verdict settings_verdict tone_verdict tail_verdict accent_verdict rule_verdict part_verdict holds zero_or_held added parents_held chain_ends chains_end end_verdict index_of range_to turns_to above_zero probability_fine knot_fine weight_fine slot_fine knots_fine region_fine tail_fine tails_fine tolerances_fine range turns loop_to loop_on lt le of_bits
behind = refl

-- the same byte is no matter to a pack at the front
front : read_pack (pack ++ (0 ∷ [])) ≡ loaded (record { last = 3; tones = 9 ∷ []; accents = 65 ∷ []; firsts = 0 ∷ []; rules = []; parts = 0; total = 0 }) 85
unfolding load_pack read_pack record_verdict due_after size_of body_verdict settings_verdict tone_verdict tail_verdict accent_verdict rule_verdict part_verdict holds zero_or_held added parents_held chain_ends chains_end end_verdict index_of range_to turns_to above_zero probability_fine knot_fine weight_fine slot_fine knots_fine region_fine tail_fine tails_fine tolerances_fine range turns loop_to loop_on lt le of_bits
front = refl

-- eleven knots, although the number is off scale too
eleven : read_pack (settings ++ tone 0 11) ≡ refused Crowded 9
unfolding load_pack read_pack record_verdict due_after size_of body_verdict settings_verdict tone_verdict tail_verdict accent_verdict rule_verdict part_verdict holds zero_or_held added parents_held chain_ends chains_end end_verdict index_of range_to turns_to above_zero probability_fine knot_fine weight_fine slot_fine knots_fine region_fine tail_fine tails_fine tolerances_fine range turns loop_to loop_on lt le of_bits
eleven = refl

-- tone 0, although the slots are in their ranges
no_number : read_pack (settings ++ tone 0 1) ≡ refused OffScale 9
unfolding load_pack read_pack record_verdict due_after size_of body_verdict settings_verdict tone_verdict tail_verdict accent_verdict rule_verdict part_verdict holds zero_or_held added parents_held chain_ends chains_end end_verdict index_of range_to turns_to above_zero probability_fine knot_fine weight_fine slot_fine knots_fine region_fine tail_fine tails_fine tolerances_fine range turns loop_to loop_on lt le of_bits
no_number = refl

-- a slot that is no knot holds 1
loose_slot : read_pack (settings ++ tone 1 0) ≡ refused OffScale 9
unfolding load_pack read_pack record_verdict due_after size_of body_verdict settings_verdict tone_verdict tail_verdict accent_verdict rule_verdict part_verdict holds zero_or_held added parents_held chain_ends chains_end end_verdict index_of range_to turns_to above_zero probability_fine knot_fine weight_fine slot_fine knots_fine region_fine tail_fine tails_fine tolerances_fine range turns loop_to loop_on lt le of_bits
loose_slot = refl

-- a tone's number again
twice : read_pack (settings ++ (tone 1 1 ++ tone 1 1)) ≡ refused Doubled 65
unfolding load_pack read_pack record_verdict due_after size_of body_verdict settings_verdict tone_verdict tail_verdict accent_verdict rule_verdict part_verdict holds zero_or_held added parents_held chain_ends chains_end end_verdict index_of range_to turns_to above_zero probability_fine knot_fine weight_fine slot_fine knots_fine region_fine tail_fine tails_fine tolerances_fine range turns loop_to loop_on lt le of_bits
twice = refl

-- and that of one that is not the first
twice_later : read_pack (settings ++ (tone 1 1 ++ (tone 2 1 ++ tone 2 1))) ≡ refused Doubled 121
unfolding load_pack read_pack record_verdict due_after size_of body_verdict settings_verdict tone_verdict tail_verdict accent_verdict rule_verdict part_verdict holds zero_or_held added parents_held chain_ends chains_end end_verdict index_of range_to turns_to above_zero probability_fine knot_fine weight_fine slot_fine knots_fine region_fine tail_fine tails_fine tolerances_fine range turns loop_to loop_on lt le of_bits
twice_later = refl

-- a number again, whose parent is not there
again : read_pack (settings ++ (tone 1 1 ++ (accent 1 0 ++ accent 1 9))) ≡ refused Doubled 84
unfolding load_pack read_pack record_verdict due_after size_of body_verdict settings_verdict tone_verdict tail_verdict accent_verdict rule_verdict part_verdict holds zero_or_held added parents_held chain_ends chains_end end_verdict index_of range_to turns_to above_zero probability_fine knot_fine weight_fine slot_fine knots_fine region_fine tail_fine tails_fine tolerances_fine range turns loop_to loop_on lt le of_bits
again = refl

-- a rule of tone 1 of this form, and a part of weight 1 or 0 with one knot
abbrev rule : ℕ → List ℕ
rule form = 4 ∷ 0 ∷ 0 ∷ 1 ∷ 0 ∷ 0 ∷ form ∷ []

abbrev part : List ℕ → List ℕ
part weight = 5 ∷ (weight ++ (1 ∷ (one ++ replicate 36 0)))

abbrev begun : List ℕ
begun = settings ++ (tone 1 1 ++ accent 1 0)

-- a rule with two parts
mixture : read_pack (begun ++ (rule 3 ++ (part one ++ (part (replicate 4 0) ++ (6 ∷ []))))) ≡ loaded (record { last = 5; tones = 9 ∷ []; accents = 65 ∷ []; firsts = 0 ∷ []; rules = 84 ∷ []; parts = 2; total = 2 }) 184
unfolding load_pack read_pack record_verdict due_after size_of body_verdict settings_verdict tone_verdict tail_verdict accent_verdict rule_verdict part_verdict holds zero_or_held added parents_held chain_ends chains_end end_verdict index_of range_to turns_to above_zero probability_fine knot_fine weight_fine slot_fine knots_fine region_fine tail_fine tails_fine tolerances_fine range turns loop_to loop_on lt le of_bits
mixture = refl

-- a rule without a part
no_part : read_pack (begun ++ (rule 3 ++ (6 ∷ []))) ≡ refused Misplaced 91
unfolding load_pack read_pack record_verdict due_after size_of body_verdict settings_verdict tone_verdict tail_verdict accent_verdict rule_verdict part_verdict holds zero_or_held added parents_held chain_ends chains_end end_verdict index_of range_to turns_to above_zero probability_fine knot_fine weight_fine slot_fine knots_fine region_fine tail_fine tails_fine tolerances_fine range turns loop_to loop_on lt le of_bits
no_part = refl

-- a second part of a single rule
second : read_pack (begun ++ (rule 2 ++ (part one ++ part one))) ≡ refused Crowded 137
unfolding load_pack read_pack record_verdict due_after size_of body_verdict settings_verdict tone_verdict tail_verdict accent_verdict rule_verdict part_verdict holds zero_or_held added parents_held chain_ends chains_end end_verdict index_of range_to turns_to above_zero probability_fine knot_fine weight_fine slot_fine knots_fine region_fine tail_fine tails_fine tolerances_fine range turns loop_to loop_on lt le of_bits
second = refl

-- a single rule's part of weight 0
light : read_pack (begun ++ (rule 2 ++ part (replicate 4 0))) ≡ refused OffScale 91
unfolding load_pack read_pack record_verdict due_after size_of body_verdict settings_verdict tone_verdict tail_verdict accent_verdict rule_verdict part_verdict holds zero_or_held added parents_held chain_ends chains_end end_verdict index_of range_to turns_to above_zero probability_fine knot_fine weight_fine slot_fine knots_fine region_fine tail_fine tails_fine tolerances_fine range turns loop_to loop_on lt le of_bits
light = refl

-- ---- ranges and limits: what an input is, as a single pack; opened, it computes
unfoldable read : List ℕ → Out PackRead
unfolding load_pack read_pack record_verdict due_after size_of body_verdict settings_verdict tone_verdict tail_verdict accent_verdict rule_verdict part_verdict holds zero_or_held added parents_held chain_ends chains_end end_verdict index_of range_to turns_to above_zero probability_fine knot_fine weight_fine slot_fine knots_fine region_fine tail_fine tails_fine tolerances_fine range turns loop_to loop_on lt le of_bits
read s = load_pack s

-- 0, -0, the least above 0, the greatest that is finite, infinity, a NaN
abbrev nought : List ℕ
nought = replicate 4 0

abbrev minus_nought : List ℕ
minus_nought = 0 ∷ 0 ∷ 0 ∷ 0x80 ∷ []

abbrev least : List ℕ
least = 1 ∷ 0 ∷ 0 ∷ 0 ∷ []

abbrev greatest : List ℕ
greatest = 0xff ∷ 0xff ∷ 0x7f ∷ 0x7f ∷ []

abbrev infinite : List ℕ
infinite = 0 ∷ 0 ∷ 0x80 ∷ 0x7f ∷ []

abbrev nan : List ℕ
nan = 0 ∷ 0 ∷ 0xc0 ∷ 0x7f ∷ []

-- the f32 above 1; 100 and -100, and the f32s beyond them
abbrev over_one : List ℕ
over_one = 1 ∷ 0 ∷ 0x80 ∷ 0x3f ∷ []

abbrev hundred : List ℕ
hundred = 0 ∷ 0 ∷ 0xc8 ∷ 0x42 ∷ []

abbrev minus_hundred : List ℕ
minus_hundred = 0 ∷ 0 ∷ 0xc8 ∷ 0xc2 ∷ []

abbrev over_hundred : List ℕ
over_hundred = 1 ∷ 0 ∷ 0xc8 ∷ 0x42 ∷ []

abbrev under_minus_hundred : List ℕ
under_minus_hundred = 1 ∷ 0 ∷ 0xc8 ∷ 0xc2 ∷ []

-- a pack with one record of each kind and these fields: the tone's one knot and its region, the accent's last tolerance, the part's weight
abbrev full : List ℕ → List ℕ → List ℕ → List ℕ → List ℕ → List ℕ → List ℕ → List ℕ
full temperature threshold prior knot region tolerance weight =
    (1 ∷ (temperature ++ threshold))
    ++ ((2 ∷ 1 ∷ (prior ++ (1 ∷ (knot ++ (replicate 36 0 ++ region)))))
    ++ ((3 ∷ 1 ∷ 0 ∷ (one ++ (one ++ (one ++ tolerance)))) ++ (rule 3 ++ (part weight ++ (6 ∷ [])))))

-- no region, and one of these ends
abbrev nowhere : List ℕ
nowhere = replicate 9 0

abbrev between : List ℕ → List ℕ → List ℕ
between from to = 1 ∷ (from ++ to)

-- such a pack, read
abbrev fine : Out PackRead
fine = loaded (record { last = 5; tones = 9 ∷ []; accents = 65 ∷ []; firsts = 0 ∷ []; rules = 84 ∷ []; parts = 1; total = 1 }) 138

-- every field at the least, and at the greatest, that it may be
at_least : read (full least least least minus_hundred (between nought nought) least nought) ≡ fine
unfolding read
at_least = refl

at_greatest : read (full greatest one one hundred (between nought greatest) greatest greatest) ≡ fine
unfolding read
at_greatest = refl

-- "Temperature .. finite and above 0"
temperature_range : (read (full nought one one one nowhere one one) ≡ refused OffScale 0)
    × (read (full minus_nought one one one nowhere one one) ≡ refused OffScale 0)
    × (read (full infinite one one one nowhere one one) ≡ refused OffScale 0)
    × (read (full nan one one one nowhere one one) ≡ refused OffScale 0)
unfolding read
temperature_range = (refl, refl, refl, refl)

-- "threshold above 0, at most 1"
threshold_range : (read (full one nought one one nowhere one one) ≡ refused OffScale 0)
    × (read (full one over_one one one nowhere one one) ≡ refused OffScale 0)
    × (read (full one infinite one one nowhere one one) ≡ refused OffScale 0)
    × (read (full one nan one one nowhere one one) ≡ refused OffScale 0)
unfolding read
threshold_range = (refl, refl, refl, refl)

-- "prior .. above 0, at most 1"
prior_range : (read (full one one nought one nowhere one one) ≡ refused OffScale 9)
    × (read (full one one over_one one nowhere one one) ≡ refused OffScale 9)
    × (read (full one one nan one nowhere one one) ≡ refused OffScale 9)
unfolding read
prior_range = (refl, refl, refl)

-- "size at most 100"
knot_range : (read (full one one one over_hundred nowhere one one) ≡ refused OffScale 9)
    × (read (full one one one under_minus_hundred nowhere one one) ≡ refused OffScale 9)
    × (read (full one one one infinite nowhere one one) ≡ refused OffScale 9)
    × (read (full one one one nan nowhere one one) ≡ refused OffScale 9)
unfolding read
knot_range = (refl, refl, refl, refl)

-- "regions finite, from ≤ to"; "flag 0 or 1"; "from and to where the flag is 0, are zero bytes", so -0 is none
region_range : (read (full one one one one (between one nought) one one) ≡ refused OffScale 9)
    × (read (full one one one one (between nought infinite) one one) ≡ refused OffScale 9)
    × (read (full one one one one (between nan nan) one one) ≡ refused OffScale 9)
    × (read (full one one one one (2 ∷ replicate 8 0) one one) ≡ refused OffScale 9)
    × (read (full one one one one (0 ∷ (minus_nought ++ nought)) one one) ≡ refused OffScale 9)
unfolding read
region_range = (refl, refl, refl, refl, refl)

-- "tolerances are finite and above 0"
tolerance_range : (read (full one one one one nowhere nought one) ≡ refused OffScale 65)
    × (read (full one one one one nowhere infinite one) ≡ refused OffScale 65)
    × (read (full one one one one nowhere nan one) ≡ refused OffScale 65)
unfolding read
tolerance_range = (refl, refl, refl)

-- "weights finite, sign clear, zero allowed"
weight_range : (read (full one one one one nowhere one minus_nought) ≡ refused OffScale 91)
    × (read (full one one one one nowhere one infinite) ≡ refused OffScale 91)
    × (read (full one one one one nowhere one nan) ≡ refused OffScale 91)
unfolding read
weight_range = (refl, refl, refl)

-- "Numbers are 1 to 255": an accent 0, and a tone and an accent 255
accent_zero : read (settings ++ (tone 1 1 ++ accent 0 0)) ≡ refused OffScale 65
unfolding read
accent_zero = refl

number_255 : read (settings ++ (tone 255 1 ++ (accent 255 0 ++ (6 ∷ [])))) ≡ loaded (record { last = 3; tones = 9 ∷ []; accents = 65 ∷ []; firsts = 0 ∷ []; rules = []; parts = 0; total = 0 }) 85
unfolding read
number_255 = refl

-- "1 to 8 tones, 1 to 8 accents": the ninth of each; no tone, and no accent
abbrev eight : (ℕ → List ℕ) → List ℕ
eight f = f 1 ++ (f 2 ++ (f 3 ++ (f 4 ++ (f 5 ++ (f 6 ++ (f 7 ++ f 8))))))

ninth_tone : read (settings ++ (eight (λ n. tone n 1) ++ tone 9 1)) ≡ refused Crowded 457
unfolding read
ninth_tone = refl

ninth_accent : read (settings ++ (tone 1 1 ++ (eight (λ n. accent n 0) ++ accent 9 0))) ≡ refused Crowded 217
unfolding read
ninth_accent = refl

eighth_accent : read (settings ++ (tone 1 1 ++ (eight (λ n. accent n 0) ++ (6 ∷ []))))
    ≡ loaded (record { last = 3; tones = 9 ∷ []; accents = 65 ∷ 84 ∷ 103 ∷ 122 ∷ 141 ∷ 160 ∷ 179 ∷ 198 ∷ []; firsts = replicate 8 0; rules = []; parts = 0; total = 0 }) 218
unfolding read
eighth_accent = refl

no_tone : read (settings ++ accent 1 0) ≡ refused Misplaced 9
unfolding read
no_tone = refl

no_accent : read (settings ++ (tone 1 1 ++ (6 ∷ []))) ≡ refused Misplaced 65
unfolding read
no_accent = refl

-- "1 to 4 parts a rule": the fifth
abbrev quarters : List ℕ
quarters = part one ++ (part one ++ (part one ++ part one))

fifth_part : read (begun ++ (rule 3 ++ (quarters ++ part one))) ≡ refused Crowded 275
unfolding read
fifth_part = refl

-- "at most 64 rules", "128 parts in all": a rule and a part after so many
abbrev after : ℕ → ℕ → PackRead
after rules parts = record { last = 5; tones = 0 ∷ []; accents = 0 ∷ []; firsts = 0 ∷ []; rules = replicate rules 0; parts = 1; total = parts }

rule_64 : rule_verdict (4 ∷ 0 ∷ 0 ∷ 0 ∷ 0 ∷ 0 ∷ 3 ∷ []) 0 (after 63 63) ≡ Ok tt
unfolding rule_verdict zero_or_held
rule_64 = refl

rule_65 : rule_verdict (4 ∷ 0 ∷ 0 ∷ 0 ∷ 0 ∷ 0 ∷ 3 ∷ []) 0 (after 64 64) ≡ Err Crowded
unfolding rule_verdict
rule_65 = refl

part_128 : part_verdict (rule 3 ++ part one) 7 (after 64 127) ≡ Ok tt
unfolding part_verdict weight_fine knots_fine slot_fine knot_fine range turns lt le of_bits
part_128 = refl

part_129 : part_verdict (rule 3 ++ part one) 7 (after 64 128) ≡ Err Crowded
unfolding part_verdict
part_129 = refl

-- "unused slots .. are zero bytes": -0 in a slot that is no knot
minus_zero_slot : read (settings ++ (2 ∷ 1 ∷ (one ++ (1 ∷ (one ++ (minus_nought ++ replicate 41 0)))))) ≡ refused OffScale 9
unfolding read
minus_zero_slot = refl

-- "Rule final: 0 any, 1 no, 2 yes", "Form 2 is single .., 3 mixture": final 3, form 1 and form 4
final_three : read (begun ++ (4 ∷ 0 ∷ 0 ∷ 1 ∷ 0 ∷ 3 ∷ 3 ∷ [])) ≡ refused OffScale 84
unfolding read
final_three = refl

form_one : read (begun ++ rule 1) ≡ refused OffScale 84
unfolding read
form_one = refl

form_four : read (begun ++ rule 4) ≡ refused OffScale 84
unfolding read
form_four = refl

-- "Kind 7 may follow a Tone: two f32, the tail value at phrase end and elsewhere": of 50 and -50 behind the second of two tones, of -0 and 0 behind the first
abbrev tail : List ℕ → List ℕ → List ℕ
tail final elsewhere = 7 ∷ (final ++ elsewhere)

abbrev fifty : List ℕ
fifty = 0 ∷ 0 ∷ 0x48 ∷ 0x42 ∷ []

abbrev minus_fifty : List ℕ
minus_fifty = 0 ∷ 0 ∷ 0x48 ∷ 0xc2 ∷ []

tail_last : read (settings ++ (tone 1 1 ++ (tone 2 1 ++ (tail fifty minus_fifty ++ (accent 1 0 ++ (6 ∷ []))))))
    ≡ loaded (record { last = 3; tones = 9 ∷ 65 ∷ []; accents = 130 ∷ []; firsts = 0 ∷ []; rules = []; parts = 0; total = 0 }) 150
unfolding read
tail_last = refl

tail_between : read (settings ++ (tone 1 1 ++ (tail minus_nought nought ++ (tone 2 1 ++ (accent 1 0 ++ (6 ∷ []))))))
    ≡ loaded (record { last = 3; tones = 9 ∷ 74 ∷ []; accents = 130 ∷ []; firsts = 0 ∷ []; rules = []; parts = 0; total = 0 }) 150
unfolding read
tail_between = refl

-- one that follows no tone: a second, one behind the settings, one behind an accent
tail_twice : read (settings ++ (tone 1 1 ++ (tail nought nought ++ tail nought nought))) ≡ refused Misplaced 74
unfolding read
tail_twice = refl

tail_first : read (settings ++ tail nought nought) ≡ refused Misplaced 9
unfolding read
tail_first = refl

tail_late : read (begun ++ tail nought nought) ≡ refused Misplaced 84
unfolding read
tail_late = refl

-- "finite and of size at most 50": the f32s above 50 and below -50, in either place, infinity, a NaN
tail_above : (read (settings ++ (tone 1 1 ++ tail (1 ∷ 0 ∷ 0x48 ∷ 0x42 ∷ []) nought)) ≡ refused OffScale 65)
    × (read (settings ++ (tone 1 1 ++ tail nought (1 ∷ 0 ∷ 0x48 ∷ 0xc2 ∷ []))) ≡ refused OffScale 65)
unfolding read
tail_above = (refl, refl)

tail_not_finite : (read (settings ++ (tone 1 1 ++ tail (0 ∷ 0 ∷ 0x80 ∷ 0x7f ∷ []) nought)) ≡ refused OffScale 65)
    × (read (settings ++ (tone 1 1 ++ tail nought (0 ∷ 0 ∷ 0xc0 ∷ 0x7f ∷ []))) ≡ refused OffScale 65)
unfolding read
tail_not_finite = (refl, refl)

-- one that the input cuts
tail_cut : read (settings ++ (tone 1 1 ++ (7 ∷ replicate 7 0))) ≡ refused CutShort 65
unfolding read
tail_cut = refl

-- "A parent may now be any accent of the file": one that stands later
later_parent : read (settings ++ (tone 1 1 ++ (accent 1 2 ++ (accent 2 0 ++ (6 ∷ [])))))
    ≡ loaded (record { last = 3; tones = 9 ∷ []; accents = 65 ∷ 84 ∷ []; firsts = 0 ∷ 0 ∷ []; rules = []; parts = 0; total = 0 }) 104
unfolding read
later_parent = refl

-- "The parent part of 7 moves to End": a parent that no accent has is no matter where the End is missing, nor to the record behind it
parent_at_end : (read (settings ++ (tone 1 1 ++ (accent 1 9 ++ (6 ∷ [])))) ≡ refused Loose 84)
    × (read (settings ++ (tone 1 1 ++ accent 1 9)) ≡ refused CutShort 84)
    × (read (settings ++ (tone 1 1 ++ (accent 1 9 ++ (7 ∷ [])))) ≡ refused Misplaced 84)
    × (read (settings ++ (tone 1 1 ++ (accent 1 0 ++ (accent 2 9 ++ (6 ∷ []))))) ≡ refused Loose 103)
unfolding read
parent_at_end = (refl, refl, refl, refl)

-- "20 when some chain never ends": an accent that names itself, a ring of two, one that leads into a ring, behind one that ends; before 3; no matter
-- where the End is missing
endless : (read (settings ++ (tone 1 1 ++ (accent 1 1 ++ (6 ∷ [])))) ≡ refused EndlessChain 84)
    × (read (settings ++ (tone 1 1 ++ (accent 1 2 ++ (accent 2 1 ++ (6 ∷ []))))) ≡ refused EndlessChain 103)
    × (read (settings ++ (tone 1 1 ++ (accent 4 0 ++ (accent 1 2 ++ (accent 2 3 ++ (accent 3 2 ++ (6 ∷ []))))))) ≡ refused EndlessChain 141)
    × (read (settings ++ (tone 1 1 ++ (accent 1 1 ++ (6 ∷ 0 ∷ [])))) ≡ refused EndlessChain 84)
    × (read (settings ++ (tone 1 1 ++ accent 1 1)) ≡ refused CutShort 84)
unfolding read
endless = (refl, refl, refl, refl, refl)

-- "checked at End after 7": a parent that no accent has, behind a ring
loose_first : read (settings ++ (tone 1 1 ++ (accent 1 1 ++ (accent 2 9 ++ (6 ∷ []))))) ≡ refused Loose 103
unfolding read
loose_first = refl

-- a chain of all eight accents ends, wherever each stands; a ring of all eight does not
abbrev chain : ℕ → List ℕ
chain last = accent 8 7 ++ (accent 2 1 ++ (accent 5 4 ++ (accent 3 2 ++ (accent 7 6 ++ (accent 1 last ++ (accent 6 5 ++ (accent 4 3 ++ (6 ∷ []))))))))

eight_long : (read (settings ++ (tone 1 1 ++ chain 0))
    ≡ loaded (record { last = 3; tones = 9 ∷ []; accents = 65 ∷ 84 ∷ 103 ∷ 122 ∷ 141 ∷ 160 ∷ 179 ∷ 198 ∷ []; firsts = replicate 8 0; rules = []; parts = 0; total = 0 }) 218)
    × (read (settings ++ (tone 1 1 ++ chain 8)) ≡ refused EndlessChain 217)
unfolding read
eight_long = (refl, refl)

-- "Knots number 1 to 10": a part of none
no_knots : read (begun ++ (rule 3 ++ (5 ∷ (one ++ replicate 41 0)))) ≡ refused OffScale 91
unfolding read
no_knots = refl

-- a rule's tone, and its prev, that are not there
loose_tone : read (begun ++ (4 ∷ 0 ∷ 0 ∷ 9 ∷ 1 ∷ 0 ∷ 3 ∷ [])) ≡ refused Loose 84
unfolding read
loose_tone = refl

loose_prev : read (begun ++ (4 ∷ 0 ∷ 0 ∷ 1 ∷ 9 ∷ 0 ∷ 3 ∷ [])) ≡ refused Loose 84
unfolding read
loose_prev = refl

-- a record that lacks its last byte
last_byte : read_pack (1 ∷ (one ++ (0 ∷ 0 ∷ 128 ∷ []))) ≡ refused CutShort 0
unfolding read
last_byte = refl

-- "in each 1, 2, 4": a 65th rule that the input cuts
cut_first : record_verdict (4 ∷ []) 0 (after 64 64) ≡ Err CutShort
unfolding record_verdict due_after size_of
cut_first = refl

-- a check says of a pack what loading it says
checked : (check_pack pack ≡ Ok tt) × (check_pack (pack ++ (0 ∷ [])) ≡ Err (record { why = Overrun; place = 85 }))
unfolding read check_pack
checked = (refl, refl)
