-- Document 01's worked example, computed whole.
use Rattle.std.specs.Prelude.{ℕ, ◌≡◌, refl, Option, Some, None, Err, List, [], ◌∷◌, ◌++◌, replicate, true, false}
use Rattle.std.specs.Float.{binary32, float_with_sign, is_sign_negative}
use Rattle.std.specs.Float.Ieee.{add, sub, mul, div, lt, le, eq, neg, of_bits, to_bits, of_int, round, is_nan}
use Rattle.tonekit_core.specs.Calls.{refused, written}
use Rattle.tonekit_core.specs.declared.Refusal.TheVariants.{Misplaced, CutShort, Unvoiced, UnknownAccent, NoRealisation, BadVariant}
use Rattle.tonekit_core.specs.Loop.{turns, range, turns_to, range_to, loop_on, loop_to, while, while_if}
use Rattle.spec_arithmetic.specs.Narrow.{narrowed}
use Rattle.spec_arithmetic.specs.Whole.{whole_part, round_up}
use Rattle.spec_arithmetic.specs.Pick.{lesser, greater}
use Rattle.spec_arithmetic.specs.Log.{ln_of, log2_of, log_by, parts_of, centred, series, log_horner}
use Rattle.spec_arithmetic.specs.Fields.{f32s_bytes}
use Rattle.spec_arithmetic.specs.Position.{position}
use Rattle.spec_query.specs.Frames.{frame_at}
use Rattle.spec_query.specs.declared.Query.{Query}
use Rattle.spec_judgement.specs.declared.Tolerance.{Tolerance}
use Rattle.tonekit_entries.specs.declared.ToneListing.{ToneListing}
use Rattle.spec_query.specs.Query.{variant_fine, variants_fine, record_verdict, frame_verdict, fields_of, read_query, load_query}
use Rattle.spec_pack.specs.Ranges.{above_zero, probability_fine, knot_fine, weight_fine, slot_fine, knots_fine, region_fine, tail_fine, tails_fine, tolerances_fine}
use Rattle.spec_pack.specs.Pack.{due_after, size_of, holds, zero_or_held, settings_verdict, tone_verdict, tail_verdict, accent_verdict, rule_verdict, part_verdict, body_verdict, added, parents_held, chain_ends, chains_end, end_verdict, read_pack, load_pack}
use Rattle.spec_pack.specs.Pack as reader
use Rattle.spec_shape.specs.Chao.{hz_to_st, width_of, st_to_chao}
use Rattle.spec_shape.specs.Window.{half_width, reach, curve_at, step_of, mean_over, rounded, frames_at}
use Rattle.spec_shape.specs.Extract.{extent_of, holes_filled, drawn, list_of, shape_of}
use Rattle.spec_shape.specs.Register.{voiced_st, insert, ascending, percentile, p5_p50_p95, at_least_min_span, cold_register, in_register}
use Rattle.spec_shape.specs.Record.{united}
use Rattle.spec_lookup.specs.Knots.{point_at, first_points, knots_at}
use Rattle.spec_arithmetic.specs.Places.{index_of}
use Rattle.spec_lookup.specs.Lookup.{best_rule, climb_turn, find_rule, look_up, component_of}
use Rattle.spec_lookup.specs.Source.{carried, components, source_of_pack, accent_in, tone_in}
use Rattle.tonekit_core.specs.Words.{with_issue}
use Rattle.spec_arithmetic.specs.Root.{root_of, root_units, nearest_root, isqrt}
use Rattle.spec_arithmetic.specs.Exp.{exp_of, exp_by, rest, exp_series, exp_horner, floor_of}
use Rattle.spec_judgement.specs.Score.{widen_for, scoring_of, clamp_log, add_to, value_of, excused, point_weight, squares_of, end_term, ends_of, distance_of, log_of, mixed, mix_turn, calibrate}
use Rattle.spec_arithmetic.specs.Constants.{zero32}
use Rattle.spec_judgement.specs.Tail.{tail_loglik, target_tail_loglik, with_tail}
use Rattle.spec_judgement.specs.Deltas.{kept, offer, offer_end, offer_turn, end_deltas, deltas_of}
use Rattle.spec_judgement.specs.Inventory.{Inventory}
use Rattle.spec_judgement.specs.Judge.{tone_mixing, loglik_at, logliks, ranked, ranking_of, heard_of, weighed, part_mixing, target_mixing, llr_of, plain_of, distance_from, advice_of, nearest_at, with_best, judged_of, usable, not_measured, judgement_of}
use Rattle.spec_judgement.specs.Record.{nearest_bytes, score_bytes, one_bytes, delta_bytes, judgement_bytes}
use Rattle.spec_judgement.specs.Target as target
use Rattle.spec_judgement.specs.Target.{targets_of, target_of, place_of, variant_weights_good, main_weight, with_target}
use Rattle.spec_judgement.specs.Gather.{with_tone, put_in, slotted, listings, gathered}
use Rattle.spec_judgement.specs.Judgement.{tones_verdict, query_verdict, judge_gathered, judgement, judge_outcome, station_outcome}

-- the bits of 1, of a half and of a quarter
abbrev one : List ℕ
one = 0 ∷ 0 ∷ 0x80 ∷ 0x3f ∷ []

abbrev half : List ℕ
half = 0 ∷ 0 ∷ 0 ∷ 0x3f ∷ []

abbrev quarter : List ℕ
quarter = 0 ∷ 0 ∷ 0x80 ∷ 0x3e ∷ []

-- temperature 1 and threshold 0.25; tone 1 with the knot 3; accent 1 with tolerances 0.5
abbrev pub pack : List ℕ
pack =
    (1 ∷ one) ++ (quarter
    ++ ((2 ∷ 1 ∷ one) ++ ((1 ∷ 0 ∷ 0 ∷ 0x40 ∷ 0x40 ∷ []) ++ (replicate 45 0
    ++ ((3 ∷ 1 ∷ 0 ∷ half) ++ (half ++ (half ++ (half ++ (6 ∷ [])))))))))

-- accent 1, tone 1, span 0 to n, n frames, in this register
abbrev fixed : ℕ → List ℕ → List ℕ → List ℕ
fixed n floor ceil =
    (48 ∷ 1 ∷ 1 ∷ 0 ∷ 0 ∷ []) ++ ((0 ∷ 0 ∷ 0 ∷ 0 ∷ n ∷ 0 ∷ 0 ∷ 0 ∷ []) ++ (floor ++ (ceil ++ (replicate 23 0 ++ (n ∷ 0 ∷ [])))))

-- a voiced frame of 110 Hz, and two
abbrev frame : List ℕ
frame = (50 ∷ 1 ∷ 0 ∷ 0 ∷ 0xdc ∷ 0x42 ∷ []) ++ one

abbrev frames : List ℕ
frames = frame ++ frame

-- "Tone 1, accent 1 with a citation, eight voiced frames of 110 Hz, floor NaN: hexadecimal 31 01 01 00 24 74 C9, 54 zero bytes, 02 40 00"
abbrev pub unmeasured : List ℕ
unmeasured = fixed 8 (0 ∷ 0 ∷ 0xc0 ∷ 0x7f ∷ []) (0 ∷ 0 ∷ 0x40 ∷ 0x41 ∷ []) ++ (frames ++ (frames ++ (frames ++ frames)))

pub floor_nan : judge_outcome pack unmeasured
    ≡ written ((0x31 ∷ 0x01 ∷ 0x01 ∷ 0x00 ∷ 0x24 ∷ 0x74 ∷ 0xc9 ∷ []) ++ (replicate 54 0 ++ (0x02 ∷ 0x40 ∷ 0x00 ∷ [])))
unfolding in_register judge_outcome judgement judge_gathered query_verdict tones_verdict accent_in tone_in load_pack read_pack loop_to loop_on reader.record_verdict body_verdict settings_verdict tone_verdict tail_verdict accent_verdict rule_verdict part_verdict due_after size_of holds zero_or_held added parents_held chain_ends chains_end end_verdict above_zero probability_fine knot_fine weight_fine slot_fine knots_fine region_fine tail_fine tails_fine tolerances_fine range turns of_bits le lt load_query read_query record_verdict frame_verdict fields_of variant_fine variants_fine range_to turns_to frame_at extent_of gathered listings source_of_pack look_up find_rule climb_turn best_rule index_of components carried component_of knots_at first_points point_at slotted put_in with_tone main_weight targets_of target_of place_of with_target greater judgement_bytes nearest_bytes judgement_of usable shape_of not_measured list_of drawn holes_filled hz_to_st width_of st_to_chao log2_of half_width reach curve_at step_of mean_over rounded position whole_part round_up while while_if narrowed score_bytes one_bytes delta_bytes f32s_bytes round neg to_bits add sub mul div eq is_nan of_int lesser log_by parts_of centred series log_horner frames_at target.variants_good variant_weights_good
floor_nan = refl

-- three such frames in the register 0 to 24 lie on the citation: a log-likelihood of 3 ln 2, distance 0, the citation of accent 1, tone 1 heard, no
-- delta, and partial as three frames are too short
abbrev pub level : List ℕ
level = fixed 3 (replicate 4 0) (0 ∷ 0 ∷ 0xc0 ∷ 0x41 ∷ []) ++ (frames ++ frame)

pub on_citation : judge_outcome pack level
    ≡ written ((0x31 ∷ 0x01 ∷ 0x01 ∷ 0x92 ∷ 0x15 ∷ 0x05 ∷ 0x40 ∷ []) ++ (replicate 32 0 ++ ((1 ∷ 0 ∷ 0 ∷ 0 ∷ 0 ∷ 1 ∷ 1 ∷ 0 ∷ 0 ∷ 0 ∷ 1 ∷ []) ++ (replicate 11 0 ++ (0x01 ∷ 0x08 ∷ 0x00 ∷ [])))))
unfolding in_register judge_outcome judgement judge_gathered query_verdict tones_verdict accent_in tone_in load_pack read_pack loop_to loop_on reader.record_verdict body_verdict settings_verdict tone_verdict tail_verdict accent_verdict rule_verdict part_verdict due_after size_of holds zero_or_held added parents_held chain_ends chains_end end_verdict above_zero probability_fine knot_fine weight_fine slot_fine knots_fine region_fine tail_fine tails_fine tolerances_fine range turns of_bits le lt load_query read_query record_verdict frame_verdict fields_of variant_fine variants_fine range_to turns_to frame_at extent_of gathered listings source_of_pack look_up find_rule climb_turn best_rule index_of components carried component_of knots_at first_points point_at slotted put_in with_tone main_weight targets_of target_of place_of with_target greater judgement_bytes nearest_bytes judgement_of usable shape_of list_of drawn holes_filled hz_to_st width_of st_to_chao log2_of half_width reach curve_at step_of mean_over rounded position whole_part round_up while while_if narrowed score_bytes one_bytes delta_bytes f32s_bytes round neg to_bits add sub mul div eq is_nan of_int lesser united with_issue scoring_of widen_for clamp_log add_to value_of excused point_weight squares_of end_term ends_of distance_of log_of mixed mix_turn calibrate kept offer offer_end offer_turn end_deltas deltas_of root_of exp_of ln_of tone_mixing loglik_at logliks ranked ranking_of heard_of weighed part_mixing target_mixing tail_loglik target_tail_loglik with_tail llr_of plain_of distance_from advice_of nearest_at with_best judged_of float_with_sign log_by parts_of centred series log_horner root_units nearest_root isqrt exp_by rest exp_series exp_horner floor_of frames_at target.variants_good variant_weights_good
on_citation = refl

-- the same frames behind kind 55, whatever the record's floor and ceiling: in the register 10 to 14 they lie on the citation too, and with
-- ColdStartRegister among the issues tolerances are 1.5 times as wide: 3 ln (4 / 3)
abbrev pub cold : List ℕ
cold = fixed 3 (0 ∷ 0 ∷ 0xc0 ∷ 0x7f ∷ []) (0 ∷ 0 ∷ 0xc0 ∷ 0x7f ∷ []) ++ (55 ∷ (frames ++ frame))

pub on_citation_cold : judge_outcome pack cold
    ≡ written ((0x31 ∷ 0x01 ∷ 0x01 ∷ 0x99 ∷ 0xf0 ∷ 0x5c ∷ 0x3f ∷ []) ++ (replicate 32 0 ++ ((1 ∷ 0 ∷ 0 ∷ 0 ∷ 0 ∷ 1 ∷ 1 ∷ 0 ∷ 0 ∷ 0 ∷ 1 ∷ []) ++ (replicate 11 0 ++ (0x01 ∷ 0x18 ∷ 0x00 ∷ [])))))
unfolding in_register voiced_st cold_register p5_p50_p95 percentile ascending insert is_sign_negative at_least_min_span judge_outcome judgement judge_gathered query_verdict tones_verdict accent_in tone_in load_pack read_pack loop_to loop_on reader.record_verdict body_verdict settings_verdict tone_verdict tail_verdict accent_verdict rule_verdict part_verdict due_after size_of holds zero_or_held added parents_held chain_ends chains_end end_verdict above_zero probability_fine knot_fine weight_fine slot_fine knots_fine region_fine tail_fine tails_fine tolerances_fine range turns of_bits le lt load_query read_query record_verdict frame_verdict fields_of variant_fine variants_fine range_to turns_to frame_at extent_of gathered listings source_of_pack look_up find_rule climb_turn best_rule index_of components carried component_of knots_at first_points point_at slotted put_in with_tone main_weight targets_of target_of place_of with_target greater judgement_bytes nearest_bytes judgement_of usable shape_of list_of drawn holes_filled hz_to_st width_of st_to_chao log2_of half_width reach curve_at step_of mean_over rounded position whole_part round_up while while_if narrowed score_bytes one_bytes delta_bytes f32s_bytes round neg to_bits add sub mul div eq is_nan of_int lesser united with_issue scoring_of widen_for clamp_log add_to value_of excused point_weight squares_of end_term ends_of distance_of log_of mixed mix_turn calibrate kept offer offer_end offer_turn end_deltas deltas_of root_of exp_of ln_of tone_mixing loglik_at logliks ranked ranking_of heard_of weighed part_mixing target_mixing tail_loglik target_tail_loglik with_tail llr_of plain_of distance_from advice_of nearest_at with_best judged_of float_with_sign log_by parts_of centred series log_horner root_units nearest_root isqrt exp_by rest exp_series exp_horner floor_of frames_at target.variants_good variant_weights_good
on_citation_cold = refl

-- "Pack or sheet comes before query": a pack that is cut short at 0, and a query whose first kind is misplaced there
pub pack_first : judge_outcome [] (1 ∷ []) ≡ refused CutShort 0
unfolding judge_outcome load_pack read_pack loop_to loop_on reader.record_verdict
pack_first = refl

-- the place is the pack's own: settings, and a kind that is none
pub place_in_pack : judge_outcome ((1 ∷ one) ++ (quarter ++ (9 ∷ []))) [] ≡ refused Misplaced 9
unfolding judge_outcome load_pack read_pack loop_to loop_on reader.record_verdict body_verdict settings_verdict due_after size_of holds above_zero probability_fine added of_bits le lt
place_in_pack = refl

-- the program's input is the pack's length, the pack, the query: a pack of one byte, and no query
pub one_byte_held : station_outcome (1 ∷ 0 ∷ 9 ∷ []) ≡ refused Misplaced 0
unfolding judge_outcome load_pack read_pack loop_to loop_on reader.record_verdict due_after
one_byte_held = refl

-- "11 · unvoiced · under 3 voiced frames", from a pack's and a query's bytes: two frames
pub two_voiced : judge_outcome pack (fixed 2 (replicate 4 0) (0 ∷ 0 ∷ 0xc0 ∷ 0x41 ∷ []) ++ frames) ≡ refused Unvoiced 0
unfolding in_register judge_outcome judgement judge_gathered query_verdict load_pack read_pack loop_to loop_on reader.record_verdict body_verdict settings_verdict tone_verdict tail_verdict accent_verdict rule_verdict part_verdict due_after size_of holds zero_or_held added parents_held chain_ends chains_end end_verdict index_of above_zero probability_fine knot_fine weight_fine slot_fine knots_fine region_fine tail_fine tails_fine tolerances_fine range turns of_bits le lt load_query read_query record_verdict frame_verdict fields_of variant_fine variants_fine range_to turns_to frame_at extent_of
two_voiced = refl

-- "12" before "13 for prev", with three voiced frames; with two "11" before both
abbrev nothing : Inventory
nothing = record { items = [] }

abbrev asked : Query
asked = record { accent = 0; tone = 0; prev = 0; last = false; start = 0; end = 0; floor = of_bits binary32 0; ceil = of_bits binary32 0; issues = 0; variants = 0; count = 3; cold = false }

pub accent_first : query_verdict 3 None false nothing [] asked ≡ Err UnknownAccent
unfolding query_verdict
accent_first = refl

pub unvoiced_first : query_verdict 2 None false nothing [] asked ≡ Err Unvoiced
unfolding query_verdict
unvoiced_first = refl

-- "14" before "15": of one tone with so many components or with no listing, and a query with one variant of weight -1
abbrev counted : ℕ → Option ToneListing
counted count = Some (record { name = record { owner = 0; form = 0; label = 0 }; count = count })

abbrev listed : Option ToneListing → Inventory
listed l = record { items = record { number = 1; prior = of_bits binary32 0; region = None; tail = zero32; listing = l } ∷ [] }

-- of an accent that is held
abbrev strict : Tolerance
strict = record { contour = of_bits binary32 0; onset = of_bits binary32 0; offset = of_bits binary32 0; turning = of_bits binary32 0 }

abbrev varied : Query
varied = record { accent = 1; tone = 1; prev = 0; last = false; start = 0; end = 3; floor = of_bits binary32 0; ceil = of_bits binary32 0; issues = 0; variants = 1; count = 3; cold = false }

abbrev below : List ℕ
below = (48 ∷ 1 ∷ 1 ∷ 0 ∷ 0 ∷ []) ++ (replicate 18 0 ++ ((1 ∷ 1 ∷ 0 ∷ 0 ∷ 0x80 ∷ 0xbf ∷ []) ++ (replicate 15 0 ++ (3 ∷ 0 ∷ []))))

pub tones_first : query_verdict 3 (Some strict) true (listed (counted 0)) below varied ≡ Err NoRealisation
unfolding query_verdict tones_verdict
tones_first = refl

pub unlisted_first : query_verdict 3 (Some strict) true (listed None) below varied ≡ Err NoRealisation
unfolding query_verdict tones_verdict
unlisted_first = refl

-- once the tone has a component the variant is refused
pub variant_next : query_verdict 3 (Some strict) true (listed (counted 1)) below varied ≡ Err BadVariant
unfolding query_verdict tones_verdict target.variants_good variant_weights_good target.variant_weight_good main_weight range turns le lt of_bits neg add sub round
variant_next = refl

-- whichever tone is asked for: one that is not the inventory's first
pub variant_of_another : query_verdict 3 (Some strict) true (listed (counted 1)) below (record varied { tone = 2 }) ≡ Err BadVariant
unfolding query_verdict tones_verdict target.variants_good variant_weights_good target.variant_weight_good main_weight range turns le lt of_bits neg add sub round
variant_of_another = refl
