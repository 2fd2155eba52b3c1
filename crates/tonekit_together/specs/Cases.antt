-- Document 01's bench cases that are "proved together", each through a whole call, from the bytes of a pack and of a query to the record or the refusal.
use Rattle.std.specs.Float.{float_with_sign}
use Rattle.std.specs.Prelude.{ℕ, ◌≡◌, refl, List, [], ◌∷◌, ◌++◌, replicate}
use Rattle.std.specs.Float.Ieee.{add, sub, mul, div, lt, le, eq, neg, of_bits, to_bits, of_int, round, is_nan}
use Rattle.tonekit_core.specs.Calls.{refused, written}
use Rattle.tonekit_core.specs.declared.Refusal.TheVariants.{BadVariant}
use Rattle.tonekit_core.specs.Loop.{turns, range, turns_to, range_to, loop_on, loop_to, while, while_if}
use Rattle.spec_arithmetic.specs.Narrow.{narrowed}
use Rattle.spec_arithmetic.specs.Whole.{whole_part, round_up}
use Rattle.spec_arithmetic.specs.Pick.{lesser, greater}
use Rattle.spec_arithmetic.specs.Log.{ln_of, log2_of, log_by, parts_of, centred, series, log_horner}
use Rattle.spec_arithmetic.specs.Fields.{f32s_bytes}
use Rattle.spec_arithmetic.specs.Position.{position}
use Rattle.spec_query.specs.Frames.{frame_at}
use Rattle.spec_query.specs.Query.{variant_fine, variants_fine, record_verdict, frame_verdict, fields_of, read_query, load_query}
use Rattle.spec_pack.specs.Ranges.{above_zero, probability_fine, knot_fine, weight_fine, slot_fine, knots_fine, region_fine, tolerances_fine}
use Rattle.spec_pack.specs.Pack.{due_after, size_of, holds, zero_or_held, settings_verdict, tone_verdict, accent_verdict, rule_verdict, part_verdict, body_verdict, added, parents_held, chain_ends, chains_end, end_verdict, read_pack, load_pack}
use Rattle.spec_pack.specs.Pack as reader
use Rattle.spec_shape.specs.Chao.{hz_to_st, width_of, st_to_chao}
use Rattle.spec_shape.specs.Window.{half_width, reach, curve_at, step_of, mean_over, rounded, frames_at}
use Rattle.spec_shape.specs.Extract.{extent_of, holes_filled, drawn, list_of, shape_of}
use Rattle.spec_shape.specs.Register.{in_register}
use Rattle.spec_shape.specs.Record.{united}
use Rattle.spec_lookup.specs.Knots.{point_at, first_points, knots_at}
use Rattle.spec_arithmetic.specs.Places.{index_of}
use Rattle.spec_lookup.specs.Lookup.{best_rule, climb_turn, find_rule, look_up, component_of}
use Rattle.spec_lookup.specs.Source.{carried, components, source_of_pack, accent_in, tone_in}
use Rattle.tonekit_core.specs.Words.{with_issue}
use Rattle.spec_arithmetic.specs.Root.{root_of, root_units, nearest_root, isqrt}
use Rattle.spec_arithmetic.specs.Exp.{exp_of, exp_by, rest, exp_series, exp_horner, floor_of}
use Rattle.spec_judgement.specs.Score.{widen_for, scoring_of, clamp_log, add_to, value_of, excused, point_weight, squares_of, end_term, ends_of, distance_of, log_of, mixed, mix_turn, calibrate}
use Rattle.spec_judgement.specs.Deltas.{kept, offer, offer_end, offer_turn, end_deltas, deltas_of}
use Rattle.spec_judgement.specs.Tail.{tail_loglik, target_tail_loglik, with_tail}
use Rattle.spec_judgement.specs.Judge.{tone_mixing, loglik_at, logliks, ranked, ranking_of, heard_of, weighed, part_mixing, target_mixing, llr_of, plain_of, distance_from, advice_of, nearest_at, with_best, judged_of, usable, judgement_of}
use Rattle.spec_judgement.specs.Record.{nearest_bytes, score_bytes, one_bytes, delta_bytes, judgement_bytes}
use Rattle.spec_judgement.specs.Target as target
use Rattle.spec_judgement.specs.Target.{targets_of, target_of, place_of, variant_weights_good, main_weight, with_target}
use Rattle.spec_judgement.specs.Gather.{with_tone, put_in, slotted, listings, gathered}
use Rattle.spec_judgement.specs.Judgement.{tones_verdict, query_verdict, judge_gathered, judgement, judge_outcome}

-- ---- bytes
-- the bits of 1, a half, a quarter, 3 and 4
abbrev one : List ℕ
one = 0 ∷ 0 ∷ 0x80 ∷ 0x3f ∷ []

abbrev half : List ℕ
half = 0 ∷ 0 ∷ 0 ∷ 0x3f ∷ []

abbrev quarter : List ℕ
quarter = 0 ∷ 0 ∷ 0x80 ∷ 0x3e ∷ []

abbrev three : List ℕ
three = 0 ∷ 0 ∷ 0x40 ∷ 0x40 ∷ []

abbrev four : List ℕ
four = 0 ∷ 0 ∷ 0x80 ∷ 0x40 ∷ []

abbrev nought : List ℕ
nought = replicate 4 0

-- temperature 1 and threshold 0.25
abbrev settings : List ℕ
settings = (1 ∷ one) ++ quarter

-- a tone of one knot, without a region
abbrev tone : ℕ → List ℕ → List ℕ → List ℕ
tone number prior knot = (2 ∷ number ∷ prior) ++ ((1 ∷ knot) ++ replicate 45 0)

-- accent 1 with tolerances of a half, but for the offset's
abbrev accent : List ℕ → List ℕ
accent offset = (3 ∷ 1 ∷ 0 ∷ half) ++ (half ++ (offset ++ half))

-- a query of three frames under accent 1: the tone asked for, the register, and its variants
abbrev query : ℕ → List ℕ → List ℕ → List ℕ → List ℕ
query number floor ceil variants =
    (48 ∷ 1 ∷ number ∷ 0 ∷ 0 ∷ []) ++ (nought ++ ((3 ∷ 0 ∷ 0 ∷ 0 ∷ []) ++ (floor ++ (ceil ++ ((0 ∷ 0 ∷ []) ++ (variants ++ (3 ∷ 0 ∷ [])))))))

abbrev none : List ℕ
none = replicate 21 0

-- a voiced frame of 110 Hz
abbrev frame : List ℕ
frame = (50 ∷ 1 ∷ 0 ∷ 0 ∷ 0xdc ∷ 0x42 ∷ []) ++ one

abbrev frames : List ℕ
frames = frame ++ (frame ++ frame)

-- a score of nothing but zeros, from a record's unused log-likelihoods on
abbrev zeros : ℕ → List ℕ
zeros n = replicate n 0

-- ---- "Variants 0.5 and 0.5+2^−20 pass; 0.5 and 0.5+2^−19 give 15."
abbrev two_tones : List ℕ
two_tones = settings ++ (tone 1 one three ++ (tone 2 one four ++ (accent half ++ (6 ∷ []))))

-- tone 1 at a half, tone 2 at a half and so many times 2^−24, in the register 0 to 24
abbrev weighing : ℕ → List ℕ
weighing n = query 1 nought (0 ∷ 0 ∷ 0xc0 ∷ 0x41 ∷ []) ((2 ∷ 1 ∷ half) ++ ((2 ∷ n ∷ 0 ∷ 0 ∷ 0x3f ∷ []) ++ zeros 10)) ++ frames

pub slack_passes : judge_outcome two_tones (weighing 16)
    ≡ written ((0x31 ∷ 1 ∷ 2 ∷ 0x92 ∷ 0x15 ∷ 0x05 ∷ 0x40 ∷ 0x3f ∷ 0xb2 ∷ 0xa2 ∷ 0x3d ∷ []) ++ (zeros 24
    ++ ((0x15 ∷ 0x72 ∷ 0x31 ∷ 0xbf ∷ 1 ∷ 0 ∷ 0 ∷ 0 ∷ 0 ∷ 1 ∷ 1 ∷ 0 ∷ 0 ∷ 0 ∷ 1 ∷ []) ++ (zeros 11 ++ (1 ∷ 8 ∷ 0 ∷ [])))))
unfolding in_register judge_outcome judgement judge_gathered query_verdict tones_verdict accent_in tone_in load_pack read_pack loop_to loop_on reader.record_verdict body_verdict settings_verdict tone_verdict accent_verdict rule_verdict part_verdict due_after size_of holds zero_or_held added parents_held chain_ends chains_end end_verdict above_zero probability_fine knot_fine weight_fine slot_fine knots_fine region_fine tolerances_fine range turns of_bits le lt load_query read_query record_verdict frame_verdict fields_of variant_fine variants_fine range_to turns_to frame_at extent_of gathered listings source_of_pack look_up find_rule climb_turn best_rule index_of components carried component_of knots_at first_points point_at slotted put_in with_tone main_weight targets_of target_of place_of with_target greater judgement_bytes nearest_bytes judgement_of usable shape_of list_of drawn holes_filled hz_to_st width_of st_to_chao log2_of half_width reach curve_at step_of mean_over rounded position whole_part round_up while while_if narrowed score_bytes one_bytes delta_bytes f32s_bytes round neg to_bits add sub mul div eq is_nan of_int lesser united with_issue scoring_of widen_for clamp_log add_to value_of excused point_weight squares_of end_term ends_of distance_of log_of mixed mix_turn calibrate kept offer offer_end offer_turn end_deltas deltas_of root_of exp_of ln_of tone_mixing loglik_at logliks tail_loglik target_tail_loglik with_tail ranked ranking_of heard_of weighed part_mixing target_mixing llr_of plain_of distance_from advice_of nearest_at with_best judged_of float_with_sign log_by parts_of centred series log_horner root_units nearest_root isqrt exp_by rest exp_series exp_horner floor_of frames_at target.variants_good variant_weights_good target.variant_weight_good
slack_passes = refl

pub slack_past : judge_outcome two_tones (weighing 32) ≡ refused BadVariant 0
unfolding in_register judge_outcome judgement judge_gathered query_verdict tones_verdict accent_in tone_in load_pack read_pack loop_to loop_on reader.record_verdict body_verdict settings_verdict tone_verdict accent_verdict rule_verdict part_verdict due_after size_of holds zero_or_held added parents_held chain_ends chains_end end_verdict above_zero probability_fine knot_fine weight_fine slot_fine knots_fine region_fine tolerances_fine range turns of_bits le lt load_query read_query record_verdict frame_verdict fields_of variant_fine variants_fine range_to turns_to frame_at extent_of gathered listings source_of_pack look_up find_rule climb_turn best_rule index_of components carried component_of knots_at first_points point_at slotted put_in with_tone main_weight targets_of target_of place_of with_target greater judgement_bytes nearest_bytes judgement_of usable shape_of list_of drawn holes_filled hz_to_st width_of st_to_chao log2_of half_width reach curve_at step_of mean_over rounded position whole_part round_up while while_if narrowed score_bytes one_bytes delta_bytes f32s_bytes round neg to_bits add sub mul div eq is_nan of_int lesser united with_issue scoring_of widen_for clamp_log add_to value_of excused point_weight squares_of end_term ends_of distance_of log_of mixed mix_turn calibrate kept offer offer_end offer_turn end_deltas deltas_of root_of exp_of ln_of tone_mixing loglik_at logliks tail_loglik target_tail_loglik with_tail ranked ranking_of heard_of weighed part_mixing target_mixing llr_of plain_of distance_from advice_of nearest_at with_best judged_of float_with_sign log_by parts_of centred series log_horner root_units nearest_root isqrt exp_by rest exp_series exp_horner floor_of frames_at target.variants_good variant_weights_good target.variant_weight_good
slack_past = refl

-- ---- "Onset tolerance 0.5, unwidened: 0.5 high gives no delta, 0.75 StartLower."
abbrev one_tone : List ℕ
one_tone = settings ++ (tone 1 one three ++ (accent four ++ (6 ∷ [])))

-- 110 Hz is Chao 3.5 in the register 2 to 18, against the citation's 3
pub half_high : judge_outcome one_tone (query 1 (0 ∷ 0 ∷ 0 ∷ 0x40 ∷ []) (0 ∷ 0 ∷ 0x90 ∷ 0x41 ∷ []) none ++ frames)
    ≡ written ((0x31 ∷ 1 ∷ 1 ∷ 0x00 ∷ 0x00 ∷ 0x82 ∷ 0xbe ∷ []) ++ (zeros 32
    ++ ((1 ∷ 0x96 ∷ 0x6d ∷ 0x36 ∷ 0x3f ∷ 1 ∷ 1 ∷ 0 ∷ 0 ∷ 0 ∷ 1 ∷ []) ++ (zeros 11 ++ (1 ∷ 8 ∷ 0 ∷ [])))))
unfolding in_register judge_outcome judgement judge_gathered query_verdict tones_verdict accent_in tone_in load_pack read_pack loop_to loop_on reader.record_verdict body_verdict settings_verdict tone_verdict accent_verdict rule_verdict part_verdict due_after size_of holds zero_or_held added parents_held chain_ends chains_end end_verdict above_zero probability_fine knot_fine weight_fine slot_fine knots_fine region_fine tolerances_fine range turns of_bits le lt load_query read_query record_verdict frame_verdict fields_of variant_fine variants_fine range_to turns_to frame_at extent_of gathered listings source_of_pack look_up find_rule climb_turn best_rule index_of components carried component_of knots_at first_points point_at slotted put_in with_tone main_weight targets_of target_of place_of with_target greater judgement_bytes nearest_bytes judgement_of usable shape_of list_of drawn holes_filled hz_to_st width_of st_to_chao log2_of half_width reach curve_at step_of mean_over rounded position whole_part round_up while while_if narrowed score_bytes one_bytes delta_bytes f32s_bytes round neg to_bits add sub mul div eq is_nan of_int lesser united with_issue scoring_of widen_for clamp_log add_to value_of excused point_weight squares_of end_term ends_of distance_of log_of mixed mix_turn calibrate kept offer offer_end offer_turn end_deltas deltas_of root_of exp_of ln_of tone_mixing loglik_at logliks tail_loglik target_tail_loglik with_tail ranked ranking_of heard_of weighed part_mixing target_mixing llr_of plain_of distance_from advice_of nearest_at with_best judged_of float_with_sign log_by parts_of centred series log_horner root_units nearest_root isqrt exp_by rest exp_series exp_horner floor_of frames_at target.variants_good variant_weights_good target.variant_weight_good
half_high = refl

-- and 3.75 in the register 1 to 17: one delta, of kind 2, of 0.75
pub three_quarters_high : judge_outcome one_tone (query 1 one (0 ∷ 0 ∷ 0x88 ∷ 0x41 ∷ []) none ++ frames)
    ≡ written ((0x31 ∷ 1 ∷ 1 ∷ 0x00 ∷ 0x40 ∷ 0x12 ∷ 0xbf ∷ []) ++ (zeros 32
    ++ ((1 ∷ 0x30 ∷ 0xd2 ∷ 0x88 ∷ 0x3f ∷ 1 ∷ 1 ∷ 0 ∷ 0 ∷ 0 ∷ 1 ∷ []) ++ ((1 ∷ 2 ∷ 0 ∷ 0 ∷ 0x40 ∷ 0x3f ∷ []) ++ (zeros 5 ++ (1 ∷ 8 ∷ 0 ∷ []))))))
unfolding in_register judge_outcome judgement judge_gathered query_verdict tones_verdict accent_in tone_in load_pack read_pack loop_to loop_on reader.record_verdict body_verdict settings_verdict tone_verdict accent_verdict rule_verdict part_verdict due_after size_of holds zero_or_held added parents_held chain_ends chains_end end_verdict above_zero probability_fine knot_fine weight_fine slot_fine knots_fine region_fine tolerances_fine range turns of_bits le lt load_query read_query record_verdict frame_verdict fields_of variant_fine variants_fine range_to turns_to frame_at extent_of gathered listings source_of_pack look_up find_rule climb_turn best_rule index_of components carried component_of knots_at first_points point_at slotted put_in with_tone main_weight targets_of target_of place_of with_target greater judgement_bytes nearest_bytes judgement_of usable shape_of list_of drawn holes_filled hz_to_st width_of st_to_chao log2_of half_width reach curve_at step_of mean_over rounded position whole_part round_up while while_if narrowed score_bytes one_bytes delta_bytes f32s_bytes round neg to_bits add sub mul div eq is_nan of_int lesser united with_issue scoring_of widen_for clamp_log add_to value_of excused point_weight squares_of end_term ends_of distance_of log_of mixed mix_turn calibrate kept offer offer_end offer_turn end_deltas deltas_of root_of exp_of ln_of tone_mixing loglik_at logliks tail_loglik target_tail_loglik with_tail ranked ranking_of heard_of weighed part_mixing target_mixing llr_of plain_of distance_from advice_of nearest_at with_best judged_of float_with_sign log_by parts_of centred series log_horner root_units nearest_root isqrt exp_by rest exp_series exp_horner floor_of frames_at target.variants_good variant_weights_good target.variant_weight_good
three_quarters_high = refl

-- ---- "Two tones of equal score, threshold 0.25: the first is heard."
abbrev alike : List ℕ
alike = settings ++ (tone 1 half three ++ (tone 2 half three ++ (accent half ++ (6 ∷ []))))

-- also where the second is asked for
pub first_heard : judge_outcome alike (query 2 nought (0 ∷ 0 ∷ 0xc0 ∷ 0x41 ∷ []) none ++ frames)
    ≡ written ((0x31 ∷ 2 ∷ 2 ∷ 0x92 ∷ 0x15 ∷ 0x05 ∷ 0x40 ∷ 0x92 ∷ 0x15 ∷ 0x05 ∷ 0x40 ∷ []) ++ (zeros 28
    ++ ((1 ∷ 0 ∷ 0 ∷ 0 ∷ 0 ∷ 1 ∷ 1 ∷ 0 ∷ 0 ∷ 0 ∷ 1 ∷ []) ++ (zeros 11 ++ (1 ∷ 8 ∷ 0 ∷ [])))))
unfolding in_register judge_outcome judgement judge_gathered query_verdict tones_verdict accent_in tone_in load_pack read_pack loop_to loop_on reader.record_verdict body_verdict settings_verdict tone_verdict accent_verdict rule_verdict part_verdict due_after size_of holds zero_or_held added parents_held chain_ends chains_end end_verdict above_zero probability_fine knot_fine weight_fine slot_fine knots_fine region_fine tolerances_fine range turns of_bits le lt load_query read_query record_verdict frame_verdict fields_of variant_fine variants_fine range_to turns_to frame_at extent_of gathered listings source_of_pack look_up find_rule climb_turn best_rule index_of components carried component_of knots_at first_points point_at slotted put_in with_tone main_weight targets_of target_of place_of with_target greater judgement_bytes nearest_bytes judgement_of usable shape_of list_of drawn holes_filled hz_to_st width_of st_to_chao log2_of half_width reach curve_at step_of mean_over rounded position whole_part round_up while while_if narrowed score_bytes one_bytes delta_bytes f32s_bytes round neg to_bits add sub mul div eq is_nan of_int lesser united with_issue scoring_of widen_for clamp_log add_to value_of excused point_weight squares_of end_term ends_of distance_of log_of mixed mix_turn calibrate kept offer offer_end offer_turn end_deltas deltas_of root_of exp_of ln_of tone_mixing loglik_at logliks tail_loglik target_tail_loglik with_tail ranked ranking_of heard_of weighed part_mixing target_mixing llr_of plain_of distance_from advice_of nearest_at with_best judged_of float_with_sign log_by parts_of centred series log_horner root_units nearest_root isqrt exp_by rest exp_series exp_horner floor_of frames_at target.variants_good variant_weights_good target.variant_weight_good
first_heard = refl
