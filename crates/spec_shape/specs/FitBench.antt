-- Worked examples, computed: document 01's bench cases for semitones and registers, and the pivots of the fit.
use Rattle.std.specs.Prelude.{ℕ, ◌≡◌, refl, List, [], ◌∷◌, ◌++◌, replicate, pos, negsuc, Float}
use Rattle.std.specs.Float.{binary64, float_with_sign}
use Rattle.std.specs.Float.Ieee.{add, sub, mul, div, neg, lt, le, of_bits, of_int, round, is_nan}
use Rattle.tonekit_core.specs.Loop.{range, turns, range_to, turns_to}
use Rattle.spec_arithmetic.specs.Magnitude.{total_le}
use Rattle.spec_arithmetic.specs.Log.{log2_of, log_by, parts_of, centred, series, log_horner}
use Rattle.spec_shape.specs.Chao.{hz_to_st, width_of, st_to_chao}
use Rattle.spec_query.specs.Frames.{frame_at}
use Rattle.spec_shape.specs.Fit.{Part, seconds, line_slope, power, point_added, moments_of, normal_equations, pivot_of, first_unknown, lead_of, quadratic_coefficient}

abbrev num : ℕ → Float
num n = of_int binary64 (pos n)

-- "55 Hz is 0 semitones, 110 is 12, 27.5 is −12"
pub at_55 : hz_to_st (num 55) ≡ num 0
unfolding hz_to_st log2_of add sub mul div lt of_bits of_int round log_by parts_of centred series log_horner
at_55 = refl

pub at_110 : hz_to_st (num 110) ≡ num 12
unfolding hz_to_st log2_of add sub mul div lt of_bits of_int round log_by parts_of centred series log_horner
at_110 = refl

pub at_27_5 : hz_to_st (of_bits binary64 0x403b_8000_0000_0000) ≡ of_int binary64 (negsuc 11)
unfolding hz_to_st log2_of add sub mul div lt of_bits of_int round log_by parts_of centred series log_horner
at_27_5 = refl

-- "Register 0 to 12: 6 gives 3; 5 to 5: 7 gives 3"
pub register_0_12 : st_to_chao (num 0) (width_of (num 0) (num 12)) (num 6) ≡ num 3
unfolding st_to_chao width_of add sub mul div lt of_bits of_int round
register_0_12 = refl

pub register_5_5 : st_to_chao (num 5) (width_of (num 5) (num 5)) (num 7) ≡ num 3
unfolding st_to_chao width_of add sub mul div lt of_bits of_int round
register_5_5 = refl

-- the pivot of -3, 2, -3 is the last: the greatest in size, and the later of equals; a row above, whose column is done, is none
pivot_last : pivot_of ((neg (num 3) ∷ []) ∷ (num 2 ∷ []) ∷ (neg (num 3) ∷ []) ∷ []) 0 ≡ 2
unfolding range turns total_le float_with_sign is_nan lt le neg of_int round
pivot_last = refl

pivot_below : pivot_of ((num 9 ∷ num 9 ∷ []) ∷ (num 0 ∷ num 1 ∷ []) ∷ (num 0 ∷ num 0 ∷ []) ∷ []) 1 ≡ 1
unfolding range turns total_le float_with_sign is_nan lt le neg of_int round
pivot_below = refl

-- "a 3 by 4 grid of numbers whose rows change places": b = 2, a = 3, c = 4
rows_change : lead_of ((num 0 ∷ num 1 ∷ num 0 ∷ num 2 ∷ []) ∷ (num 1 ∷ num 0 ∷ num 0 ∷ num 3 ∷ []) ∷ (num 0 ∷ num 0 ∷ num 1 ∷ num 4 ∷ []) ∷ []) ≡ num 3
unfolding lead_of first_unknown range turns range_to turns_to total_le float_with_sign is_nan add sub mul div lt le of_bits of_int round
rows_change = refl

-- 35 · 0.01 is a unit above 0.35
frame_35 : seconds 35 ≡ of_bits binary64 0x3fd6_6666_6666_6667
unfolding mul of_bits of_int
frame_35 = refl

-- the fits are over voiced frames alone: 1 to 3 of these four, from the second of the query's five on
tone : List ℕ
tone = 0 ∷ 1 ∷ 0 ∷ 0 ∷ 220 ∷ 66 ∷ 0 ∷ 0 ∷ 128 ∷ 63 ∷ []

rest : List ℕ
rest = replicate 10 0

hole : Part
hole = record { frames = rest ++ (tone ++ (tone ++ (rest ++ tone))); first = 1; chao = num 0 ∷ num 1 ∷ num 9 ∷ num 0 ∷ [] }

slope_voiced : line_slope hole 3 ≡ of_bits binary64 0xc01c_9249_2492_4924
unfolding hole tone rest line_slope range turns frame_at add sub mul div lt of_bits of_int round
slope_voiced = refl

curvature_voiced : quadratic_coefficient hole 3 ≡ of_bits binary64 0xc012_0000_0000_0000
unfolding hole tone rest quadratic_coefficient moments_of power point_added normal_equations lead_of first_unknown range turns range_to turns_to frame_at total_le float_with_sign is_nan add sub mul div lt le of_bits of_int round
curvature_voiced = refl
