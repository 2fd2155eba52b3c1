-- Shapes of a few frames, and what the call answers, each by computing.
use Rattle.std.specs.Prelude.{ℕ, ◌-◌, ◌≡◌, refl, true, false, List, [], ◌∷◌, ◌++◌, map, pos, negsuc, length, get_or, replicate, Float, Some, None}
use Rattle.std.specs.Float.{nan, inf, fin, binary32, binary64, float_with_sign, is_sign_negative}
use Rattle.std.specs.Float.Ieee.{add, sub, mul, div, lt, le, eq, neg, of_bits, to_bits, of_int, round, is_nan}
use Rattle.spec_shape.specs.Range.{range_in}
use Rattle.tonekit_core.specs.Calls.{refused, written}
use Rattle.tonekit_core.specs.Loop.{range, range_to, while}
use Rattle.tonekit_core.specs.Words.{with_issue}
use Rattle.tonekit_core.specs.declared.Refusal.TheVariants.{CutShort, Unvoiced}
use Rattle.spec_arithmetic.specs.Magnitude.{total_le}
use Rattle.spec_arithmetic.specs.Narrow.{narrowed}
use Rattle.spec_arithmetic.specs.Pick.{lesser, greater}
use Rattle.spec_arithmetic.specs.Whole.{whole_part, round_up}
use Rattle.spec_arithmetic.specs.Position.{position}
use Rattle.spec_shape.specs.Turning.{greatest, first_near, last_near, extremum, stands, chosen, turning_point}
use Rattle.spec_arithmetic.specs.Log.{log2_of, log_by, parts_of, centred, series, log_horner}
use Rattle.spec_query.specs.Frames.{frame_at}
use Rattle.spec_query.specs.Query.{variant_fine, variants_fine, record_verdict, frame_verdict, fields_of, read_query, load_query}
use Rattle.spec_shape.specs.Chao.{hz_to_st, width_of, st_to_chao}
use Rattle.spec_shape.specs.Fit.{line_slope, power, point_added, moments_of, normal_equations, first_unknown, lead_of, quadratic_coefficient}
use Rattle.spec_shape.specs.Window.{half_width, reach, curve_at, step_of, mean_over, rounded, frames_at}
use Rattle.spec_shape.specs.Extract.{extent_of, holes_filled, drawn, mean_with, list_of, mean_of, confidence, shape_of}
use Rattle.spec_arithmetic.specs.Fields.{byte_at, u16_at, u32_at, f32s_bytes}
use Rattle.tonekit_core.specs.declared.layout.TheConstants.{SHAPE_SIZE, SHAPE_START, SHAPE_END, SHAPE_CONTOUR, SHAPE_WEIGHTS, SHAPE_MEAN, SHAPE_SLOPE, SHAPE_CURVATURE}
use Rattle.tonekit_core.specs.declared.layout.TheConstants.{SHAPE_TURNS, SHAPE_TURNING, SHAPE_RANGE, SHAPE_DURATION, SHAPE_FRACTION, SHAPE_CONFIDENCE, SHAPE_ISSUES}
use Rattle.spec_shape.specs.declared.ToneShape.{ToneShape}
use Rattle.spec_shape.specs.Register.{voiced_st, insert, ascending, percentile, p5_p50_p95, at_least_min_span, cold_register, in_register}
use Rattle.spec_shape.specs.Record.{united, fit_bytes, measure_bytes, shape_bytes, shape_outcome}

abbrev num : ℕ → Float
num n = fin false n (pos 0)

-- a frame of 110 Hz with voiced_p 1, and one that is unvoiced
abbrev tone : List ℕ
tone = 50 ∷ 1 ∷ 0 ∷ 0 ∷ 220 ∷ 66 ∷ 0 ∷ 0 ∷ 128 ∷ 63 ∷ []

abbrev rest : List ℕ
rest = 50 ∷ 0 ∷ 0 ∷ 0 ∷ 220 ∷ 66 ∷ 0 ∷ 0 ∷ 128 ∷ 63 ∷ []

-- a frame of 55 Hz
abbrev low : List ℕ
low = 50 ∷ 1 ∷ 0 ∷ 0 ∷ 92 ∷ 66 ∷ 0 ∷ 0 ∷ 128 ∷ 63 ∷ []

-- the span 1 to 9 of five frames, of which the first and the last are unvoiced
extent_clamped : extent_of (rest ++ (tone ++ (rest ++ (tone ++ rest)))) 5 1 9 ≡ record { count = 2; first = 1; last = 3 }
unfolding extent_of range frame_at of_bits lt
extent_clamped = refl

-- the hole of a voiced, an unvoiced and a voiced frame
hole_filled : holes_filled (tone ++ (rest ++ tone)) 0 (num 1 ∷ num 0 ∷ num 2 ∷ []) ≡ num 1 ∷ fin false 3 (negsuc 0) ∷ num 2 ∷ []
unfolding holes_filled range frame_at add sub mul div of_int of_bits lt
hole_filled = refl

-- a hole of two frames is filled in semitones, before the register 0 to 12 makes Chao values of them: 12, 8, 4, 0; the part begins at frame 1
drawn_line : drawn (rest ++ (tone ++ (rest ++ (rest ++ low)))) 1 4 (num 0) (fin false 3 (pos 2))
    ≡ num 5 ∷ of_bits binary64 0x400d_5555_5555_5555 ∷ of_bits binary64 0x4002_aaaa_aaaa_aaaa ∷ num 1 ∷ []
unfolding drawn list_of holes_filled hz_to_st width_of st_to_chao log2_of range frame_at add sub mul div lt of_int of_bits round log_by parts_of centred series log_horner
drawn_line = refl

smoothed_curve : let l = num 1 ∷ num 2 ∷ num 6 ∷ [] in list_of (λ j. mean_with l j (get_or l (j - 1) nan)) 3 ≡ fin false 3 (negsuc 0) ∷ num 3 ∷ fin false 1 (pos 2) ∷ []
unfolding list_of mean_with add div of_int of_bits
smoothed_curve = refl

-- "sums here begin at +0": the mean of ten -0 is +0
mean_of_zeros : mean_of (replicate 10 (fin true 0 (pos 0))) ≡ num 0
unfolding mean_of range add div of_bits of_int
mean_of_zeros = refl

-- a contour that is all NaN
range_of_nans : range_in binary32 (replicate 10 nan) ≡ inf true
unfolding range_in range lesser greater sub lt is_nan
range_of_nans = refl

-- "n < 8 adds TooShort to the issues", a union
short_7 : united 0 7 ≡ 8
unfolding united with_issue
short_7 = refl

short_8 : united 3 8 ≡ 3
unfolding united
short_8 = refl

short_already : united 9 7 ≡ 9
unfolding united with_issue
short_already = refl

-- three frames of 110 Hz, 12 semitones, in the register 0 to 24: Chao value 3 all along. Duration and fraction are those of the span, 0 to 2,048, though a query holds no more than 1,024 frames
level : shape_of (tone ++ (tone ++ tone)) (record { count = 3; first = 0; last = 2 }) 0 2048 (num 0) (fin false 3 (pos 3))
    ≡ record {
      contour = replicate 10 (num 3);
      weights = replicate 10 (num 1);
      mean = num 3;
      slope = num 0;
      curvature = num 0;
      turning = None;
      range = num 0;
      duration = fin false 5 (pos 12);
      fraction = fin false 3 (negsuc 10);
      confidence = num 1;
      frames = 3;
    }
unfolding shape_of drawn holes_filled mean_with list_of mean_of range_in confidence half_width reach curve_at step_of mean_over rounded position whole_part round_up narrowed lesser greater float_with_sign total_le range range_to while hz_to_st width_of st_to_chao log2_of line_slope point_added moments_of normal_equations first_unknown lead_of quadratic_coefficient greatest first_near last_near extremum stands chosen turning_point frame_at add sub mul div lt le eq neg of_int of_bits round is_nan log_by parts_of centred series log_horner frames_at power
level = refl

-- "Fewer than 3 voiced frames: 11", at place 0; no bytes at all: 2 at 0
query2 : List ℕ
query2 = 48 ∷ 1 ∷ 1 ∷ 0 ∷ 0 ∷ 0 ∷ 0 ∷ 0 ∷ 0 ∷ 2 ∷ 0 ∷ 0 ∷ 0 ∷ 0 ∷ 0 ∷ 0 ∷ 0 ∷ 0 ∷ 0 ∷ 192 ∷ 65 ∷ (replicate 23 0 ++ (2 ∷ 0 ∷ (tone ++ tone)))

two_voiced : shape_outcome query2 ≡ refused Unvoiced 0
unfolding query2 shape_outcome in_register load_query read_query record_verdict variants_fine variant_fine frame_verdict fields_of extent_of range range_to frame_at of_bits lt
two_voiced = refl

-- the same record with three frames: 12 semitones in the register 0 to 24 are Chao value 3 all along; 30 ms, all voiced and sure, and the issues with TooShort. f32s by their bytes: 3, 1, 30, 0
query3 : List ℕ
query3 = 48 ∷ 1 ∷ 1 ∷ 0 ∷ 0 ∷ 0 ∷ 0 ∷ 0 ∷ 0 ∷ 3 ∷ 0 ∷ 0 ∷ 0 ∷ 0 ∷ 0 ∷ 0 ∷ 0 ∷ 0 ∷ 0 ∷ 192 ∷ 65 ∷ (replicate 23 0 ++ (3 ∷ 0 ∷ (tone ++ (tone ++ tone))))

abbrev three : List ℕ
three = 0 ∷ 0 ∷ 64 ∷ 64 ∷ []

abbrev one : List ℕ
one = 0 ∷ 0 ∷ 128 ∷ 63 ∷ []

abbrev thirty : List ℕ
thirty = 0 ∷ 0 ∷ 240 ∷ 65 ∷ []

abbrev ten_of : List ℕ → List ℕ
ten_of l = l ++ (l ++ (l ++ (l ++ (l ++ (l ++ (l ++ (l ++ (l ++ l))))))))

three_voiced : shape_outcome query3
    ≡ written (51 ∷ 0 ∷ 0 ∷ 0 ∷ 0 ∷ 3 ∷ 0 ∷ 0 ∷ 0 ∷ (ten_of three ++ (ten_of one ++ (three ++ (replicate 17 0 ++ (thirty ++ (one ++ (one ++ (8 ∷ 0 ∷ [])))))))))
unfolding query3 in_register shape_outcome load_query read_query record_verdict variants_fine variant_fine frame_verdict fields_of extent_of shape_bytes fit_bytes measure_bytes united with_issue f32s_bytes to_bits shape_of drawn holes_filled mean_with list_of mean_of range_in confidence half_width reach curve_at step_of mean_over rounded position whole_part round_up narrowed lesser greater float_with_sign total_le range range_to while hz_to_st width_of st_to_chao log2_of line_slope point_added moments_of normal_equations first_unknown lead_of quadratic_coefficient greatest first_near last_near extremum stands chosen turning_point frame_at add sub mul div lt le eq neg of_int of_bits round is_nan log_by parts_of centred series log_horner frames_at power
three_voiced = refl

-- the same frames behind kind 55, floor and ceiling no numbers: 12 semitones in the register 10 to 14 are Chao value 3 as well, and ColdStartRegister, 16,
-- joins the issues
cold3 : List ℕ
cold3 =
    48 ∷ 1 ∷ 1 ∷ 0 ∷ 0 ∷ 0 ∷ 0 ∷ 0 ∷ 0 ∷ 3 ∷ 0 ∷ 0 ∷ 0 ∷ 0 ∷ 0 ∷ 192 ∷ 127 ∷ 0 ∷ 0 ∷ 192 ∷ 127 ∷ (replicate 23 0 ++ (3 ∷ 0 ∷ (55 ∷ (tone ++ (tone ++ tone)))))

three_cold : shape_outcome cold3
    ≡ written (51 ∷ 0 ∷ 0 ∷ 0 ∷ 0 ∷ 3 ∷ 0 ∷ 0 ∷ 0 ∷ (ten_of three ++ (ten_of one ++ (three ++ (replicate 17 0 ++ (thirty ++ (one ++ (one ++ (24 ∷ 0 ∷ [])))))))))
unfolding cold3 in_register with_issue voiced_st cold_register p5_p50_p95 percentile ascending insert is_sign_negative at_least_min_span shape_outcome load_query read_query record_verdict variants_fine variant_fine frame_verdict fields_of extent_of shape_bytes fit_bytes measure_bytes united f32s_bytes to_bits shape_of drawn holes_filled mean_with list_of mean_of range_in confidence half_width reach curve_at step_of mean_over rounded position whole_part round_up narrowed lesser greater float_with_sign total_le range range_to while hz_to_st width_of st_to_chao log2_of line_slope point_added moments_of normal_equations first_unknown lead_of quadratic_coefficient greatest first_near last_near extremum stands chosen turning_point frame_at add sub mul div lt le eq neg of_int of_bits round is_nan log_by parts_of centred series log_horner frames_at power
three_cold = refl

no_query : shape_outcome [] ≡ refused CutShort 0
unfolding shape_outcome load_query read_query record_verdict
no_query = refl

-- ---- every field of the record: bytes that are their own offsets behind the kind; the issues, 0x7b72, get TooShort's bit
abbrev f32 : ℕ → Float
f32 bits = of_bits binary32 bits

abbrev shape51 : ToneShape
shape51 = record {
  contour =
      f32 0x0c0b_0a09 ∷ f32 0x100f_0e0d ∷ f32 0x1413_1211 ∷ f32 0x1817_1615 ∷ f32 0x1c1b_1a19 ∷ f32 0x201f_1e1d ∷
      f32 0x2423_2221 ∷ f32 0x2827_2625 ∷ f32 0x2c2b_2a29 ∷ f32 0x302f_2e2d ∷ [];
  weights =
      f32 0x3433_3231 ∷ f32 0x3837_3635 ∷ f32 0x3c3b_3a39 ∷ f32 0x403f_3e3d ∷ f32 0x4443_4241 ∷ f32 0x4847_4645 ∷
      f32 0x4c4b_4a49 ∷ f32 0x504f_4e4d ∷ f32 0x5453_5251 ∷ f32 0x5857_5655 ∷ [];
  mean = f32 0x5c5b_5a59;
  slope = f32 0x605f_5e5d;
  curvature = f32 0x6463_6261;
  turning = Some (f32 0x6968_6766);
  range = f32 0x6d6c_6b6a;
  duration = f32 0x7170_6f6e;
  fraction = f32 0x7574_7372;
  confidence = f32 0x7978_7776;
  frames = 7;
}

abbrev record51 : List ℕ
record51 =
    51 ∷ 1 ∷ 2 ∷ 3 ∷ 4 ∷ 5 ∷ 6 ∷ 7 ∷ 8 ∷ 9 ∷ 10 ∷ 11 ∷ 12 ∷ 13 ∷ 14 ∷ 15 ∷ 16 ∷ 17 ∷ 18 ∷ 19 ∷ 20 ∷ 21 ∷ 22 ∷ 23 ∷ 24 ∷
    25 ∷ 26 ∷ 27 ∷ 28 ∷ 29 ∷ 30 ∷ 31 ∷ 32 ∷ 33 ∷ 34 ∷ 35 ∷ 36 ∷ 37 ∷ 38 ∷ 39 ∷ 40 ∷ 41 ∷ 42 ∷ 43 ∷ 44 ∷ 45 ∷ 46 ∷ 47 ∷ 48 ∷ 49 ∷
    50 ∷ 51 ∷ 52 ∷ 53 ∷ 54 ∷ 55 ∷ 56 ∷ 57 ∷ 58 ∷ 59 ∷ 60 ∷ 61 ∷ 62 ∷ 63 ∷ 64 ∷ 65 ∷ 66 ∷ 67 ∷ 68 ∷ 69 ∷ 70 ∷ 71 ∷ 72 ∷ 73 ∷ 74 ∷
    75 ∷ 76 ∷ 77 ∷ 78 ∷ 79 ∷ 80 ∷ 81 ∷ 82 ∷ 83 ∷ 84 ∷ 85 ∷ 86 ∷ 87 ∷ 88 ∷ 89 ∷ 90 ∷ 91 ∷ 92 ∷ 93 ∷ 94 ∷ 95 ∷ 96 ∷ 97 ∷ 98 ∷ 99 ∷
    100 ∷ 1 ∷ 102 ∷ 103 ∷ 104 ∷ 105 ∷ 106 ∷ 107 ∷ 108 ∷ 109 ∷ 110 ∷ 111 ∷ 112 ∷ 113 ∷ 114 ∷ 115 ∷ 116 ∷ 117 ∷ 118 ∷ 119 ∷ 120 ∷ 121 ∷ 122 ∷ 123 ∷ []

fields51 : shape_bytes 0x0403_0201 0x0807_0605 0x7b72 shape51 ≡ record51
unfolding shape_bytes fit_bytes measure_bytes united with_issue f32s_bytes of_bits to_bits round
fields51 = refl

-- read by the names of their offsets
names51 : (map (u32_at record51) (SHAPE_START ∷ SHAPE_END ∷ SHAPE_CONTOUR ∷ SHAPE_WEIGHTS ∷ SHAPE_MEAN ∷ SHAPE_SLOPE ∷ [])
    ≡ 0x0403_0201 ∷ 0x0807_0605 ∷ 0x0c0b_0a09 ∷ 0x3433_3231 ∷ 0x5c5b_5a59 ∷ 0x605f_5e5d ∷ [])
    × (map (u32_at record51) (SHAPE_CURVATURE ∷ SHAPE_TURNING ∷ SHAPE_RANGE ∷ SHAPE_DURATION ∷ SHAPE_FRACTION ∷ SHAPE_CONFIDENCE ∷ [])
    ≡ 0x6463_6261 ∷ 0x6968_6766 ∷ 0x6d6c_6b6a ∷ 0x7170_6f6e ∷ 0x7574_7372 ∷ 0x7978_7776 ∷ [])
    × (byte_at record51 SHAPE_TURNS ≡ 1) × (u16_at record51 SHAPE_ISSUES ≡ 0x7b7a) × (length record51 ≡ SHAPE_SIZE) × (SHAPE_TURNS ≡ 101)
names51 = (refl, refl, refl, refl, refl, refl)
