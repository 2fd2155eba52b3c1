-- Worked registers, computed; the patterns are those that the Rust's operations give.
use Rattle.std.specs.Prelude.{ℕ, ◌≡◌, refl, Bool, true, false, List, [], ◌∷◌, ◌++◌, pos, negsuc, Float, Some, None}
use Rattle.std.specs.Float.{nan, fin, binary32, binary64, float_with_sign, is_sign_negative}
use Rattle.std.specs.Float.Ieee.{add, sub, mul, div, lt, le, eq, neg, of_bits, of_int, round}
use Rattle.tonekit_core.specs.Loop.{while, while_if, range, turns}
use Rattle.tonekit_core.specs.Words.{with_issue}
use Rattle.spec_arithmetic.specs.Constants.{whole64}
use Rattle.spec_arithmetic.specs.Narrow.{narrowed}
use Rattle.spec_arithmetic.specs.Whole.{whole_part}
use Rattle.spec_arithmetic.specs.Log.{log2_of, log_by, parts_of, centred, series, log_horner}
use Rattle.spec_query.specs.Frames.{frame_at}
use Rattle.spec_query.specs.Query.{fields_of}
use Rattle.spec_query.specs.declared.Query.{Query}
use Rattle.spec_shape.specs.Chao.{hz_to_st}
use Rattle.spec_shape.specs.Register.{voiced_st, insert, ascending, percentile, p5_p50_p95, at_least_min_span, fallback_register, cold_register, in_register}
use Rattle.spec_shape.specs.declared.Register.{Register}

abbrev f32 : ℕ → Float
f32 bits = of_bits binary32 bits

abbrev ends : Float → Float → Register
ends floor ceil = record { floor = floor; median = nan; ceil = ceil }

abbrev zero : Float
zero = f32 0

abbrev minus_zero : Float
minus_zero = f32 0x8000_0000

-- by total order: −1, −0, +0, 1, 1
sorted : ascending (f32 0x3f80_0000 ∷ zero ∷ f32 0xbf80_0000 ∷ minus_zero ∷ f32 0x3f80_0000 ∷ [])
    ≡ f32 0xbf80_0000 ∷ minus_zero ∷ zero ∷ f32 0x3f80_0000 ∷ f32 0x3f80_0000 ∷ []
unfolding ascending insert lt is_sign_negative of_bits
sorted = refl

-- of 1, 2 and 4 the ranks are 0.1, 1 and 1.9: 1.1, 2 and 3.8 but for a unit
three_values : p5_p50_p95 (whole64 4 ∷ whole64 1 ∷ whole64 2 ∷ [])
    ≡ Some (record { p5 = of_bits binary64 0x3ff1_9999_9999_999a; p50 = whole64 2; p95 = of_bits binary64 0x400e_6666_6666_6666 })
unfolding p5_p50_p95 percentile ascending insert whole_part add sub mul lt le is_sign_negative of_bits of_int round
three_values = refl

-- one value is every percentile; of none there is none
one_value : (p5_p50_p95 (whole64 7 ∷ []) ≡ Some (record { p5 = whole64 7; p50 = whole64 7; p95 = whole64 7 })) × (p5_p50_p95 [] ≡ None)
unfolding p5_p50_p95 percentile ascending insert whole_part add sub mul lt le is_sign_negative of_bits of_int round
one_value = (refl, refl)

-- one push is needed
pushed_once : at_least_min_span (ends (f32 0x3fe2_ca03) (f32 0x4085_3cc2)) ≡ ends (f32 0x3f77_bd01) (f32 0x409e_f7a2)
unfolding at_least_min_span while while_if narrowed float_with_sign add sub mul round neg lt le eq of_bits of_int
pushed_once = refl

-- none is: the difference of these rounds to 4
not_pushed : at_least_min_span (ends (f32 0xc000_0000) (f32 0x3fff_fffe)) ≡ ends (f32 0xc000_0000) (f32 0x3fff_ffff)
unfolding at_least_min_span while while_if narrowed float_with_sign add sub mul round neg lt le eq of_bits of_int
not_pushed = refl

-- 4 st are wide enough, and kept, also where only the difference as f32 is 4; less is widened about the middle; of a
-- register that is no number neither is said
wide_enough : (at_least_min_span (ends (f32 0x4120_0000) (f32 0x4160_0000)) ≡ ends (f32 0x4120_0000) (f32 0x4160_0000))
    × (at_least_min_span (ends (f32 0xc000_0000) (f32 0x3fff_ffff)) ≡ ends (f32 0xc000_0000) (f32 0x3fff_ffff))
    × (at_least_min_span (ends (f32 0x40a0_0000) (f32 0x40a0_0000)) ≡ ends (f32 0x4040_0000) (f32 0x40e0_0000))
    × (at_least_min_span (ends nan nan) ≡ ends nan nan)
unfolding at_least_min_span while while_if narrowed float_with_sign add sub mul round neg lt le eq of_bits of_int
wide_enough = (refl, refl, refl, refl)

-- 90, 150 and 250 Hz; what a register is of no frames
fallback : cold_register [] ≡ record { floor = f32 0x4108_6a2c; median = f32 0x418a_f4c0; ceil = f32 0x41d1_b46b }
unfolding cold_register p5_p50_p95 fallback_register narrowed hz_to_st log2_of log_by parts_of centred series log_horner add sub mul div lt of_bits of_int round
fallback = refl

-- numbers as what they compute to: antt does not end comparing two roundings with each other
abbrev twelve : Float
twelve = fin false 3 (pos 2)

-- 12 st twice are a register from 10 to 14; 0 and 12 st one from −1.4 to 13.4
level : cold_register (twelve ∷ twelve ∷ []) ≡ record { floor = fin false 5 (pos 1); median = twelve; ceil = fin false 7 (pos 1) }
unfolding cold_register p5_p50_p95 percentile ascending insert whole_part at_least_min_span narrowed add sub mul lt le eq neg is_sign_negative of_bits of_int round
level = refl

octave : cold_register (twelve ∷ whole64 0 ∷ []) ≡ record { floor = f32 0xbfb3_3333; median = whole64 6; ceil = f32 0x4156_6666 }
unfolding cold_register p5_p50_p95 percentile ascending insert whole_part at_least_min_span narrowed add sub mul lt le eq neg is_sign_negative of_bits of_int round
octave = refl

-- frames of 110 and 55 Hz, and one that is unvoiced, of 110
abbrev tone : List ℕ
tone = 50 ∷ 1 ∷ 0 ∷ 0 ∷ 220 ∷ 66 ∷ 0 ∷ 0 ∷ 128 ∷ 63 ∷ []

abbrev low : List ℕ
low = 50 ∷ 1 ∷ 0 ∷ 0 ∷ 92 ∷ 66 ∷ 0 ∷ 0 ∷ 128 ∷ 63 ∷ []

abbrev rest : List ℕ
rest = 50 ∷ 0 ∷ 0 ∷ 0 ∷ 220 ∷ 66 ∷ 0 ∷ 0 ∷ 128 ∷ 63 ∷ []

voiced_alone : voiced_st (low ++ (rest ++ tone)) 3 ≡ fin false 0 (pos 0) ∷ twelve ∷ []
unfolding voiced_st range turns frame_at hz_to_st log2_of log_by parts_of centred series log_horner narrowed add sub mul div lt of_bits of_int round
voiced_alone = refl

-- 165 Hz: the f64 of its semitones has more digits than an f32
of_165 : voiced_st (50 ∷ 1 ∷ 0 ∷ 0 ∷ 37 ∷ 67 ∷ 0 ∷ 0 ∷ 128 ∷ 63 ∷ []) 1 ≡ fin false 4985861 (negsuc 17) ∷ []
unfolding voiced_st range turns frame_at hz_to_st log2_of log_by parts_of centred series log_horner narrowed add sub mul div lt of_bits of_int round
of_165 = refl

-- a query of five frames, its span frames 3 and 4, LowSnr among its issues, floor and ceiling no numbers
abbrev asked : Bool → Query
asked cold = record (fields_of []) { start = 3; end = 5; floor = nan; ceil = nan; issues = 2; count = 5; cold = cold }

abbrev frames : List ℕ
frames = low ++ (rest ++ (rest ++ (tone ++ rest)))

-- under kind 55 the register is that of both voiced frames, one of which lies before the span; without it the query is as it was
registers : (in_register frames (asked true) ≡ record (asked true) { floor = f32 0xbfb3_3333; ceil = f32 0x4156_6666; issues = 18 })
    × (in_register frames (asked false) ≡ asked false)
unfolding fields_of in_register with_issue cold_register p5_p50_p95 percentile ascending insert whole_part at_least_min_span voiced_st range turns frame_at hz_to_st log2_of log_by parts_of centred series log_horner narrowed add sub mul div lt le eq neg is_sign_negative of_bits of_int round
registers = (refl, refl)
