-- Windows, computed; the patterns are those of a run in another language.
use Rattle.std.proofs.Common.{sym, ◌∙◌}
use Rattle.std.specs.Prelude.{ℕ, ◌≡◌, refl, false, List, [], ◌∷◌, pos, negsuc, length, Float}
use Rattle.std.specs.Float.{fin, binary64}
use Rattle.std.specs.Float.Ieee.{of_bits, add, sub, mul, div, of_int, lt, is_nan, round}
use Rattle.tonekit_core.specs.Loop.{while}
use Rattle.spec_arithmetic.specs.Pick.{lesser, greater}
use Rattle.spec_arithmetic.specs.Whole.{whole_part, round_up}
use Rattle.spec_arithmetic.specs.Narrow.{narrowed}
use Rattle.spec_arithmetic.specs.Position.{position}
use Rattle.spec_shape.specs.Window.{span_at, reach, half_width, frames_at, rounded, mean_over, curve_at, step_of, walk_of}

span_8 : span_at 8 3 ≡ record { low = of_bits binary64 0x3ffd_5555_5555_5554; high = of_bits binary64 0x4006_aaaa_aaaa_aaaa }
unfolding position reach half_width lesser greater add sub mul div of_int of_bits lt is_nan
span_8 = refl

span_1024 : span_at 1024 8 ≡ record { low = of_bits binary64 0x408a_d111_1111_1110; high = of_bits binary64 0x408e_0444_4444_4444 }
unfolding position reach half_width lesser greater add sub mul div of_int of_bits lt is_nan
span_1024 = refl

-- the last point's window is a point
span_end : span_at 1024 9 ≡ record { low = of_bits binary64 0x408f_f800_0000_0000; high = of_bits binary64 0x408f_f800_0000_0000 }
unfolding position reach half_width lesser greater add sub mul div of_int of_bits lt is_nan
span_end = refl

-- 7 · 3 / 9 is 2.33, so the window from 1.83 to 2.83 holds frame 2
frames_8 : frames_at 8 3 ≡ record { from = 2; to = 2 }
unfolding frames_at position reach half_width rounded whole_part round_up lesser greater add sub mul div of_int of_bits lt is_nan
frames_8 = refl

-- point 3 of 100 frames is frame 33, and its window from 28 to 38 holds both ends
frames_100 : frames_at 100 3 ≡ record { from = 28; to = 38 }
unfolding frames_at position reach half_width rounded whole_part round_up lesser greater add sub mul div of_int of_bits lt is_nan
frames_100 = refl

-- `round`: a half goes up
half_up : rounded (of_bits binary64 0x3fe0_0000_0000_0000) ≡ 1
unfolding rounded whole_part sub of_int of_bits lt
half_up = refl

-- from 0.5 to 1.5 over the bend of 0, 4, 0: two trapezoids of 1.5 each, and no turn more
two_trapezoids : walk_of (fin false 0 (pos 0) ∷ fin false 1 (pos 2) ∷ fin false 0 (pos 0) ∷ []) (fin false 1 (negsuc 0)) (fin false 3 (negsuc 0))
    ≡ record { t0 = fin false 3 (negsuc 0); v0 = fin false 1 (pos 1); next = fin false 3 (pos 0); area = fin false 3 (pos 0) }
unfolding while step_of curve_at whole_part lesser add sub mul of_int of_bits lt is_nan
two_trapezoids = refl

-- the curve 1, 2, 3, 4: its ends, and a window of two trapezoids on a straight line
rising : List Float
rising = of_int binary64 (pos 1) ∷ of_int binary64 (pos 2) ∷ of_int binary64 (pos 3) ∷ of_int binary64 (pos 4) ∷ []

-- contour point k of it
abbrev rising_at : ℕ → Float
rising_at k = narrowed (mean_over rising (span_at (length rising) k))

-- both sides are computed to their value: antt does not end comparing the two roundings with each other
first_point : rising_at 0 ≡ of_int binary64 (pos 1)
unfolding rising position reach half_width mean_over while step_of curve_at narrowed whole_part lesser greater add sub mul div of_int of_bits lt is_nan round
first_point =
    let here : rising_at 0 ≡ fin false 1 (pos 0) = refl in
    let there : of_int binary64 (pos 1) ≡ fin false 1 (pos 0) = refl in
    here ∙ sym there

third_point : rising_at 3 ≡ of_int binary64 (pos 2)
unfolding rising position reach half_width mean_over while step_of curve_at narrowed whole_part lesser greater add sub mul div of_int of_bits lt is_nan round
third_point =
    let here : rising_at 3 ≡ fin false 1 (pos 1) = refl in
    let there : of_int binary64 (pos 2) ≡ fin false 1 (pos 1) = refl in
    here ∙ sym there

last_point : rising_at 9 ≡ of_int binary64 (pos 4)
unfolding rising position reach half_width mean_over while step_of curve_at narrowed whole_part lesser greater add sub mul div of_int of_bits lt is_nan round
last_point =
    let here : rising_at 9 ≡ fin false 1 (pos 2) = refl in
    let there : of_int binary64 (pos 4) ≡ fin false 1 (pos 2) = refl in
    here ∙ sym there
