-- Bench cases and worked examples, by computation.
use Rattle.std.specs.Prelude.{◌≡◌, true, false, pos, negsuc, from_bits, refl, Float}
use Rattle.std.specs.Float.{fin, binary64}
use Rattle.std.specs.Float.Ieee.{is_nan, neg, add, sub, mul, div, lt, of_bits, of_int, round}
use Rattle.spec_arithmetic.specs.Constants.{one64, whole64}
use Rattle.spec_arithmetic.specs.Log.{ln_of, log2_of, log_by, parts_of, centred, series, log_horner}
use Rattle.spec_arithmetic.specs.Exp.{exp_of, exp_by, rest, exp_series, exp_horner, floor_of}

-- 12 log2 (x / 55)
abbrev semitones : Float → Float
semitones x = mul binary64 (whole64 12) (log2_of (div binary64 x (whole64 55)))

-- "55 Hz is 0 semitones, 110 is 12, 27.5 is −12": 12 is 3 · 2 ^ 2
pub at_55 : semitones (whole64 55) ≡ fin false 0 (pos 0)
unfolding log2_of add sub mul div lt of_bits of_int round log_by parts_of centred series log_horner
at_55 = refl

pub at_110 : semitones (whole64 110) ≡ fin false 3 (pos 2)
unfolding log2_of add sub mul div lt of_bits of_int round log_by parts_of centred series log_horner
at_110 = refl

pub at_27_5 : semitones (of_bits binary64 0x403B_8000_0000_0000) ≡ fin true 3 (pos 2)
unfolding log2_of add sub mul div lt of_bits of_int round log_by parts_of centred series log_horner
at_27_5 = refl

-- where the series count, and where the last bit tells LN2's two parts, and the order of the operations, from every other: the logarithms of
-- 10, and e to the power −27.375, where the 13th term changes the last bit too, and v·LOG2E, −39.49, is nearer to the whole number above it
pub ln_of_10 : ln_of (whole64 10) ≡ of_bits binary64 0x4002_6BB1_BBB5_5516
unfolding ln_of add sub mul div lt of_bits of_int round log_by parts_of centred series log_horner
ln_of_10 = refl

pub log2_of_10 : log2_of (whole64 10) ≡ of_bits binary64 0x400A_934F_0979_A371
unfolding log2_of add sub mul div lt of_bits of_int round log_by parts_of centred series log_horner
log2_of_10 = refl

pub log2_of_3 : log2_of (whole64 3) ≡ of_bits binary64 0x3FF9_5C01_A39F_BD69
unfolding log2_of add sub mul div lt of_bits of_int round log_by parts_of centred series log_horner
log2_of_3 = refl

pub exp_below_27 : exp_of (of_bits binary64 0xC03B_6000_0000_0000) ≡ of_bits binary64 0x3D76_B9A8_F25D_7B32
unfolding exp_of is_nan neg add sub mul div lt of_bits of_int round exp_by rest exp_series exp_horner floor_of
exp_below_27 = refl

-- "if m > 1.4142135623730951, halve m": not that number itself
pub bound_not_halved : let root2 = from_bits binary64 0x3FF6_A09E_667F_3BCD in centred (record { m = root2; e = one64 }) ≡ record { m = root2; e = one64 }
unfolding centred lt of_bits
bound_not_halved = refl

-- "below −708 it is 0"
pub exp_of_708_5 : exp_of (of_bits binary64 0xC086_2400_0000_0000) ≡ fin false 0 (pos 0)
unfolding exp_of exp_by rest exp_series exp_horner floor_of is_nan neg add sub mul div lt of_bits of_int round
exp_of_708_5 = refl

-- the floors of −2 and −1.5
pub floors : (floor_of (fin true 1 (pos 1)) ≡ negsuc 1) × (floor_of (fin true 3 (negsuc 0)) ≡ negsuc 1)
unfolding floor_of
floors = (refl, refl)
