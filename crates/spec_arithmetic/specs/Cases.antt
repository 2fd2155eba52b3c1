-- Cases of the definitions, each by computing it.
use Rattle.std.specs.Prelude.{◌≡◌, ℕ, true, false, pos, negsuc, refl, [], ◌∷◌, Some, None, from_bits, Float}
use Rattle.std.specs.Float.{nan, inf, fin, binary32, binary64, float_with_sign}
use Rattle.std.specs.Float.Ieee.{round, of_int, of_bits, to_bits, is_nan, lt, le, eq}
use Rattle.spec_arithmetic.specs.Constants.{one32, one64}
use Rattle.spec_arithmetic.specs.Fields.{byte_at, u16_at, u32_at, f32_at, le16, le32, f32_bytes, f32s_bytes}
use Rattle.tonekit_core.specs.Loop.{range_to, turns_to}
use Rattle.spec_arithmetic.specs.Places.{index_of}
use Rattle.spec_arithmetic.specs.Narrow.{narrowed}
use Rattle.spec_arithmetic.specs.Pick.{lesser, greater}
use Rattle.spec_arithmetic.specs.Magnitude.{magnitude, total_le}
use Rattle.spec_arithmetic.specs.Whole.{whole_part, round_up}

-- 2
abbrev two : Float
two = from_bits binary64 0x4000_0000_0000_0000

-- ---- "Integers are little-endian, floats IEEE 754 bits", and past the end 0 is read
read_numbers : (byte_at (9 ∷ 8 ∷ []) 2 ≡ 0) × (u16_at (9 ∷ 1 ∷ 2 ∷ []) 1 ≡ 0x0201) × (u32_at (9 ∷ 1 ∷ 2 ∷ 3 ∷ 4 ∷ []) 1 ≡ 0x0403_0201)
read_numbers = (refl, refl, refl)

written_numbers : (le16 0x0201 ≡ 1 ∷ 2 ∷ []) × (le32 0x0403_0201 ≡ 1 ∷ 2 ∷ 3 ∷ 4 ∷ [])
written_numbers = (refl, refl)

read_float : f32_at (9 ∷ 0 ∷ 0 ∷ 128 ∷ 63 ∷ []) 1 ≡ one32
read_float = refl

written_floats : (f32_bytes one32 ≡ 0 ∷ 0 ∷ 128 ∷ 63 ∷ []) × (f32s_bytes (one32 ∷ nan ∷ []) ≡ 0 ∷ 0 ∷ 128 ∷ 63 ∷ 0 ∷ 0 ∷ 0xC0 ∷ 0x7F ∷ [])
unfolding f32s_bytes to_bits of_bits
written_floats = (refl, refl)

-- two records of kind 2: a number is found in the first record that has it, and the kind is no number
found : (index_of (2 ∷ 7 ∷ 2 ∷ 9 ∷ []) (0 ∷ 2 ∷ []) 9 ≡ Some 1) × (index_of (2 ∷ 7 ∷ 2 ∷ 7 ∷ []) (0 ∷ 2 ∷ []) 7 ≡ Some 0) × (index_of (2 ∷ 7 ∷ 2 ∷ 9 ∷ []) (0 ∷ 2 ∷ []) 2 ≡ None)
unfolding index_of range_to turns_to
found = (refl, refl, refl)

-- ---- f64 to f32, by their patterns: 1 + 2 ^ -24 and 1 + 3 * 2 ^ -24 lie halfway between two f32
tie_down : narrowed (of_bits binary64 0x3FF0_0000_1000_0000) ≡ of_bits binary32 0x3F80_0000
unfolding narrowed round of_bits
tie_down = refl

tie_up : narrowed (of_bits binary64 0x3FF0_0000_3000_0000) ≡ of_bits binary32 0x3F80_0002
unfolding narrowed round of_bits
tie_up = refl

past_tie : narrowed (of_bits binary64 0x3FF0_0000_1000_0001) ≡ of_bits binary32 0x3F80_0001
unfolding narrowed round of_bits
past_tie = refl

-- halfway past the largest f32, and the f64 below it
overflows : narrowed (of_bits binary64 0x47EF_FFFF_F000_0000) ≡ inf false
unfolding narrowed round of_bits
overflows = refl

largest : narrowed (of_bits binary64 0x47EF_FFFF_EFFF_FFFF) ≡ of_bits binary32 0x7F7F_FFFF
unfolding narrowed round of_bits
largest = refl

-- half of the least subnormal f32, and the f64 above it; below zero likewise
half_least : narrowed (of_bits binary64 0x3690_0000_0000_0000) ≡ of_bits binary32 0
unfolding narrowed round of_bits
half_least = refl

least : narrowed (of_bits binary64 0x3690_0000_0000_0001) ≡ of_bits binary32 1
unfolding narrowed round of_bits
least = refl

half_least_negative : narrowed (of_bits binary64 0xB690_0000_0000_0000) ≡ of_bits binary32 0x8000_0000
unfolding narrowed round of_bits
half_least_negative = refl

-- a subnormal tie: 1.5 and 2.5 of the least f32 both give 2 of it
subnormal_tie_up : narrowed (of_bits binary64 0x36A8_0000_0000_0000) ≡ of_bits binary32 2
unfolding narrowed round of_bits
subnormal_tie_up = refl

subnormal_tie_down : narrowed (of_bits binary64 0x36B4_0000_0000_0000) ≡ of_bits binary32 2
unfolding narrowed round of_bits
subnormal_tie_down = refl

narrow_nan : narrowed nan ≡ nan
unfolding narrowed
narrow_nan = refl

-- ---- a NaN of any pattern is read as the NaN, and written 0x7FC00000
read_nan : of_bits binary32 0xFF80_0001 ≡ nan
unfolding of_bits
read_nan = refl

written_nan : to_bits binary32 nan ≡ 0x7FC0_0000
unfolding to_bits
written_nan = refl

-- ---- u32 to f32: 2 ^ 24 + 1 and 2 ^ 24 + 3 lie halfway between two f32
u32_tie_down : of_int binary32 (pos 16777217) ≡ fin false 1 (pos 24)
unfolding of_int round
u32_tie_down = refl

u32_tie_up : of_int binary32 (pos 16777219) ≡ fin false 4194305 (pos 2)
unfolding of_int round
u32_tie_up = refl

u32_greatest : of_int binary32 (pos 4294967295) ≡ fin false 1 (pos 32)
unfolding of_int round
u32_greatest = refl

-- ---- minimum and maximum: of two zeros the earlier, of a NaN and a number the number
lesser_number : (lesser one64 two ≡ one64) × (lesser two one64 ≡ one64)
unfolding lesser is_nan lt of_bits
lesser_number = (refl, refl)

greater_number : (greater one64 two ≡ two) × (greater two one64 ≡ two)
unfolding greater is_nan lt of_bits
greater_number = (refl, refl)

lesser_zeros : lesser (fin false 0 (pos 0)) (fin true 0 (pos 0)) ≡ fin false 0 (pos 0)
unfolding lesser is_nan lt
lesser_zeros = refl

greater_zeros : greater (fin true 0 (pos 0)) (fin false 0 (pos 0)) ≡ fin true 0 (pos 0)
unfolding greater is_nan lt
greater_zeros = refl

lesser_nan : (a : ℕ) → lesser nan (fin true a (pos 0)) ≡ fin true a (pos 0)
unfolding lesser is_nan
lesser_nan a = refl

lesser_nan_later : (a : ℕ) → lesser (fin true a (pos 0)) nan ≡ fin true a (pos 0)
unfolding lesser is_nan lt
lesser_nan_later a = refl

greater_nan : greater nan (inf true) ≡ inf true
unfolding greater is_nan
greater_nan = refl

greater_nan_later : greater (inf true) nan ≡ inf true
unfolding greater is_nan lt
greater_nan_later = refl

-- ---- the sign cleared
magnitude_zero : magnitude (of_bits binary64 0x8000_0000_0000_0000) ≡ fin false 0 (pos 0)
unfolding float_with_sign of_bits
magnitude_zero = refl

magnitude_nan : magnitude nan ≡ nan
unfolding float_with_sign
magnitude_nan = refl

total_numbers : (total_le one64 two ≡ true) × (total_le two one64 ≡ false)
unfolding total_le is_nan le lt eq of_bits
total_numbers = (refl, refl)

-- a NaN is above infinity, and infinity is not above a NaN
nan_greatest : total_le (inf false) nan ≡ true
unfolding total_le is_nan
nan_greatest = refl

nan_not_least : total_le nan (inf false) ≡ false
unfolding total_le is_nan
nan_not_least = refl

-- ---- 0.5, 1, 1.5 and -0.3 as an index
half_up : round_up (fin false 1 (negsuc 0)) ≡ 1
unfolding round_up
half_up = refl

one_up : round_up (fin false 1 (pos 0)) ≡ 1
unfolding round_up
one_up = refl

more_up : round_up (fin false 3 (negsuc 0)) ≡ 2
unfolding round_up
more_up = refl

negative_up : round_up (of_bits binary64 0xBFD3_3333_3333_3333) ≡ 0
unfolding round_up of_bits
negative_up = refl

part_down : whole_part (fin false 3 (negsuc 0)) ≡ 1
unfolding whole_part
part_down = refl
