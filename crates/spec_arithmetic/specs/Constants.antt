-- The numbers that several definitions name, and those that the logarithms and the exponential are made with.
use Rattle.std.specs.Prelude.{ℕ, pos, from_bits, Float}
use Rattle.std.specs.Float.{binary32, binary64}
use Rattle.std.specs.Float.Ieee.{of_int}

-- 0 and 1 as f32
abbrev pub zero32 : Float
zero32 = from_bits binary32 0

abbrev pub one32 : Float
one32 = from_bits binary32 0x3F80_0000

-- 0, 1/2 and 1 as f64
abbrev pub zero64 : Float
zero64 = from_bits binary64 0

abbrev pub half : Float
half = from_bits binary64 0x3FE0_0000_0000_0000

abbrev pub one64 : Float
one64 = from_bits binary64 0x3FF0_0000_0000_0000

-- the whole number n as an f64
abbrev pub whole64 : ℕ → Float
whole64 n = of_int binary64 (pos n)

-- "LN2 is split into hi = 0x3FE62E42FEE00000 and lo = 0x3DEA39EF35793C76"
abbrev pub LN2_HI : Float
LN2_HI = from_bits binary64 0x3FE6_2E42_FEE0_0000

abbrev pub LN2_LO : Float
LN2_LO = from_bits binary64 0x3DEA_39EF_3579_3C76

-- "LOG2E the f64 nearest 1.4426950408889634"
abbrev pub LOG2E : Float
LOG2E = from_bits binary64 0x3FF7_1547_652B_82FE

-- 708
abbrev pub bound : Float
bound = from_bits binary64 0x4086_2000_0000_0000
