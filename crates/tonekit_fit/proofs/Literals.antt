-- Numbers of the code, as the definitions write them.
use Rattle.std.proofs.Common.{◌≡◌, refl}
use lib.Ieee.{binary64, of_int, of_bits}
use Rattle.spec_arithmetic.specs.Constants.{whole64}

pub four_is : of_bits binary64 0x4010_0000_0000_0000 ≡ whole64 4
unfolding of_int of_bits
four_is = refl

pub twelve_is : of_bits binary64 0x4028_0000_0000_0000 ≡ whole64 12
unfolding of_int of_bits
twelve_is = refl

pub ref_hz_is : of_bits binary64 0x404b_8000_0000_0000 ≡ whole64 55
unfolding of_int of_bits
ref_hz_is = refl
