-- Numbers of the code, as the definitions write them.
use Rattle.std.proofs.Common.{◌≡◌, refl}
use lib.Ieee.{binary64, of_int, of_bits}
use Rattle.spec_arithmetic.specs.Constants.{whole64}

pub two_is : of_bits binary64 0x4000_0000_0000_0000 ≡ whole64 2
unfolding of_int of_bits
two_is = refl

pub ninety_is : of_bits binary64 0x4056_8000_0000_0000 ≡ whole64 90
unfolding of_int of_bits
ninety_is = refl

pub hundred_fifty_is : of_bits binary64 0x4062_c000_0000_0000 ≡ whole64 150
unfolding of_int of_bits
hundred_fifty_is = refl

pub two_hundred_fifty_is : of_bits binary64 0x406f_4000_0000_0000 ≡ whole64 250
unfolding of_int of_bits
two_hundred_fifty_is = refl
