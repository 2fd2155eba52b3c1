-- Worked examples, by computation.
use Rattle.std.specs.Prelude.{◌≡◌, refl}
use Rattle.std.specs.Float.{binary64}
use Rattle.std.specs.Float.Ieee.{of_bits, round}
use Rattle.spec_arithmetic.specs.Root.{root_of, root_units, nearest_root, isqrt}

pub root_of_two : root_of (of_bits binary64 0x4000_0000_0000_0000) ≡ of_bits binary64 0x3FF6_A09E_667F_3BCD
unfolding root_of of_bits round root_units nearest_root isqrt
root_of_two = refl

-- the least subnormal, 2 ^ -1074
pub root_of_least : root_of (of_bits binary64 1) ≡ of_bits binary64 0x1E60_0000_0000_0000
unfolding root_of of_bits round root_units nearest_root isqrt
root_of_least = refl

pub root_of_largest : root_of (of_bits binary64 0x7FEF_FFFF_FFFF_FFFF) ≡ of_bits binary64 0x5FEF_FFFF_FFFF_FFFF
unfolding root_of of_bits round root_units nearest_root isqrt
root_of_largest = refl
