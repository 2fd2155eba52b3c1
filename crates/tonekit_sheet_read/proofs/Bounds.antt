-- The bound of a point by its bits, as the code has it. Assumes nothing.
use Rattle.std.proofs.Common.{◌≡◌, refl, Float}
use lib.Ieee.{binary32, neg, of_bits}
use Rattle.tonekit_ranges.specs.Sizes.{within}
use Rattle.spec_sheet.specs.Reader.{point_fine}

pub point_within : (x : Float) → point_fine x ≡ within x (of_bits binary32 0x4300_0000)
unfolding point_fine within neg of_bits
point_within x = refl
