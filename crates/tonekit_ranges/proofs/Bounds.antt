-- Ranges by the bits of their bounds, as the code has them. Assumes nothing.
use Rattle.std.proofs.Common.{◌≡◌, refl, ◌&&◌, Float}
use lib.Ieee.{binary32, lt, neg, of_bits}
use Rattle.spec_pack.specs.Ranges.{above_zero, knot_fine, tail_fine}
use Rattle.tonekit_ranges.specs.Sizes.{within}

pub above_bits : (x : Float) → above_zero x ≡ (lt (of_bits binary32 0) x && lt x (of_bits binary32 0x7f80_0000))
unfolding above_zero of_bits
above_bits x = refl

pub knot_within : (x : Float) → knot_fine x ≡ within x (of_bits binary32 0x42c8_0000)
unfolding knot_fine within neg of_bits
knot_within x = refl

pub tail_within : (x : Float) → tail_fine x ≡ within x (of_bits binary32 0x4248_0000)
unfolding tail_fine within neg of_bits
tail_within x = refl
