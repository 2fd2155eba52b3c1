-- The loop begins at minus infinity.
use Rattle.std.proofs.Common.{refl}
use lib.Ieee.{of_bits}
use Rattle.spec_shape.specs.Turning.{greatest}
use Rattle.tonekit_contour.proofs.greatest.Goals as goal

pub loop-v-init : goal.loop-v-init
unfolding greatest of_bits
loop-v-init c = refl
