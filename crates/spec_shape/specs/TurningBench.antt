-- Worked examples, computed: where a point of ten lies, and where a curve turns.
use Rattle.std.specs.Prelude.{◌≡◌, refl, [], ◌∷◌, ◌++◌, replicate, Float, Option, Some, None}
use Rattle.std.specs.Float.{binary64}
use Rattle.std.specs.Float.Ieee.{neg, add, sub, mul, div, lt, le, is_nan, round, of_int, of_bits}
use Rattle.tonekit_core.specs.Loop.{range, turns, range_to, turns_to}
use Rattle.spec_arithmetic.specs.Pick.{lesser, greater}
use Rattle.spec_arithmetic.specs.Position.{position}
use Rattle.spec_arithmetic.specs.Constants.{whole64}
use Rattle.spec_shape.specs.Turning.{greatest, first_near, last_near, extremum, stands, chosen, turning_point}

-- point 3 of ten in eight frames: (3 / 9) · 7, which is a unit below 3 · 7 / 9
third_of_eight : position 3 7 ≡ of_bits binary64 0x4002_aaaa_aaaa_aaaa
unfolding position mul div of_int of_bits round
third_of_eight = refl

abbrev zero : Float
zero = whole64 0

abbrev one : Float
one = whole64 1

abbrev two : Float
two = whole64 2

abbrev half : Option Float
half = Some (of_bits binary64 0x3fe0_0000_0000_0000)

-- the middle of three frames stands above both ends; a curve of two frames has no middle
peak : turning_point (one ∷ two ∷ one ∷ []) ≡ half
unfolding turning_point chosen stands extremum last_near first_near greatest range turns range_to turns_to lesser greater neg add sub mul div lt le is_nan round of_int of_bits
peak = refl

two_frames : turning_point (zero ∷ two ∷ []) ≡ None
unfolding turning_point
two_frames = refl

-- 1.5 stands 0.5 beyond 1, which is enough; 1.25 does not stand far enough
enough : turning_point (one ∷ of_bits binary64 0x3ff8_0000_0000_0000 ∷ one ∷ []) ≡ half
unfolding turning_point chosen stands extremum last_near first_near greatest range turns range_to turns_to lesser greater neg add sub mul div lt le is_nan round of_int of_bits
enough = refl

too_little : turning_point (one ∷ of_bits binary64 0x3ff4_0000_0000_0000 ∷ one ∷ []) ≡ None
unfolding turning_point chosen stands extremum last_near first_near greatest range turns range_to turns_to lesser greater neg add sub mul div lt le is_nan round of_int of_bits
too_little = refl

-- the centre of a plateau, frames 1 and 2 of 0 to 4
plateau : turning_point (zero ∷ two ∷ two ∷ zero ∷ zero ∷ []) ≡ Some (of_bits binary64 0x3fd8_0000_0000_0000)
unfolding turning_point chosen stands extremum last_near first_near greatest range turns range_to turns_to lesser greater neg add sub mul div lt le is_nan round of_int of_bits
plateau = refl

-- of equal excursions, 1 above at a third and 1 below at two thirds, the maximum's
equal_excursions : turning_point (one ∷ two ∷ zero ∷ one ∷ []) ≡ Some (of_bits binary64 0x3fd5_5555_5555_5555)
unfolding turning_point chosen stands extremum last_near first_near greatest range turns range_to turns_to lesser greater neg add sub mul div lt le is_nan round of_int of_bits
equal_excursions = refl

-- exactly a tenth and nine tenths along lie outside
at_a_tenth : turning_point (zero ∷ two ∷ replicate 9 zero) ≡ None
unfolding turning_point chosen stands extremum last_near first_near greatest range turns range_to turns_to lesser greater neg add sub mul div lt le is_nan round of_int of_bits
at_a_tenth = refl

at_nine_tenths : turning_point (replicate 9 zero ++ (two ∷ zero ∷ [])) ≡ None
unfolding turning_point chosen stands extremum last_near first_near greatest range turns range_to turns_to lesser greater neg add sub mul div lt le is_nan round of_int of_bits
at_nine_tenths = refl
