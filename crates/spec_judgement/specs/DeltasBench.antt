-- Worked cases for deltas, and the order of two, by computing.
use Rattle.std.specs.Prelude.{◌≡◌, refl, true, Some, None, [], ◌∷◌, replicate, Float}
use Rattle.std.specs.Float.{binary32, binary64, float_with_sign}
use Rattle.std.specs.Float.Ieee.{add, sub, mul, div, lt, round, of_bits}
use Rattle.tonekit_core.specs.declared.DeltaKind.TheVariants.{StartLower, EndLower, TurnEarlier}
use Rattle.spec_arithmetic.specs.Narrow.{narrowed}
use Rattle.spec_shape.specs.declared.ToneShape.{ToneShape}
use Rattle.spec_judgement.specs.Deltas.{no_deltas, kept, offer, offer_end, offer_turn, end_deltas, deltas_of}
use Rattle.spec_judgement.specs.declared.Deltas.{Deltas}

abbrev pub half : Float
half = of_bits binary32 0x3f00_0000

abbrev pub more : Float
more = of_bits binary32 0x3f40_0000

abbrev one : Float
one = of_bits binary32 0x3f80_0000

abbrev pub three : Float
three = of_bits binary32 0x4040_0000

abbrev pub zero : Float
zero = of_bits binary32 0

-- a shape level at 3 but for its ends, which lie so much higher
abbrev pub raised : Float → Float → ToneShape
raised onset offset = record {
  contour = add binary32 three onset ∷ three ∷ three ∷ three ∷ three ∷ three ∷ three ∷ three ∷ three ∷ add binary32 three offset ∷ [];
  weights = replicate 10 one;
  mean = three;
  slope = zero;
  curvature = zero;
  turning = None;
  range = zero;
  duration = zero;
  fraction = one;
  confidence = one;
  frames = 8;
}

-- its advice against a component level at 3, with tolerance 0.5, unwidened
abbrev pub advice : Float → Float → Deltas
advice onset offset =
    deltas_of (raised onset offset) (replicate 10 three) (record { contour = half; onset = half; offset = half; turning = half }) one true

-- "Onset tolerance 0.5, unwidened: 0.5 high gives no delta, 0.75 StartLower"
pub half_high : advice half zero ≡ no_deltas
unfolding deltas_of end_deltas offer_end offer kept add sub mul div lt round of_bits narrowed float_with_sign
half_high = refl

pub three_quarters_high : advice more zero ≡ record { first = Some (record { z = of_bits binary32 0x3fc0_0000; kind = StartLower; amount = more }); second = None }
unfolding deltas_of end_deltas offer_end offer kept add sub mul div lt round of_bits narrowed float_with_sign
three_quarters_high = refl

-- of two that are equal the onset stands first; a larger offset stands before it
pub equal_ends : advice more more
    ≡ record {
      first = Some (record { z = of_bits binary32 0x3fc0_0000; kind = StartLower; amount = more });
      second = Some (record { z = of_bits binary32 0x3fc0_0000; kind = EndLower; amount = more });
    }
unfolding deltas_of end_deltas offer_end offer kept add sub mul div lt round of_bits narrowed float_with_sign
equal_ends = refl

pub larger_end : advice more one
    ≡ record {
      first = Some (record { z = of_bits binary32 0x4000_0000; kind = EndLower; amount = one });
      second = Some (record { z = of_bits binary32 0x3fc0_0000; kind = StartLower; amount = more });
    }
unfolding deltas_of end_deltas offer_end offer kept add sub mul div lt round of_bits narrowed float_with_sign
larger_end = refl

-- each end by its own tolerance: 0.75 high is within 1 at the start, beyond 0.5 at the end
pub own_tolerance : deltas_of (raised more more) (replicate 10 three) (record { contour = half; onset = one; offset = half; turning = half }) one true
    ≡ record { first = Some (record { z = of_bits binary32 0x3fc0_0000; kind = EndLower; amount = more }); second = None }
unfolding deltas_of end_deltas offer_end offer kept add sub mul div lt round of_bits narrowed float_with_sign
own_tolerance = refl

-- a turn at a half against one at a quarter, in 1 ms, by a tolerance of an eighth: late, so earlier is advised
pub late_turn : offer_turn no_deltas (Some half) (Some (of_bits binary64 0x3fd0_0000_0000_0000)) one (of_bits binary64 0x3fc0_0000_0000_0000)
    ≡ record { first = Some (record { z = of_bits binary32 0x4000_0000; kind = TurnEarlier; amount = of_bits binary32 0x3e80_0000 }); second = None }
unfolding offer_turn offer kept sub mul div lt round of_bits narrowed float_with_sign
late_turn = refl
