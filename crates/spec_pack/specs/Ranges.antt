-- The ranges of document 01's fields, as tests on a record's bytes.
use Rattle.std.specs.Prelude.{ℕ, ◌+◌, ◌*◌, Bool, true, false, cond, ◌&&◌, List, eqb, ltb, pos, Float}
use Rattle.std.specs.Float.{inf, fin}
use Rattle.std.specs.Float.Ieee.{lt, le}
use Rattle.std.specs.Float.Ieee.Scale.{finite}
use Rattle.tonekit_core.specs.Loop.{range}
use Rattle.tonekit_core.specs.declared.layout.TheConstants.{F32_SIZE, REGION_FROM, REGION_TO, TOLERANCE_ONSET, TOLERANCE_OFFSET, TOLERANCE_TURNING, TAIL_FINAL, TAIL_ELSEWHERE}
use Rattle.spec_arithmetic.specs.Constants.{zero32, one32}
use Rattle.spec_arithmetic.specs.Fields.{byte_at, u32_at, f32_at}

-- "Temperature and tolerances are finite and above 0"
unfoldable pub above_zero : Float → Bool
above_zero x = lt zero32 x && lt x (inf false)

-- "prior and threshold above 0, at most 1"
unfoldable pub probability_fine : Float → Bool
probability_fine x = lt zero32 x && le x one32

-- "Knots number 1 to 10, size at most 100"
unfoldable pub knot_fine : Float → Bool
knot_fine x = le (fin true 25 (pos 2)) x && le x (fin false 25 (pos 2))

-- "weights finite, sign clear, zero allowed": the patterns below infinity's
unfoldable pub weight_fine : ℕ → Bool
weight_fine bits = ltb bits 0x7f80_0000

-- ten slots from an offset on, of which the first n are knots; "unused slots are zero bytes"
unfoldable pub slot_fine : List ℕ → ℕ → ℕ → ℕ → Bool
slot_fine s o n k = cond (ltb k n) (knot_fine (f32_at s (o + F32_SIZE * k))) (eqb (u32_at s (o + F32_SIZE * k)) 0)

unfoldable pub knots_fine : List ℕ → ℕ → ℕ → Bool
knots_fine s o n = range (λ k ok. ok && slot_fine s o n k) 0 10 true

-- "flag 0 or 1; regions finite, from ≤ to"; "from and to where the flag is 0, are zero bytes". The flag stands at o, from and to behind it
unfoldable pub region_fine : List ℕ → ℕ → Bool
region_fine s o =
    cond (eqb (byte_at s o) 0) (eqb (u32_at s (o + REGION_FROM)) 0 && eqb (u32_at s (o + REGION_TO)) 0)
    (eqb (byte_at s o) 1 && (finite (f32_at s (o + REGION_FROM)) && (finite (f32_at s (o + REGION_TO)) && le (f32_at s (o + REGION_FROM)) (f32_at s (o + REGION_TO)))))

-- "finite and of size at most 50": both values of the tail at an offset
unfoldable pub tail_fine : Float → Bool
tail_fine x = le (fin true 25 (pos 1)) x && le x (fin false 25 (pos 1))

unfoldable pub tails_fine : List ℕ → ℕ → Bool
tails_fine s o = tail_fine (f32_at s (o + TAIL_FINAL)) && tail_fine (f32_at s (o + TAIL_ELSEWHERE))

-- the four tolerances from an offset on
unfoldable pub tolerances_fine : List ℕ → ℕ → Bool
tolerances_fine s o =
    above_zero (f32_at s o) && (above_zero (f32_at s (o + TOLERANCE_ONSET)) && (above_zero (f32_at s (o + TOLERANCE_OFFSET)) && above_zero (f32_at s (o + TOLERANCE_TURNING))))
