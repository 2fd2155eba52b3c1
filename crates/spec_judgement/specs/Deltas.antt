-- deltas.rs: the advice for a shape against its best component: the two largest differences beyond one tolerance, in order.
use Rattle.std.specs.Prelude.{Bool, true, cond, ◌&&◌, Option, Some, None, List, get_or, Float}
use Rattle.std.specs.Float.{nan, binary64}
use Rattle.std.specs.Float.Ieee.{sub, mul, div, lt}
use Rattle.std.specs.Float.Ieee.Scale.{finite}
use Rattle.tonekit_core.specs.declared.DeltaKind.{DeltaKind}
use Rattle.tonekit_core.specs.declared.DeltaKind.TheVariants.{StartHigher, StartLower, EndHigher, EndLower, TurnEarlier, TurnLater, WiderRange, NarrowerRange}
use Rattle.spec_arithmetic.specs.Narrow.{narrowed}
use Rattle.spec_arithmetic.specs.Magnitude.{magnitude}
use Rattle.spec_shape.specs.Turning.{turning_point}
use Rattle.spec_shape.specs.Range.{range_in}
use Rattle.spec_shape.specs.declared.ToneShape.{ToneShape}
use Rattle.spec_arithmetic.specs.Constants.{zero64, one64}
use Rattle.spec_judgement.specs.declared.Tolerance.{Tolerance}
use Rattle.spec_judgement.specs.declared.Delta.{Delta}
use Rattle.spec_judgement.specs.declared.Deltas.{Deltas}

abbrev pub no_deltas : Deltas
no_deltas = record { first = None; second = None }

-- a stable order, largest first, of which two are kept: a later one stands before an earlier only where it is larger
abbrev pub above : Option Delta → Float → Bool
above None z = true
above (Some d) z = lt d.z z

unfoldable pub kept : Deltas → Delta → Deltas
kept ds d =
    cond (above ds.first d.z) (record { first = Some d; second = ds.first })
    (cond (above ds.second d.z) (record { first = ds.first; second = Some d }) ds)

-- `offer`: kept where |z| exceeds 1 and both are finite
unfoldable pub offer : Deltas → Float → DeltaKind → Float → Deltas
offer ds z kind amount =
    cond (finite z && (lt one64 (magnitude z) && finite (narrowed amount)))
    (kept ds (record { z = magnitude z; kind = kind; amount = narrowed amount })) ds

-- a difference at an end, or in range: below, the first kind; else the second
unfoldable pub offer_end : Deltas → Float → Float → DeltaKind → DeltaKind → Deltas
offer_end ds d s below other = offer ds (div binary64 d s) (cond (lt d zero64) below other) (magnitude d)

-- turning-point time, only where both have one; the amount is in milliseconds
unfoldable pub offer_turn : Deltas → Option Float → Option Float → Float → Float → Deltas
offer_turn ds (Some own) (Some u) duration s =
    let du = sub binary64 own u in
    offer ds (div binary64 du s) (cond (lt zero64 du) TurnEarlier TurnLater) (mul binary64 (magnitude du) duration)
offer_turn ds own u duration s = ds

-- the two ends, and the two that are read off the contour, of which range is max − min of the points; each by its σ, widened as for scoring
unfoldable pub end_deltas : ToneShape → List Float → Tolerance → Float → Deltas
end_deltas x points t widen =
    let onset = offer_end no_deltas (sub binary64 (get_or x.contour 0 nan) (get_or points 0 nan)) (mul binary64 t.onset widen) StartHigher StartLower in
    offer_end onset (sub binary64 (get_or x.contour 9 nan) (get_or points 9 nan)) (mul binary64 t.offset widen) EndHigher EndLower

unfoldable pub inner_deltas : Deltas → ToneShape → List Float → Tolerance → Float → Deltas
inner_deltas ends x points t widen =
    let turn = offer_turn ends x.turning (turning_point points) x.duration (mul binary64 t.turning widen) in
    offer_end turn (sub binary64 x.range (range_in binary64 points)) (mul binary64 t.contour widen) WiderRange NarrowerRange

-- `compute`: onset, offset, turning point and range, in this order; only the ends where the shape is too short
unfoldable pub deltas_of : ToneShape → List Float → Tolerance → Float → Bool → Deltas
deltas_of x points t widen ends_only =
    let ends = end_deltas x points t widen in
    cond ends_only ends (inner_deltas ends x points t widen)
