-- `turning_point` and `extremum` of fit.rs and deltas.rs: the interior minimum or maximum that stands at least 0.5 beyond both ends, at a fraction in (0.1, 0.9).
use Rattle.std.specs.Prelude.{ℕ, ◌+◌, ◌-◌, Bool, true, cond, ◌&&◌, List, ltb, length, get_or, Float, Option, Some, None}
use Rattle.std.specs.Float.{nan, inf, binary64}
use Rattle.std.specs.Float.Ieee.{neg, sub, mul, div, lt, le, of_bits}
use Rattle.tonekit_core.specs.Loop.{stop, next, range, range_to}
use Rattle.spec_arithmetic.specs.Constants.{half, one64, whole64}
use Rattle.spec_arithmetic.specs.Pick.{lesser, greater}
use Rattle.spec_shape.specs.declared.Extreme.{Extreme}
use Rattle.spec_shape.specs.declared.Excursion.{Excursion}

-- the greatest of sign · v, from −infinity, in order
unfoldable pub greatest : List Float → Float → Float
greatest l sign = range (λ j best. greater best (mul binary64 sign (get_or l j nan))) 0 (length l) (inf true)

-- close enough to the greatest to be the same plateau: PLATEAU_EPS 1e-9
abbrev pub near : Float → Float → Float → Bool
near sign best v = le (sub binary64 best (of_bits binary64 0x3e11_2e0b_e826_d695)) (mul binary64 sign v)

-- the first frame of the plateau, or 0
unfoldable pub first_near : List Float → Float → Float → ℕ
first_near l sign best = range_to (λ j (u : ℕ). cond (near sign best (get_or l j nan)) (stop j) (next u)) (λ u. 0) 0 (length l) 0

-- the last one, or d
unfoldable pub last_near : List Float → Float → Float → ℕ → ℕ
last_near l sign best d = range (λ j found. cond (near sign best (get_or l j nan)) j found) 0 (length l) d

-- `extremum`: maxima with sign 1, minima with sign −1; the centre of the plateau
unfoldable pub extremum : List Float → Float → Extreme
extremum l sign =
    let best = greatest l sign in
    let first = first_near l sign best in
    record { value = mul binary64 sign best; index = mul binary64 half (whole64 (first + last_near l sign best first)) }

-- a candidate: how far it stands beyond the nearer end, and where. TURN_MIN_EXCURSION is one half, TURN_INTERIOR (0.1, 0.9)
unfoldable pub stands : Excursion → Bool
stands e = le half e.size && lt (of_bits binary64 0x3fb9_9999_9999_999a) e.at && lt e.at (of_bits binary64 0x3fec_cccc_cccc_cccd)

-- "max_by keeps the last": of equal excursions the maximum's, which stands second
unfoldable pub chosen : Excursion → Excursion → Option Float
chosen low high =
    cond (stands high) (cond (stands low && lt high.size low.size) (Some low.at) (Some high.at)) (cond (stands low) (Some low.at) None)

unfoldable pub turning_point : List Float → Option Float
turning_point l =
    let last = length l - 1 in
    let bottom = extremum l (neg one64) in
    let top = extremum l one64 in
    cond (ltb (length l) 3) None
    (chosen
    (record {
      size = lesser (sub binary64 (get_or l 0 nan) bottom.value) (sub binary64 (get_or l last nan) bottom.value);
      at = div binary64 bottom.index (whole64 last);
    })
    (record {
      size = lesser (sub binary64 top.value (get_or l 0 nan)) (sub binary64 top.value (get_or l last nan));
      at = div binary64 top.index (whole64 last);
    }))
