-- The turns of the loops over a curve.
use Rattle.std.proofs.Common.{ℕ, cond, List, get_or, Float}
use lib.Ieee.{nan, binary64, mul}
use Rattle.tonekit_core.specs.Loop.{Turn, stop, next}
use Rattle.spec_arithmetic.specs.Pick.{lesser, greater}
use Rattle.spec_shape.specs.Turning.{near}

abbrev pub lesser_turn : List Float → ℕ → Float → Float
lesser_turn l k t = lesser t (get_or l k nan)

abbrev pub greater_turn : List Float → ℕ → Float → Float
greater_turn l k t = greater t (get_or l k nan)

abbrev pub greater_at : List Float → Float → ℕ → Float → Float
greater_at l sign j best = greater best (mul binary64 sign (get_or l j nan))

abbrev pub first_turn : List Float → Float → Float → ℕ → ℕ → Turn ℕ ℕ
first_turn l sign best j u = cond (near sign best (get_or l j nan)) (stop j) (next u)

abbrev pub last_turn : List Float → Float → Float → ℕ → ℕ → ℕ
last_turn l sign best j found = cond (near sign best (get_or l j nan)) j found
