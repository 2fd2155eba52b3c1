-- `expand_knots` of the Rust: the knots, at equal distances, drawn out to ten points by straight lines. The operations are the Rust's, in its order.
use Rattle.std.specs.Prelude.{ℕ, zero, suc, ◌+◌, ◌-◌, ◌*◌, ◌≤◌, ◌<◌, true, false, cond, List, [], ◌∷◌, ◌++◌, pos, eqb, min, length, get_or, Float}
use Rattle.std.specs.Float.{nan, fin, binary32, binary64}
use Rattle.std.specs.Float.Ieee.{add, sub, mul}
use Rattle.tonekit_core.specs.declared.layout.TheConstants.{F32_SIZE}
use Rattle.spec_arithmetic.specs.Whole.{whole_part}
use Rattle.spec_arithmetic.specs.Narrow.{narrowed}
use Rattle.spec_arithmetic.specs.Bounds.{In}
use Rattle.spec_arithmetic.specs.Fields.{f32_at}
use Rattle.spec_arithmetic.specs.Position.{position}
use Rattle.spec_arithmetic.specs.Constants.{whole64}

-- the knot at or before point i, but never the last one
unfoldable pub segment : ℕ → ℕ → ℕ
segment i last = min (whole_part (position i last)) (last - 1)

-- how far past that knot the point lies
unfoldable pub past_knot : ℕ → ℕ → Float
past_knot i last = sub binary64 (position i last) (whole64 (segment i last))

-- the point at t of the line from a to b: the knots' difference is an f32, the rest f64, narrowed at the end
unfoldable pub on_line : Float → Float → Float → Float
on_line a b t = narrowed (add binary64 a (mul binary64 t (sub binary32 b a)))

unfoldable pub point_at : List Float → ℕ → Float
point_at knots i =
    let last = length knots - 1 in
    let j = segment i last in
    cond (eqb last 0) (get_or knots 0 nan)
    (cond (eqb (length knots) 10) (get_or knots i nan)
    (cond (eqb i 9) (get_or knots last nan) (on_line (get_or knots j nan) (get_or knots (j + 1) nan) (past_knot i last))))

-- the first n points
unfoldable pub first_points : List Float → ℕ → List Float
first_points knots zero = []
first_points knots (suc n) = first_points knots n ++ (point_at knots n ∷ [])

abbrev pub expanded : List Float → List Float
expanded knots = first_points knots 10

-- n knots from an offset on
unfoldable pub knots_at : List ℕ → ℕ → ℕ → List Float
knots_at s o zero = []
knots_at s o (suc n) = knots_at s o n ++ (f32_at s (o + F32_SIZE * n) ∷ [])

-- of size at most 100, and at most 128
abbrev pub Knot : Float → Type 0
Knot x = In (fin true 25 (pos 2)) (fin false 25 (pos 2)) x

abbrev pub Point : Float → Type 0
Point x = In (fin true 1 (pos 7)) (fin false 1 (pos 7)) x

-- one to ten knots of size at most 100
pub record Knots (knots : List Float) : Type 0 where
  pub some : 1 ≤ length knots
  pub few : length knots ≤ 10
  pub each : (k : ℕ) → k < length knots → Knot (get_or knots k nan)
