-- fit.rs: least-squares fits over the truly voiced frames of the voiced part. Frame j of the part is frame first + j of the query. Sums begin at +0.
use Rattle.std.specs.Prelude.{ℕ, zero, suc, ◌+◌, ◌-◌, cond, List, [], ◌∷◌, length, get_or, set, replicate, Float}
use Rattle.std.specs.Float.{nan, binary64}
use Rattle.std.specs.Float.Ieee.{add, sub, mul, div, lt, of_bits}
use Rattle.tonekit_core.specs.Loop.{stop, next, range, range_to}
use Rattle.spec_arithmetic.specs.Constants.{zero64, one64, whole64}
use Rattle.spec_arithmetic.specs.Magnitude.{magnitude, total_le}
use Rattle.spec_shape.specs.Chao.{voiced}
use Rattle.spec_shape.specs.declared.Moments.{Moments}

-- the part: its frames' bytes, its first frame, its curve in Chao values
pub record Part : Type 0 where
  pub frames : List ℕ
  pub first : ℕ
  pub chao : List Float

-- a walk over the voiced frames: a step goes from the state before it, by the frame's place in the part and its Chao value
abbrev pub walk : {S : Type 0} → Part → (S → ℕ → Float → S) → S → S
walk {S} p step s = range (λ j (t : S). cond (voiced p.frames (p.first + j)) (step t j (get_or p.chao j nan)) t) 0 (length p.chao) s

-- a sum over them, of a term that each has
abbrev pub voiced_sum : Part → (ℕ → Float → Float) → Float
voiced_sum p term = walk p (λ t j y. add binary64 t (term j y)) zero64

-- time in seconds, at 10 ms a frame: j · 0.01
abbrev pub seconds : ℕ → Float
seconds j = mul binary64 (whole64 j) (of_bits binary64 0x3f84_7ae1_47ae_147b)

-- `line_slope`: count is the number of voiced frames; 0 when the times do not vary
unfoldable pub line_slope : Part → ℕ → Float
line_slope p count =
    let mx = div binary64 (voiced_sum p (λ j y. seconds j)) (whole64 count) in
    let my = div binary64 (voiced_sum p (λ j y. y)) (whole64 count) in
    let sxx = voiced_sum p (λ j y. mul binary64 (sub binary64 (seconds j) mx) (sub binary64 (seconds j) mx)) in
    let sxy = voiced_sum p (λ j y. mul binary64 (sub binary64 (seconds j) mx) (sub binary64 y my)) in
    cond (lt zero64 sxx) (div binary64 sxy sxx) zero64

-- x ^ k, one factor after the other
unfoldable pub power : Float → ℕ → Float
power x zero = one64
power x (suc k) = mul binary64 (power x k) x

-- one point more: s_k sums x ^ k, and t_k sums x ^ k · y
unfoldable pub point_added : Float → Float → Moments → Moments
point_added x y m = record {
  s = range (λ k s. set s k (add binary64 (get_or s k nan) (power x k))) 0 5 m.s;
  t = range (λ k t. set t k (add binary64 (get_or t k nan) (mul binary64 (power x k) y))) 0 3 m.t;
}

-- x is the place in the part as a fraction, whose last frame is given, measured from the mean mx
unfoldable pub moments_of : Part → Float → Float → Moments
moments_of p last mx =
    walk p (λ m j y. point_added (sub binary64 (div binary64 (whole64 j) last) mx) y m) (record { s = replicate 5 zero64; t = replicate 3 zero64 })

-- "The fit is a 3 by 4 grid of numbers whose rows change places": a list of rows, and the normal equations for (a, b, c)
abbrev pub cell_of : List (List Float) → ℕ → ℕ → Float
cell_of m i j = get_or (get_or m i []) j nan

unfoldable pub normal_equations : Moments → List (List Float)
normal_equations m =
    let row = λ (k : ℕ). get_or m.s (k + 2) nan ∷ get_or m.s (k + 1) nan ∷ get_or m.s k nan ∷ get_or m.t k nan ∷ [] in
    row 2 ∷ row 1 ∷ row 0 ∷ []

-- partial pivoting: the row with the greatest size in the column, the later of equals
abbrev pub pivot_of : List (List Float) → ℕ → ℕ
pivot_of m col = range (λ i best. cond (total_le (magnitude (cell_of m best col)) (magnitude (cell_of m i col))) i best) (col + 1) 3 col

abbrev pub row_cleared : ℕ → ℕ → List (List Float) → List (List Float)
row_cleared col row m =
    let f = div binary64 (cell_of m row col) (cell_of m col col) in
    range (λ k t. set t row (set (get_or t row []) k (sub binary64 (cell_of t row k) (mul binary64 f (cell_of t col k))))) col 4 m

-- back-substitution for the first unknown
unfoldable pub first_unknown : List (List Float) → Float
first_unknown m =
    let c = div binary64 (cell_of m 2 3) (cell_of m 2 2) in
    let b = div binary64 (sub binary64 (cell_of m 1 3) (mul binary64 (cell_of m 1 2) c)) (cell_of m 1 1) in
    div binary64 (sub binary64 (sub binary64 (cell_of m 0 3) (mul binary64 (cell_of m 0 2) c)) (mul binary64 (cell_of m 0 1) b)) (cell_of m 0 0)

-- column by column the pivot's row changes places with the column's, and the rows below are cleared; a column without a pivot of 1e-12 at least: the points
-- do not determine a parabola
unfoldable pub lead_of : List (List Float) → Float
lead_of m =
    range_to
    (λ col t. let p = pivot_of t col in
    cond (lt (magnitude (cell_of t p col)) (of_bits binary64 0x3d71_9799_812d_ea11)) (stop zero64)
    (next (range (row_cleared col) (col + 1) 3 (set (set t col (get_or t p [])) p (get_or t col [])))))
    first_unknown 0 3 m

-- `quadratic_coefficient`: x is the fraction, measured from its mean
unfoldable pub quadratic_coefficient : Part → ℕ → Float
quadratic_coefficient p count =
    let last = whole64 (length p.chao - 1) in
    let mx = div binary64 (voiced_sum p (λ j y. div binary64 (whole64 j) last)) (whole64 count) in
    lead_of (normal_equations (moments_of p last mx))
