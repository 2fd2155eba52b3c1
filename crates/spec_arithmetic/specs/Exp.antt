-- exp as document 01's Arithmetic section writes it, with the split LN2 of document 02's Ask 10: f64 operations, each rounded once, in this
-- order.
use Rattle.std.specs.Prelude.{ℕ, zero, suc, ◌+◌, ◌-◌, ◌*◌, ◌/◌, true, false, cond, ℤ, pos, neg_ℤ, is_nan, Float}
use Rattle.std.specs.Float.{nan, inf, fin, binary64}
use Rattle.std.specs.Float.Ieee.{up, down, add, sub, mul, div, neg, lt, of_int}
use Rattle.spec_arithmetic.specs.Constants.{LN2_HI, LN2_LO, LOG2E, half, one64, bound, whole64}

-- "floor": the whole number at or below x
unfoldable pub floor_of : Float → ℤ
floor_of (fin false m e) = pos (m * up e / down e)
floor_of (fin true m e) = neg_ℤ (pos ((m * up e + (down e - 1)) / down e))
floor_of x = pos 0

-- "for j from [k] down to 1, q becomes 1 + (r·q)/j"
unfoldable pub exp_horner : ℕ → Float → Float → Float
exp_horner zero r q = q
exp_horner (suc j) r q = exp_horner j r (add binary64 one64 (div binary64 (mul binary64 r q) (whole64 (suc j))))

-- "q = 1; for j from 13 down to 1 .."
unfoldable pub exp_series : Float → Float
exp_series r = exp_horner 13 r one64

-- "r becomes (v − n·hi) − n·lo"
unfoldable pub rest : Float → Float → Float
rest v n = sub binary64 (sub binary64 v (mul binary64 n LN2_HI)) (mul binary64 n LN2_LO)

-- ".. result q·2^n"
unfoldable pub exp_by : Float → ℤ → Float
exp_by v n = mul binary64 (exp_series (rest v (of_int binary64 n))) (fin false 1 n)

-- "NaN gives NaN, below −708 it is 0, above 708 +infinity. Else n = floor(v·LOG2E + 0.5) .."
unfoldable pub exp_of : Float → Float
exp_of v =
    cond (is_nan v) nan
    (cond (lt v (neg bound)) (fin false 0 (pos 0))
    (cond (lt bound v) (inf false) (exp_by v (floor_of (add binary64 (mul binary64 v LOG2E) half)))))
