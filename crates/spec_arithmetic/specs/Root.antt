-- The square root of an f64: "square root round[s] to nearest, ties to even (IEEE 754)", and "is proved against whole-number squares".
use Rattle.std.specs.Prelude.{ℕ, zero, suc, ◌+◌, ◌-◌, ◌*◌, ◌/◌, ◌^◌, true, false, cond, leb, ltb, Float}
use Rattle.std.specs.Float.{nan, inf, fin, binary64}
use Rattle.std.specs.Float.Ieee.{up, down, size, round}

-- the whole square root of an n below 4 ^ k, digit by digit: the greatest r with r·r ≤ n
unfoldable pub isqrt : ℕ → ℕ → ℕ
isqrt zero n = 0
isqrt (suc k) n = let r = 2 * isqrt k (n / 4) in cond (leb ((r + 1) * (r + 1)) n) (r + 1) r

-- the whole number nearest to the root of an n below 4 ^ 53: s + 1 where the root is past s + 1/2. It is never a tie, as n would be s·s + s + 1/4
unfoldable pub nearest_root : ℕ → ℕ
nearest_root n = let s = isqrt 53 n in cond (ltb (s * s + s) n) (s + 1) s

-- the root of x units of 2 ^ -1074. x is scaled by a power of 4, exactly, to a number n of 105 or 106 digits, so that its root has 53, the digits
-- of an f64: the result is the whole number nearest to the root of n, scaled back
unfoldable pub root_units : ℕ → Float
root_units x =
    let k = (106 - size x) / 2 in
    let l = (size x - 105) / 2 in
    round binary64 false (nearest_root (x * 4 ^ k / 4 ^ l) * 2 ^ l) (2 ^ (k + 537))

-- the root of every f64: of a zero that zero, of +infinity itself, of a negative number and of NaN it is NaN
unfoldable pub root_of : Float → Float
root_of (inf false) = inf false
root_of (fin s zero e) = fin s zero e
root_of (fin false (suc m) e) = root_units (suc m * up e * 2 ^ 1074 / down e)
root_of x = nan
