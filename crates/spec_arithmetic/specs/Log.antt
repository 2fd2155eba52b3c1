-- ln and log2 as document 01's Arithmetic section writes them, ln with the split LN2 of document 02's Ask 10: f64 operations, each rounded
-- once, in this order.
use Rattle.std.specs.Prelude.{ℕ, zero, suc, ◌+◌, ◌-◌, ◌*◌, ◌/◌, ◌^◌, true, false, cond, from_bits, Float}
use Rattle.std.specs.Float.{nan, inf, fin, binary64}
use Rattle.std.specs.Float.Ieee.{add, sub, mul, div, lt, of_int, up, down, size, round, minus}
use Rattle.spec_arithmetic.specs.Constants.{LN2_HI, LN2_LO, LOG2E, half, one64, whole64}
use Rattle.spec_arithmetic.specs.declared.Parts.{Parts}

-- 1 / (2 j + 1)
abbrev pub recip : ℕ → Float
recip j = div binary64 one64 (whole64 (2 * j + 1))

-- "for j from [k - 1] down to 0 replace p by p·z + 1/(2j+1)"
unfoldable pub log_horner : ℕ → Float → Float → Float
log_horner zero z p = p
log_horner (suc j) z p = log_horner j z (add binary64 (mul binary64 p z) (recip j))

-- "s = (m−1)/(m+1), z = s·s. Start with p = 1/23, and for j from 10 down to 0 ..": (2·s)·p
unfoldable pub series : Float → Float
series m =
    let s = div binary64 (sub binary64 m one64) (add binary64 m one64) in
    mul binary64 (mul binary64 (from_bits binary64 0x4000_0000_0000_0000) s) (log_horner 11 (mul binary64 s s) (recip 11))

-- "write it m·2^e, m in [1, 2)", for a number of x units of 2 ^ -1074: with d digits in x, m is x / 2 ^ (d - 1) and e is d - 1075. Both are exact.
unfoldable pub parts_of : ℕ → Parts
parts_of x = record { m = round binary64 false x (2 ^ (size x - 1)); e = of_int binary64 (minus (size x) 1075) }

-- "if m > 1.4142135623730951, halve m and add 1 to e"
unfoldable pub centred : Parts → Parts
centred p = cond (lt (from_bits binary64 0x3FF6_A09E_667F_3BCD) p.m) (record { m = mul binary64 p.m half; e = add binary64 p.e one64 }) p

-- "Zero gives −infinity, +infinity itself, negatives and NaN give NaN"; of a number above 0, subnormal or not, m and e are its own
unfoldable pub log_by : (Parts → Float) → Float → Float
log_by f (inf false) = inf false
log_by f (fin s zero e) = inf true
log_by f (fin false (suc m) e) = f (centred (parts_of (suc m * up e * 2 ^ 1074 / down e)))
log_by f v = nan

-- "ln becomes e·hi + ((2·s)·p + e·lo)"
unfoldable pub ln_of : Float → Float
ln_of = log_by (λ p. add binary64 (mul binary64 p.e LN2_HI) (add binary64 (series p.m) (mul binary64 p.e LN2_LO)))

-- "log2 is e + ((2·s)·p)·LOG2E"
unfoldable pub log2_of : Float → Float
log2_of = log_by (λ p. add binary64 p.e (mul binary64 (series p.m) LOG2E))
