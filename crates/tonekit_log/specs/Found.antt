-- How the code finds the m and e of a number above 0, and what it owes where it looks for them.
use Rattle.std.specs.Prelude.{◌+◌, ◌/◌, ◌%◌, ◌^◌, ◌≡◌, cond, from_bits, to_bits, Float, Result, Ok, Err}
use Rattle.std.specs.Float.{binary64}
use Rattle.std.specs.Float.Ieee.{sub, mul, lt}
use Rattle.spec_arithmetic.specs.Constants.{whole64}
use Rattle.spec_arithmetic.specs.Log.{log_by}
use Rattle.spec_arithmetic.specs.declared.Parts.{Parts}

-- r is what x has of parts: Ok m and e, of which f is done, or Err what is given where there are none
abbrev pub IsPartsOf : Float → Result Parts Float → Type 0
IsPartsOf x (Ok p) = (f : Parts → Float) → log_by f x ≡ f p
IsPartsOf x (Err v) = (f : Parts → Float) → log_by f x ≡ v

-- 2 ^ 54, and the least f64 that is not subnormal
abbrev pub scale : Float
scale = from_bits binary64 0x4350_0000_0000_0000

abbrev pub least : Float
least = from_bits binary64 0x0010_0000_0000_0000

-- a normal number's: the digits with 1's exponent, and the exponent's field less its bias
unfoldable pub fields : Float → Parts
fields x = record { m = from_bits binary64 (0x3FF0_0000_0000_0000 + to_bits binary64 x % 2 ^ 52); e = sub binary64 (whole64 (to_bits binary64 x / 2 ^ 52)) (whole64 1023) }

-- "Subnormals are first scaled by 2^54, e lowered by 54"
unfoldable pub scaled : Float → Parts
unfolding fields
scaled x = cond (lt x least) (record { m = (fields (mul binary64 x scale)).m; e = sub binary64 (fields (mul binary64 x scale)).e (whole64 54) }) (fields x)
