-- The Rust's `abs`, and its `total_cmp` among what `abs` gives.
use Rattle.std.specs.Prelude.{Bool, false, not, ◌&&◌, ◌||◌, is_nan, Float}
use Rattle.std.specs.Float.{float_with_sign}
use Rattle.std.specs.Float.Ieee.{le}

-- `x.abs()`: the sign cleared, that of a zero too
abbrev pub magnitude : Float → Float
magnitude = float_with_sign false

-- `a.total_cmp(&b)` is not `Greater`, for a and b whose sign bit is clear: there a NaN is above infinity, and the order of the rest is that of numbers
unfoldable pub total_le : Float → Float → Bool
total_le a b = is_nan b || (not (is_nan a) && le a b)
