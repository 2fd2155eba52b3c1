-- Minimum and maximum: "of a NaN and a number give the number; of two zeros the earlier stays".
use Rattle.std.specs.Prelude.{cond, is_nan, Float}
use Rattle.std.specs.Float.Ieee.{lt}

-- minimum: b where a is a NaN or b is below a, else a; so of two that are equal, as two zeros are, the earlier
unfoldable pub lesser : Float → Float → Float
lesser a b = cond (is_nan a) b (cond (lt b a) b a)

-- maximum, by the same rule
unfoldable pub greater : Float → Float → Float
greater a b = cond (is_nan a) b (cond (lt a b) b a)
