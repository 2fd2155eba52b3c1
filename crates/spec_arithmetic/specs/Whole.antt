-- A float as an index: its whole part, and the next whole number up.
use Rattle.std.specs.Prelude.{ℕ, ◌+◌, ◌-◌, ◌*◌, ◌/◌, true, false, Float}
use Rattle.std.specs.Float.{nan, inf, fin}
use Rattle.std.specs.Float.Ieee.{up, down}

-- `x.floor() as usize` of an x that is not negative
unfoldable pub whole_part : Float → ℕ
whole_part (fin s m e) = m * up e / down e
whole_part x = 0

-- `x.ceil().max(0.0) as usize` of an x below 2 ^ 53
unfoldable pub round_up : Float → ℕ
round_up (fin false m e) = (m * up e + (down e - 1)) / down e
round_up x = 0
