-- The mark of what a list's components carry.
use Rattle.std.specs.Prelude.{ℕ, ◌+◌, ◌/◌, ◌%◌, List}
use Rattle.tonekit_core.specs.Loop.{fold}
use Rattle.spec_lookup.specs.Source.{Carried}
use Rattle.tonekit_sheet.specs.Marks.{mixed}

-- weight and points of one more component
unfoldable pub component_mark : ℕ → Carried → ℕ
unfolding fold
component_mark m c = fold mixed (mixed m c.weight) c.points

-- the mark of a list: a byte, on which the lowest bits bear too
abbrev pub byte_of : ℕ → ℕ
byte_of m = (m % 256 + m / 256 % 256 + m / 65536 % 256) % 256

unfoldable pub mark_of : List Carried → ℕ
unfolding fold
mark_of v = byte_of (fold component_mark 0 v)
