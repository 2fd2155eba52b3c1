-- Marks of lists, mixed number by number. Equal lists have one mark, so lists of different marks need not be compared.
use Rattle.std.specs.Prelude.{ℕ, ◌+◌, ◌*◌, ◌/◌, ◌%◌}

-- a mark so far, and one more number
abbrev pub mixed : ℕ → ℕ → ℕ
mixed m b = m % 16777216 * 33 + b / 256 + b % 256
