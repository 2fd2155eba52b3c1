-- A finite value as a fraction.
use Rattle.std.specs.Prelude.{ℕ, ◌+◌, ◌*◌, ◌≤◌, true, false, T, Float}
use Rattle.std.specs.Float.{nan, inf, fin}
use Rattle.std.specs.Float.Ieee.{up}
use Rattle.std.specs.Float.Ieee.Positive.{den}
use Rattle.std.specs.Float.Ieee.Scale.{finite}

-- a finite value is the fraction (pos_part - neg_part) / den
abbrev pub pos_part : Float → ℕ
pos_part nan = 0
pos_part (inf s) = 0
pos_part (fin true m e) = 0
pos_part (fin false m e) = m * up e

abbrev pub neg_part : Float → ℕ
neg_part nan = 0
neg_part (inf s) = 0
neg_part (fin true m e) = m * up e
neg_part (fin false m e) = 0

-- x is finite, and of size at most the whole number n
pub record Within (n : ℕ) (x : Float) : Type 0 where
  pub real : T (finite x)
  pub small : pos_part x + neg_part x ≤ n * den x
