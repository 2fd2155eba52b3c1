-- Reading a decimal text: the number that digits with at most one '.' stand for, in units of 10 ^ -151, and the f32 nearest to it.
use Rattle.std.specs.Prelude.{ℕ, ◌+◌, ◌-◌, ◌*◌, ◌/◌, ◌^◌, true, false, cond, List, [], ◌∷◌, eqb, Float}
use Rattle.std.specs.Float.{binary32}
use Rattle.std.specs.Float.Ieee.{round}

-- digits behind the '.': the first stands for `place` units
unfoldable pub read_fraction : ℕ → List ℕ → ℕ
read_fraction place [] = 0
read_fraction place (c ∷ cs) = (c - 48) * place + read_fraction (place / 10) cs

-- digits from the front on: `ahead` is what those before stand for
unfoldable pub read_number : ℕ → List ℕ → ℕ
read_number ahead [] = ahead * 10 ^ 151
read_number ahead (c ∷ cs) = cond (eqb c 46) (ahead * 10 ^ 151 + read_fraction (10 ^ 150) cs) (read_number (ahead * 10 + (c - 48)) cs)

-- the nearest f32, ties to even, to what a text with or without '-' stands for
unfoldable pub float_of : List ℕ → Float
float_of [] = round binary32 false 0 (10 ^ 151)
float_of (c ∷ cs) =
    cond (eqb c 45) (round binary32 true (read_number 0 cs) (10 ^ 151)) (round binary32 false (read_number 0 (c ∷ cs)) (10 ^ 151))
