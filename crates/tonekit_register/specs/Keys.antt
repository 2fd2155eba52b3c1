-- What functions take and give of f32s that are kept as keys.
use Rattle.std.specs.Prelude.{ℕ, ◌≡◌, List, map, Float}
use Rattle.std.specs.List.{All}
use Rattle.tonekit_rank.specs.Rank.{Number, key_of, value_of, sorted}

-- these are the keys of f32s, all of them numbers
pub record KeysOf (keys : List ℕ) (st : List Float) : Type 0 where
  pub are : keys ≡ map key_of st
  pub numbers : All Number st

-- the f32s of keys, in ascending order
abbrev pub ascending_values : List ℕ → List Float
ascending_values keys = map value_of (sorted keys)
