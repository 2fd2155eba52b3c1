-- The input of document 01's program `station`: "reads u16 pack length, pack, query from standard input"; of `station_sheet` with a sheet in the pack's place.
use Rattle.std.specs.Prelude.{ℕ, List, take, drop}
use Rattle.spec_arithmetic.specs.Fields.{u16_at}

-- "missing length bytes are 0; a length past the input's end takes what is there"
abbrev pub held_of : List ℕ → List ℕ
held_of s = take (u16_at s 0) (drop 2 s)

abbrev pub query_of : List ℕ → List ℕ
query_of s = drop (u16_at s 0) (drop 2 s)
