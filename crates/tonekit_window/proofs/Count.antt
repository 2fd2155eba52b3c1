-- The turn of the loop that counts voiced frames.
use Rattle.std.proofs.Common.{ℕ, ◌+◌, cond, List}
use Rattle.spec_shape.specs.Chao.{voiced}

abbrev pub count_turn : List ℕ → ℕ → ℕ → ℕ → ℕ
count_turn frames first j c = cond (voiced frames (first + j)) (c + 1) c
