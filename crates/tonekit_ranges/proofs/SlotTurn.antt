-- A turn of the loop over ten slots, by name.
use Rattle.std.specs.Prelude.{ℕ, Bool, ◌&&◌, List}
use Rattle.spec_pack.specs.Ranges.{slot_fine}

abbrev pub slot_turn : List ℕ → ℕ → ℕ → ℕ → Bool → Bool
slot_turn s o n k ok = ok && slot_fine s o n k
