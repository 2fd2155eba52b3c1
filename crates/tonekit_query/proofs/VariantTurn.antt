-- A turn of the loop over four variants, by name.
use Rattle.std.specs.Prelude.{ℕ, Bool, ◌&&◌, List}
use Rattle.spec_query.specs.Query.{variant_fine}

abbrev pub variant_turn : List ℕ → ℕ → Bool → Bool
variant_turn s i ok = ok && variant_fine s i
