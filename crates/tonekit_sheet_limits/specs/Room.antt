-- "13,338 bytes always suffice."
use Rattle.std.specs.Prelude.{ℕ, ◌≤◌, ◌≡◌, List, length}
use Rattle.spec_arithmetic.specs.Files.{loaded}
use Rattle.spec_pack.specs.Pack.{PackRead, read_pack}
use Rattle.spec_lookup.specs.Source.{source_of_pack}
use Rattle.spec_sheet.specs.Sheet.{sheet}

-- n is that number, and no sheet of a pack that loads is longer
pub record Suffices (n : ℕ) : Type 0 where
  -- written out, so that the layout's name is held to it
  pub number : n ≡ 13338
  pub enough : (s : List ℕ) (st : PackRead) (e : ℕ) → read_pack s ≡ loaded st e → length (sheet (source_of_pack s st)) ≤ n
