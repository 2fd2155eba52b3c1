-- What the call that writes a sheet makes of a pack: "the call that writes a sheet writes exactly these, or answers 9".
use Rattle.std.specs.Prelude.{List, ℕ}
use Rattle.tonekit_core.specs.Calls.{Outcome, written}
use Rattle.tonekit_core.specs.Calls as calls
use Rattle.spec_arithmetic.specs.Files.{Out, loaded, refused}
use Rattle.spec_pack.specs.Pack.{PackRead, load_pack}
use Rattle.spec_lookup.specs.Source.{source_of_pack}
use Rattle.spec_sheet.specs.Sheet.{sheet}

abbrev pub sheet_of : List ℕ → Out PackRead → Outcome
sheet_of s (loaded st e) = written (sheet (source_of_pack s st))
sheet_of s (refused r place) = calls.refused r place

unfoldable pub sheet_outcome : List ℕ → Outcome
sheet_outcome s = sheet_of s (load_pack s)
