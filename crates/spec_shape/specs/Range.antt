-- The greatest of ten points less the least, in a format.
use Rattle.std.specs.Prelude.{true, false, List, get_or, Float}
use Rattle.std.specs.Float.{Format, nan, inf}
use Rattle.std.specs.Float.Ieee.{sub}
use Rattle.tonekit_core.specs.Loop.{range}
use Rattle.spec_arithmetic.specs.Pick.{lesser, greater}

unfoldable pub range_in : Format → List Float → Float
range_in format l =
    let most = range (λ k t. greater t (get_or l k nan)) 0 10 (inf true) in
    let least = range (λ k t. lesser t (get_or l k nan)) 0 10 (inf false) in
    sub format most least
