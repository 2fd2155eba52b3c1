-- f64 to f32.
use Rattle.std.specs.Prelude.{◌*◌, Float}
use Rattle.std.specs.Float.{nan, inf, fin, binary32}
use Rattle.std.specs.Float.Ieee.{up, down, round}

-- "f64 .. to f32 .. round to nearest, ties to even (IEEE 754)": the nearest f32, infinity from halfway past the largest on; a NaN stays one
unfoldable pub narrowed : Float → Float
narrowed nan = nan
narrowed (inf s) = inf s
narrowed (fin s m e) = round binary32 s (m * up e) (down e)
