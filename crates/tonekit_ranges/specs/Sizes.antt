-- What the test of a float's size says.
use Rattle.std.specs.Prelude.{Bool, ◌&&◌, Float}
use Rattle.std.specs.Float.Ieee.{le, neg}

-- of size at most `most`
unfoldable pub within : Float → Float → Bool
within x most = le (neg most) x && le x most
