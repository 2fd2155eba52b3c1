-- chao.rs: semitones, Chao values, and the definition of a voiced frame. The operations are the Rust's, in its order.
use Rattle.std.specs.Prelude.{ℕ, Bool, cond, ◌&&◌, List, is_some, Float}
use Rattle.std.specs.Float.{binary64}
use Rattle.std.specs.Float.Ieee.{add, sub, mul, div, lt}
use Rattle.std.specs.Float.Ieee.Scale.{finite}
use Rattle.spec_arithmetic.specs.Constants.{zero64, one64, whole64}
use Rattle.spec_arithmetic.specs.Log.{log2_of}
use Rattle.spec_query.specs.Frames.{frame_at}

-- `hz_to_st_f64`: semitones re 55 Hz
unfoldable pub hz_to_st : Float → Float
hz_to_st hz = mul binary64 (whole64 12) (log2_of (div binary64 hz (whole64 55)))

-- the register's width, or 4 where that is not a finite number above 0
unfoldable pub width_of : Float → Float → Float
width_of floor ceil =
    let width = sub binary64 ceil floor in
    cond (finite width && lt zero64 width) width (whole64 4)

-- `st_to_chao_f64`: 1 + 4 · (st − floor) / width, unclamped
unfoldable pub st_to_chao : Float → Float → Float → Float
st_to_chao floor width st = add binary64 one64 (div binary64 (mul binary64 (whole64 4) (sub binary64 st floor)) width)

-- whether a frame is voiced
abbrev pub voiced : List ℕ → ℕ → Bool
voiced frames i = is_some (frame_at frames i)
