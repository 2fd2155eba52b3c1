-- The turns of the loops over a part's frames and a contour.
use Rattle.std.proofs.Common.{ℕ, ◌+◌, cond, List, get_or, Float}
use lib.Ieee.{nan, binary32, add}
use Rattle.spec_shape.specs.Chao.{voiced, st_to_chao}
use Rattle.spec_shape.specs.Extract.{Filled, gap_filled}
use Rattle.tonekit_shape.specs.Promises.{confidence_added}

abbrev pub hole_turn : List ℕ → ℕ → ℕ → Filled → Filled
hole_turn frames first j s =
    cond (voiced frames (first + j)) (record { curve = gap_filled s.prev j s.curve; prev = j }) s

abbrev pub chao_of : Float → Float → List Float → ℕ → Float
chao_of floor width l j = st_to_chao floor width (get_or l j nan)

abbrev pub add_turn : List Float → ℕ → Float → Float
add_turn l k t = add binary32 t (get_or l k nan)

abbrev pub confidence_turn : List ℕ → ℕ → ℕ → Float → Float
confidence_turn frames first j t = confidence_added frames (first + j) t
