-- A frame's mean with its neighbours, on a curve whose earlier frames are smoothed already. Assumes nothing.
use Rattle.std.proofs.Common.{ℕ, zero, suc, ◌+◌, ◌-◌, ◌≤◌, ◌<◌, ◌≡◌, refl, ap, List, arith, length, get_or, Float}
use lib.Ieee.{nan}
use Rattle.spec_shape.specs.Extract.{mean_with}
use Rattle.tonekit_shape.proofs.Fill.{Listed, listed_rest, listed_same}

-- the smoothed curve at frame j
abbrev pub smoothed_at : List Float → ℕ → Float
smoothed_at l j = mean_with l j (get_or l (j - 1) nan)

kept : (l : List Float) (j : ℕ) (b : Float) → (1 ≤ j → b ≡ get_or l (j - 1) nan) → mean_with l j b ≡ smoothed_at l j
unfolding mean_with
kept l zero b h = refl
kept l (suc j) b h = ap (mean_with l (suc j)) (h (omega arith))

pub smooth_turn : (l out : List Float) (j : ℕ) (b : Float) → j < length l → Listed (smoothed_at l) l j out → (1 ≤ j → b ≡ get_or l (j - 1) nan)
    → mean_with out j b ≡ smoothed_at l j
unfolding mean_with
smooth_turn l out j b h e k =
    let n = listed_same (smoothed_at l) l out j (omega arith) e in
    let x = listed_rest (smoothed_at l) l out j j (omega arith) e in
    let y = listed_rest (smoothed_at l) l out j (j + 1) (omega arith) e in
    simp (n, x, y) (kept l j b k)
