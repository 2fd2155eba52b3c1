-- Excursions are compared plainly: one that stands is no NaN, so none reaches the comparison that the Rust makes by `total_cmp`.
use Rattle.std.proofs.Common.{◌≡◌, refl, sym, subst, true, false, T, Float}
use lib.Ieee.{nan, inf, fin, is_nan, le, of_bits}
use Rattle.spec_shape.specs.Turning.{stands}

pub stands_number : (x u : Float) → stands (record { size = x; at = u }) ≡ true → is_nan x ≡ false
unfolding stands is_nan le of_bits
stands_number nan u h = absurd (subst T (sym h) tt)
stands_number (inf s) u h = refl
stands_number (fin s m e) u h = refl
