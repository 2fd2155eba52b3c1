-- The loop over the sums of powers, which keeps the next power beside them.
use Rattle.std.proofs.Common.{ℕ, ◌≡◌, ap, cond, ltb, List, get_or, set, Float}
use lib.Ieee.{nan, binary64, add, mul}
use Rattle.tonekit_core.specs.Loop.{turns, range}
use Rattle.spec_arithmetic.specs.Constants.{one64}
use Rattle.spec_shape.specs.declared.Moments.{Moments}
use Rattle.spec_shape.specs.Fit.{power, point_added}

pub record Powers : Type 0 where
  pub s : List Float
  pub t : List Float
  pub pow : Float

abbrev pub power_turn : Float → Float → ℕ → Powers → Powers
power_turn x y k p =
    record {
      s = set p.s k (add binary64 (get_or p.s k nan) p.pow);
      t = cond (ltb k 3) (set p.t k (add binary64 (get_or p.t k nan) (mul binary64 p.pow y))) p.t;
      pow = mul binary64 p.pow x;
    }

pub powers_are : (x y : Float) (m : Moments) {s t : List Float} {pow : Float}
    → record { s = s; t = t; pow = pow } ≡ range (power_turn x y) 0 5 (record { s = m.s; t = m.t; pow = one64 })
    → ◌≡◌ {A = Moments} (record { s = s; t = t }) (point_added x y m)
unfolding point_added power range turns
powers_are x y m e = ap (λ (p : Powers). let z : Moments = record { s = p.s; t = p.t } in z) e
