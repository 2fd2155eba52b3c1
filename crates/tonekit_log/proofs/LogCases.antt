-- What the code of `ln` and `log2` needs, by the cases of x. f is what is done with m and e.
use Rattle.std.proofs.Common.{◌≡◌, ℕ, suc, ◌*◌, ◌/◌, ◌^◌, true, false, not, T, ℤ, pos, sym, refl, ap, ◌∙◌, subst, Float}
use lib.Ieee.{nan, inf, fin, up, down, binary64, fits, unlike, add, mul, lt, eq, is_nan}
use Rattle.tonekit_float.proofs.Monotone.{zero_f}
use Rattle.tonekit_float.proofs.Signs as signs
use Rattle.spec_arithmetic.specs.declared.Parts.{Parts}
use Rattle.spec_arithmetic.specs.Constants.{LN2_HI, LN2_LO, LOG2E}
use Rattle.spec_arithmetic.specs.Log.{parts_of, centred, log_by, series, ln_of, log2_of}
use Rattle.tonekit_log.proofs.PartsOf.{scaled_is}
use Rattle.tonekit_float.proofs.Narrowing.{round_number}
use Rattle.tonekit_log.specs.Found.{scaled}

abbrev pub ln_at : Parts → Float
ln_at p = add binary64 (mul binary64 p.e LN2_HI) (add binary64 (series p.m) (mul binary64 p.e LN2_LO))

abbrev pub log2_at : Parts → Float
log2_at p = add binary64 p.e (mul binary64 (series p.m) LOG2E)

pub ln_is : (x : Float) → ln_of x ≡ log_by ln_at x
unfolding ln_of
ln_is x = refl

pub log2_is : (x : Float) → log2_of x ≡ log_by log2_at x
unfolding log2_of
log2_is x = refl

pub number_is : (f : Parts → Float) (m : ℕ) (e : ℤ) → log_by f (fin false (suc m) e) ≡ f (centred (parts_of (suc m * up e * 2 ^ 1074 / down e)))
unfolding log_by
number_is f m e = refl

-- neither x nor x scaled by 2 ^ 54 is NaN
pub scaled_number : (x : Float) → T (lt zero_f x) → T (lt x (inf false)) → T (not (is_nan x)) × T (not (is_nan (mul binary64 x (fin false 1 (pos 54)))))
unfolding lt mul is_nan
scaled_number nan g h = absurd g
scaled_number (inf true) g h = absurd g
scaled_number (inf false) g h = absurd h
scaled_number (fin s m e) g h = (tt, round_number binary64 (unlike s false) (m * up e * (1 * 2 ^ 54)) (down e * 1))

module _ (f : Parts → Float) (x : Float) where
  pub at_number : T (fits binary64 x) → T (lt zero_f x) → T (lt x (inf false)) → log_by f x ≡ f (centred (scaled x))
  at_number p g h =
      let a = signs.above x g h in
      subst (λ (y : Float). log_by f y ≡ f (centred (scaled y))) (sym a.is)
      (number_is f a.m a.e ∙ ap (λ (r : Parts). f (centred r)) (sym (scaled_is a.m a.e (subst (λ (y : Float). T (fits binary64 y)) a.is p))))

  pub at_infinity : lt signs.zero64 x ≡ true → lt x signs.inf64 ≡ false → x ≡ log_by f x
  unfolding log_by
  at_infinity g h = subst (λ (y : Float). y ≡ log_by f y) (sym (signs.at_infinity x g h)) refl

  pub at_zero : eq x signs.zero64 ≡ true → inf true ≡ log_by f x
  unfolding log_by
  at_zero h = subst (λ (y : Float). inf true ≡ log_by f y) (sym (signs.at_zero x h).is) refl

  pub none_of : signs.Neither x → nan ≡ log_by f x
  unfolding log_by
  none_of (signs.not_number e) = subst (λ (y : Float). nan ≡ log_by f y) (sym e) refl
  none_of (signs.minus_infinity e) = subst (λ (y : Float). nan ≡ log_by f y) (sym e) refl
  none_of (signs.negative m k e) = subst (λ (y : Float). nan ≡ log_by f y) (sym e) refl

  pub at_nan : lt signs.zero64 x ≡ false → eq x signs.zero64 ≡ false → nan ≡ log_by f x
  at_nan g h = none_of (signs.neither x g h)
