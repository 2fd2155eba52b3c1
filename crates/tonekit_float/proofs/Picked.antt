-- Minimum and maximum: the code's three ways out, and for finite values that the lesser and the greater are bounds of both, and one of the two.
use Rattle.std.proofs.Common.{◌≡◌, Bool, true, false, not, cond, T, refl, sym, ap, ◌∙◌, Float, is_nan}
use Rattle.std.proofs.Common.{Option, Some, None, Ordering, Less, Equal, Greater}
use Rattle.std.specs.Ordering.{is_some_and, is_lt, partial_lt, float_partial_cmp}
use lib.Ieee.{ne, eq, lt, le}
use lib.Ieee.Scale.{finite}
use Rattle.spec_arithmetic.specs.Pick.{lesser, greater}
use Rattle.tonekit_float.proofs.Order.{yes, lt→le, not-lt→le, le_refl_finite}
use Rattle.tonekit_float.proofs.Nans.{ne_self, finite_number}

-- ---- the tests of a type whose comparisons are those of floats
from_order : (l e g : Bool) → is_some_and is_lt (cond l (Some Less) (cond e (Some Equal) (cond g (Some Greater) None))) ≡ l
from_order true e g = refl
from_order false true g = refl
from_order false false true = refl
from_order false false false = refl

module _ {X : Type 0} (float : X → Float) (a b : X) {t v : Bool} where
  -- `a < b`
  pub less : (cmp : X → X → Option Ordering) → ((a b : X) → cmp a b ≡ float_partial_cmp (float a) (float b)) → t ≡ partial_lt cmp a b → t ≡ v → lt (float a) (float b) ≡ v
  less cmp law e k = sym (sym k ∙ e ∙ ap (is_some_and is_lt) (law a b) ∙ from_order (lt (float a) (float b)) (eq (float a) (float b)) (lt (float b) (float a)))

  -- `a != b`
  pub differs : (same : X → X → Bool) → ((a b : X) → same a b ≡ eq (float a) (float b)) → t ≡ not (same a b) → t ≡ v → ne (float a) (float b) ≡ v
  unfolding ne
  differs same law e k = sym (sym k ∙ e ∙ ap not (law a b))

-- ---- the ways out: b where a is a NaN, else by the test l
pub of_nan : (a b c : Float) → ne a a ≡ true → b ≡ cond (is_nan a) b c
of_nan a b c h = rw (ne_self a, h)

module _ (a b : Float) {l : Bool} where
  pub later : ne a a ≡ false → l ≡ true → b ≡ cond (is_nan a) b (cond l b a)
  later h k = rw (ne_self a, h, k)

  pub earlier : ne a a ≡ false → l ≡ false → a ≡ cond (is_nan a) b (cond l b a)
  earlier h k = rw (ne_self a, h, k)

-- ---- bounds
cond_elim : (P : Float → Type 0) (x y : Float) (b : Bool) → (b ≡ true → P y) → (b ≡ false → P x) → P (cond b y x)
cond_elim P x y true i j = i refl
cond_elim P x y false i j = j refl

-- what holds of x where x ≤ y, and of y where y ≤ x, holds of the lesser
pub lesser_elim : (P : Float → Type 0) (x y : Float) → T (finite x) → T (finite y) → (T (le x y) → P x) → (T (le y x) → P y) → P (lesser x y)
unfolding lesser
lesser_elim P x y p q f g = rw (finite_number x p) (cond_elim P x y (lt y x) (λ e. g (lt→le y x (yes e))) (λ e. f (not-lt→le y x q p e)))

-- what holds of y where x ≤ y, and of x where y ≤ x, holds of the greater
pub greater_elim : (P : Float → Type 0) (x y : Float) → T (finite x) → T (finite y) → (T (le x y) → P y) → (T (le y x) → P x) → P (greater x y)
unfolding greater
greater_elim P x y p q f g = rw (finite_number x p) (cond_elim P x y (lt x y) (λ e. f (lt→le x y (yes e))) (λ e. g (not-lt→le x y p q e)))

module _ (x y : Float) (p : T (finite x)) (q : T (finite y)) where
  pub lesser_finite : T (finite (lesser x y))
  lesser_finite = lesser_elim (λ z. T (finite z)) x y p q (λ h. p) (λ h. q)

  pub lesser_le_left : T (le (lesser x y) x)
  lesser_le_left = lesser_elim (λ z. T (le z x)) x y p q (λ h. le_refl_finite x p) (λ h. h)

  pub lesser_le_right : T (le (lesser x y) y)
  lesser_le_right = lesser_elim (λ z. T (le z y)) x y p q (λ h. h) (λ h. le_refl_finite y q)

  pub le_lesser : (z : Float) → T (le z x) → T (le z y) → T (le z (lesser x y))
  le_lesser z h k = lesser_elim (λ w. T (le z w)) x y p q (λ i. h) (λ i. k)

  pub greater_finite : T (finite (greater x y))
  greater_finite = greater_elim (λ z. T (finite z)) x y p q (λ h. q) (λ h. p)

  pub le_greater_right : T (le y (greater x y))
  le_greater_right = greater_elim (λ z. T (le y z)) x y p q (λ h. le_refl_finite y q) (λ h. h)

  pub greater_le : (z : Float) → T (le x z) → T (le y z) → T (le (greater x y) z)
  greater_le z h k = greater_elim (λ w. T (le w z)) x y p q (λ i. k) (λ i. h)
