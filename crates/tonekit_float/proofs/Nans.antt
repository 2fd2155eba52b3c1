-- Where a float, or a bit pattern, is the NaN, and where a float is finite.
use Rattle.std.proofs.Common.{◌≡◌, ℕ, ◌*◌, ◌%◌, Bool, true, false, not, ◌&&◌, ◌||◌, T, eqb, ltb, sym, refl, ap, ◌∙◌, Float}
use lib.Dec.{eqb_refl}
use lib.Ieee.{Format, nan, inf, fin, is_nan, ne, eq, lt, up, down, of_bits, nan_bits, ones, hid, top}
use lib.Ieee.Compare.{differs_from_itself}
use lib.Ieee.Bits.{nan_bits_is, nan_bits_above, is_true}
use lib.Ieee.Scale.{finite}
use Rattle.tonekit_float.proofs.Order.{yes, no}

-- `x != x` is the test for a NaN
self_same : (a : ℕ) → false ≡ not (eqb a a && (true || eqb a 0))
self_same a = ap (λ (b : Bool). not (b && (true || eqb a 0))) (sym (is_true (eqb a a) (eqb_refl a)))

pub ne_self : (x : Float) → is_nan x ≡ ne x x
unfolding is_nan ne eq
ne_self nan = refl
ne_self (inf true) = refl
ne_self (inf false) = refl
ne_self (fin true m e) = self_same (m * up e * down e)
ne_self (fin false m e) = self_same (m * up e * down e)

pub is_nan_lem : (x : Float) → ne x x ≡ true → x ≡ nan
is_nan_lem x e = differs_from_itself x (yes e)

pub no_nan : (x : Float) → ne x x ≡ false → T (not (is_nan x))
no_nan x e = no (ne_self x ∙ e)

-- a pattern that the test finds above the infinity's is a NaN's, and another is not
of_is_nan : (x : Float) → is_nan x ≡ true → x ≡ nan
of_is_nan x e = is_nan_lem x (sym (ne_self x) ∙ e)

pub nan_pattern : (f : Format) (b : ℕ) → ltb (ones f * hid f) (b % top f) ≡ true → of_bits f b ≡ nan
nan_pattern f b t = of_is_nan (of_bits f b) (sym (nan_bits_is f b) ∙ nan_bits_above f b ∙ t)

pub no_nan_pattern : (f : Format) (b : ℕ) → ltb (ones f * hid f) (b % top f) ≡ false → T (not (nan_bits f b))
no_nan_pattern f b t = no (nan_bits_above f b ∙ t)

-- ---- finite values
pub finite_number : (x : Float) → T (finite x) → is_nan x ≡ false
unfolding is_nan
finite_number nan p = absurd p
finite_number (inf s) p = absurd p
finite_number (fin s m e) p = refl

-- above -infinity: finite where it is below infinity
pub below_infinity : (x : Float) → lt (inf true) x ≡ true → lt x (inf false) ≡ finite x
unfolding lt
below_infinity nan h = refl
below_infinity (inf true) h = absurd (yes h)
below_infinity (inf false) h = refl
below_infinity (fin s m e) h = refl

pub not_above : (x : Float) → lt (inf true) x ≡ false → lt (inf true) x ≡ finite x
unfolding lt
not_above nan h = refl
not_above (inf true) h = refl
not_above (inf false) h = absurd (no h)
not_above (fin s m e) h = refl
