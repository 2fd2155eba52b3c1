-- Bounds that compute: `In lo hi x` says that x lies from lo to hi, and each law gives a result's bounds as the operation's values at the
-- operands' bounds. Where the bounds are written out, the new bounds compute, and every side condition is `tt`.
use Rattle.std.proofs.Common.{Bool, ◌&&◌, T, ◌⊎◌, inl, inr, ⊎_elim, Float}
use lib.Ieee.{Format, add, sub, mul, div, le}
use lib.Ieee.Fits.{and_l, and_r}
use lib.Ieee.Positive.{positive}
use lib.Ieee.Scale.{finite}
use Rattle.spec_arithmetic.specs.Narrow.{narrowed}
use Rattle.spec_arithmetic.specs.Bounds.{In}
use Rattle.tonekit_float.proofs.Order.{le_total, le_trans_float, between_finite}
use Rattle.tonekit_float.proofs.Monotone.{zero_f, add_le, sub_le, mul_le_right, mul_le_left, mul_ge_left, div_le, narrow_le}

pub in_finite : {lo hi x : Float} → T (finite lo && finite hi) → In lo hi x → T (finite x)
in_finite {lo} {hi} {x} t h = between_finite lo hi x (and_l (finite lo) (finite hi) t) (and_r (finite lo) (finite hi) t) h.low h.high

pub in_wider : {lo hi lo' hi' x : Float} → T (le lo' lo && le hi hi') → In lo hi x → In lo' hi' x
in_wider {lo} {hi} {lo'} {hi'} {x} t h = record {
  low = le_trans_float lo' lo x (and_l (le lo' lo) (le hi hi') t) h.low;
  high = le_trans_float x hi hi' h.high (and_r (le lo' lo) (le hi hi') t);
}

-- x lies on one side of mid
pub in_cut : {lo hi x : Float} (mid : Float) → T (finite lo && finite hi) → T (finite mid) → In lo hi x → In lo mid x ⊎ In mid hi x
in_cut {lo} {hi} {x} mid t m h =
    ⊎_elim (λ k. inl (record { low = h.low; high = k })) (λ k. inr (record { low = k; high = h.high })) (le_total x mid (in_finite t h) m)

-- four bounds are finite
abbrev pub finite4 : Float → Float → Float → Float → Bool
finite4 a b c d = finite a && finite b && (finite c && finite d)

pub in_add : (f : Format) {a b c d x y : Float} → T (finite4 a b c d) → In a b x → In c d y → In (add f a c) (add f b d) (add f x y)
in_add f {a} {b} {c} {d} {x} {y} t h k =
    let ab = and_l (finite a && finite b) (finite c && finite d) t in
    let cd = and_r (finite a && finite b) (finite c && finite d) t in
    record {
      low = add_le f a x c y (and_l (finite a) (finite b) ab) (in_finite ab h) (and_l (finite c) (finite d) cd) (in_finite cd k) h.low k.low;
      high = add_le f x b y d (in_finite ab h) (and_r (finite a) (finite b) ab) (in_finite cd k) (and_r (finite c) (finite d) cd) h.high k.high;
    }

pub in_sub : (f : Format) {a b c d x y : Float} → T (finite4 a b c d) → In a b x → In c d y → In (sub f a d) (sub f b c) (sub f x y)
in_sub f {a} {b} {c} {d} {x} {y} t h k =
    let ab = and_l (finite a && finite b) (finite c && finite d) t in
    let cd = and_r (finite a && finite b) (finite c && finite d) t in
    record {
      low = sub_le f a x d y (and_l (finite a) (finite b) ab) (in_finite ab h) (and_r (finite c) (finite d) cd) (in_finite cd k) h.low k.high;
      high = sub_le f x b y c (in_finite ab h) (and_r (finite a) (finite b) ab) (in_finite cd k) (and_l (finite c) (finite d) cd) h.high k.low;
    }

-- a factor z from 0 to c, and y from a to b, about 0
abbrev pub about0 : Float → Float → Float → Bool
about0 a b c = finite a && finite b && (finite c && (le a zero_f && le zero_f b))

zero_finite : T (finite zero_f)
zero_finite = tt

pub in_scale : (f : Format) {a b c z y : Float} → T (about0 a b c) → In zero_f c z → In a b y → In (mul f c a) (mul f c b) (mul f z y)
in_scale f {a} {b} {c} {z} {y} t h k =
    let ab = and_l (finite a && finite b) (finite c && (le a zero_f && le zero_f b)) t in
    let r = and_r (finite a && finite b) (finite c && (le a zero_f && le zero_f b)) t in
    let C = and_l (finite c) (le a zero_f && le zero_f b) r in
    let s = and_r (finite c) (le a zero_f && le zero_f b) r in
    let A = and_l (finite a) (finite b) ab in
    let B = and_r (finite a) (finite b) ab in
    let Z = between_finite zero_f c z zero_finite C h.low h.high in
    let Y = in_finite ab k in
    record {
      low = le_trans_float (mul f c a) (mul f z a) (mul f z y) (mul_ge_left f z c a Z C A (and_l (le a zero_f) (le zero_f b) s) h.high) (mul_le_right f z a y Z A Y h.low k.low);
      high = le_trans_float (mul f z y) (mul f z b) (mul f c b) (mul_le_right f z y b Z Y B h.low k.high) (mul_le_left f z c b Z C B (and_r (le a zero_f) (le zero_f b) s) h.high);
    }

-- two factors that are not negative
pub in_mul : (f : Format) {a b c d x y : Float} → T (finite4 a b c d) → T (le zero_f a && le zero_f c) → In a b x → In c d y → In (mul f a c) (mul f b d) (mul f x y)
in_mul f {a} {b} {c} {d} {x} {y} t n h k =
    let ab = and_l (finite a && finite b) (finite c && finite d) t in
    let cd = and_r (finite a && finite b) (finite c && finite d) t in
    let A = and_l (finite a) (finite b) ab in
    let B = and_r (finite a) (finite b) ab in
    let C = and_l (finite c) (finite d) cd in
    let D = and_r (finite c) (finite d) cd in
    let X = in_finite ab h in
    let Y = in_finite cd k in
    let a0 = and_l (le zero_f a) (le zero_f c) n in
    let c0 = and_r (le zero_f a) (le zero_f c) n in
    let x0 = le_trans_float zero_f a x a0 h.low in
    let d0 = le_trans_float zero_f c d c0 (le_trans_float c y d k.low k.high) in
    record {
      low = le_trans_float (mul f a c) (mul f x c) (mul f x y) (mul_le_left f a x c A X C c0 h.low) (mul_le_right f x c y X C Y x0 k.low);
      high = le_trans_float (mul f x y) (mul f x d) (mul f b d) (mul_le_right f x y d X Y D x0 k.high) (mul_le_left f x b d X B D d0 h.high);
    }

pub in_div : (f : Format) {a b x : Float} (z : Float) → T (finite a && finite b) → T (positive z) → In a b x → In (div f a z) (div f b z) (div f x z)
in_div f {a} {b} {x} z t p h = record {
  low = div_le f a x z (and_l (finite a) (finite b) t) (in_finite t h) p h.low;
  high = div_le f x b z (in_finite t h) (and_r (finite a) (finite b) t) p h.high;
}

pub in_narrow : {a b x : Float} → T (finite a && finite b) → In a b x → In (narrowed a) (narrowed b) (narrowed x)
in_narrow {a} {b} {x} t h = record {
  low = narrow_le a x (and_l (finite a) (finite b) t) (in_finite t h) h.low;
  high = narrow_le x b (in_finite t h) (and_r (finite a) (finite b) t) h.high;
}
