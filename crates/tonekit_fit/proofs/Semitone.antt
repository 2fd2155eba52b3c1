-- The semitones of a frame lie from -2,000 to 2,000, in f64 and narrowed to f32: of an f32 above 0, the quotient by 55 lies between 2 ^ -155 and 2 ^ 155.
-- Assumes nothing.
use Rattle.std.proofs.Common.{eqb, ◌≡◌, ℕ, suc, ◌+◌, ◌*◌, ◌^◌, ◌<◌, ◌≤◌, true, false, T, ℤ, pos, negsuc, sym, ap, refl, subst, mul-le-mul_right, mul-pos, zero-lt-suc, arith, lit≤, Float}
use Rattle.std.proofs.lemmas.Option.{cond_some}
use Rattle.std.specs.Prelude.{List, Option, Some, None}
use lib.Ieee.{inf, fin, binary32, binary64, neg, up, down, lt, le, eq, div, of_int, of_bits, fits}
use lib.Ieee.Fits.{and_l, and_r, up_pos, div-fits}
use lib.Ieee.Bits.{of_bits-fits, is_true}
use Rattle.spec_arithmetic.specs.Fields.{byte_at, u32_at, f32_at}
use Rattle.spec_arithmetic.specs.Bounds.{In}
use Rattle.spec_arithmetic.specs.Constants.{zero64, whole64}
use Rattle.spec_arithmetic.specs.Narrow.{narrowed}
use Rattle.spec_query.specs.Frames.{pitch, frame_at}
use Rattle.spec_query.specs.declared.Voiced.{Voiced}
use Rattle.spec_shape.specs.Chao.{hz_to_st}
use Rattle.tonekit_float.proofs.Fraction.{Within}
use Rattle.tonekit_float.proofs.Order.{yes, under→le}
use Rattle.tonekit_float.proofs.Bounds.{in_wider, in_div}
use Rattle.tonekit_float.proofs.Exact.{held}
use Rattle.tonekit_float.proofs.Signs as signs
use Rattle.tonekit_float.proofs.Size.{within_lit, within_more, within_mul, within_narrow, within_in}
use Rattle.tonekit_log.proofs.Log2Range.{Between, log2_near}
use Rattle.tonekit_fit.specs.Steps.{semitones_of}

-- ---- an f32 above 0
number_in : (m : ℕ) (e : ℤ) → T (fits binary32 (fin false (suc m) e)) → In (fin false 1 (negsuc 148)) (fin false 1 (pos 128)) (fin false (suc m) e)
number_in m e p =
    let x = fin false (suc m) e in
    let h = held binary32 false (suc m) e p in
    let one : 1 ≤ suc m * up e = mul-pos (zero-lt-suc m) (up_pos e) in
    let low : 1 * 2 ^ 149 ≤ suc m * up e * 2 ^ 149 = mul-le-mul_right (2 ^ 149) one in
    let f : down e ≤ 2 ^ 149 = h.fine in
    let s : suc m * up e < 2 ^ 128 * down e = h.small in
    record {
      low = under→le (fin false 1 (negsuc 148)) x tt tt (omega (arith, f, low));
      high = under→le x (fin false 1 (pos 128)) tt tt (omega (arith, s));
    }

-- ---- its semitones, 12 times the logarithm of its quotient by 55
quotient_in : (hz : Float) → In (fin false 1 (negsuc 148)) (fin false 1 (pos 128)) hz → Between 154 (div binary64 hz (whole64 55))
unfolding div of_int le lt eq
quotient_in hz h = in_wider {lo' = fin false 1 (negsuc 154)} {hi' = fin false 1 (pos 155)} tt (in_div binary64 (whole64 55) tt tt h)

twelve_within : Within 12 (whole64 12)
unfolding of_int
twelve_within = within_lit 12 (whole64 12) tt

number_within : (hz : Float) → In (fin false 1 (negsuc 148)) (fin false 1 (pos 128)) hz → Within 2000 (hz_to_st hz)
unfolding hz_to_st
number_within hz h =
    let q = div binary64 hz (whole64 55) in
    within_more (lit≤ tt) (within_mul binary64 (lit≤ tt) twelve_within (log2_near 154 q (lit≤ tt) (div-fits binary64 hz (whole64 55)) (quotient_in hz h)))

pub semitone_within : (hz : Float) → pitch hz ≡ true → T (fits binary32 hz) → Within 2000 (hz_to_st hz)
semitone_within hz h p =
    let above = lt (fin false 0 (pos 0)) hz in
    let below = lt hz (inf false) in
    let a = signs.above hz (and_l above below (yes h)) (and_r above below (yes h)) in
    subst (λ (x : Float). Within 2000 (hz_to_st x)) (sym a.is) (number_within (fin false (suc a.m) a.e) (number_in a.m a.e (subst (λ (x : Float). T (fits binary32 x)) a.is p)))

-- ---- as bounds
abbrev pub Semitone : Float → Type 0
Semitone x = In (fin true 2000 (pos 0)) (fin false 2000 (pos 0)) x

as_bounds : (x : Float) → Within 2000 x → Semitone x
unfolding of_int le lt eq neg
as_bounds x w = in_wider tt (within_in binary64 {n = 2000} (lit≤ tt) w)

pub semitone_in : (hz : Float) → pitch hz ≡ true → T (fits binary32 hz) → Semitone (hz_to_st hz)
semitone_in hz h p = as_bounds (hz_to_st hz) (semitone_within hz h p)

pub narrow_semitone_in : (hz : Float) → pitch hz ≡ true → T (fits binary32 hz) → Semitone (narrowed (hz_to_st hz))
narrow_semitone_in hz h p = as_bounds (narrowed (hz_to_st hz)) (within_narrow (lit≤ tt) (semitone_within hz h p))

-- ---- of a frame: a voiced frame's hz is an f32 above 0
pub record Pitched (v : Voiced) : Type 0 where
  pub above : pitch v.hz ≡ true
  pub is_f32 : T (fits binary32 v.hz)

pub frame_pitched : (frames : List ℕ) (i : ℕ) (v : Voiced) → frame_at frames i ≡ Some v → Pitched v
unfolding frame_at
frame_pitched frames i v e =
    let hz = f32_at frames (10 * i + 2) in
    let voiced = eqb (byte_at frames (10 * i + 1)) 1 in
    let c = cond_some _ _ _ e in
    let same : hz ≡ v.hz = ap (λ (z : Voiced). z.hz) c.1 in
    record {
      above = subst (λ (z : Float). pitch z ≡ true) same (is_true (pitch hz) (and_r voiced (pitch hz) (yes c.0)));
      is_f32 = subst (λ (z : Float). T (fits binary32 z)) same (of_bits-fits binary32 (u32_at frames (10 * i + 2)));
    }

pub frame_within : (frames : List ℕ) (i : ℕ) (v : Voiced) → frame_at frames i ≡ Some v → Within 2000 (hz_to_st v.hz)
frame_within frames i v e = let p = frame_pitched frames i v e in semitone_within v.hz p.above p.is_f32

pub frame_semitone : (frames : List ℕ) (i : ℕ) (v : Voiced) → frame_at frames i ≡ Some v → Semitone (hz_to_st v.hz) × Semitone (narrowed (hz_to_st v.hz))
frame_semitone frames i v e = let p = frame_pitched frames i v e in (semitone_in v.hz p.above p.is_f32, narrow_semitone_in v.hz p.above p.is_f32)

-- 0 where it is unvoiced
zero_within : Within 2000 zero64
unfolding of_bits
zero_within = within_lit 2000 zero64 tt

pub semitones_within : (frames : List ℕ) (i : ℕ) → Within 2000 (semitones_of (frame_at frames i))
semitones_within frames i = go (frame_at frames i) refl
  where
    go : (v : Option Voiced) → frame_at frames i ≡ v → Within 2000 (semitones_of v)
    go (Some v) e = frame_within frames i v e
    go None e = zero_within
