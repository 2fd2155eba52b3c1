-- Ends that were pushed once are 4 semitones apart (`pushed_wide`), for every middle within 8,190: twelve ranges of the middle, each computed at its
-- bounds; in each the f32 values about the ends are ticks of one size. And where the ends lie (`floor_in`, `pushed_floor_in` ..). Assumes nothing.
use Rattle.std.proofs.Common.{ℕ, suc, ◌+◌, ◌*◌, ◌^◌, ◌<◌, ◌≤◌, ◌≡◌, true, false, ◌&&◌, T, leb, ⊎_elim, refl, ap, arith, leb→le, pos, negsuc, add-mul, mul-one, Float}
use lib.Ieee.{fin, binary32, binary64, neg, add, sub, mul, lt, le, eq, of_bits, of_int, round}
use lib.Ieee.Fits.{and_l, and_r}
use lib.Ieee.Positive.{den, den_pos}
use lib.Ieee.Scale.{finite}
use Rattle.spec_arithmetic.specs.Constants.{half}
use Rattle.spec_arithmetic.specs.Narrow.{narrowed}
use Rattle.spec_arithmetic.specs.Magnitude.{magnitude}
use Rattle.spec_arithmetic.specs.Bounds.{In}
use Rattle.tonekit_float.proofs.Fraction.{pos_part, neg_part}
use Rattle.tonekit_float.proofs.Order.{Cross, le→under, le_trans_float}
use Rattle.tonekit_float.proofs.Monotone.{zero_f, add_le, sub_le, mul_le_left, narrow_le}
use Rattle.tonekit_float.proofs.Bounds.{finite4, in_finite, in_wider, in_cut, in_add, in_sub, in_mul, in_scale, in_narrow}
use Rattle.tonekit_float.proofs.Magnitude.{of_magnitude, magnitude_in}
use Rattle.spec_shape.specs.declared.Register.{Register}
use Rattle.spec_shape.specs.Register.{two, epsilon, middle, step_of}
use Rattle.tonekit_min_span.specs.Near.{Around, Near}
use Rattle.tonekit_min_span.proofs.OnePass.{Fine, turn_fine, down_under, up_over}
use Rattle.tonekit_min_span.proofs.Gap.{four_apart}

abbrev whole : ℕ → Float
whole n = fin false n (pos 0)

abbrev less : ℕ → Float
less n = fin true n (pos 0)

-- the size of a middle
abbrev pub Size : Float → Type 0
Size mid = In zero_f (whole 8190) (magnitude mid)

-- the middle, 2 lower and 2 higher, before it is narrowed; how far an end is pushed, and the pushed ends
module _ (mid : Float) where
  abbrev a : Float
  a = sub binary64 mid two

  abbrev b : Float
  b = add binary64 mid two

  abbrev s : Float
  s = step_of mid

  abbrev pub pushed_floor : Float
  pushed_floor = sub binary32 (narrowed a) s

  abbrev pub pushed_ceil : Float
  pushed_ceil = add binary32 (narrowed b) s

-- ---- bounds over all middles
pub two_in : In two two two
unfolding of_int round le lt eq
two_in = record { low = tt; high = tt }

epsilon_in : In epsilon epsilon epsilon
unfolding of_bits le lt eq
epsilon_in = record { low = tt; high = tt }

module _ (mid : Float) (r : Size mid) where
  mid_in : Near mid
  unfolding le lt eq neg
  mid_in = of_magnitude (whole 8190) mid tt tt r.high

  a_in : In (less 8192) (whole 8188) (a mid)
  unfolding of_int round le lt eq sub
  a_in = in_wider tt (in_sub binary64 {c = two} {d = two} {y = two} tt mid_in two_in)

  b_in : In (less 8188) (whole 8192) (b mid)
  unfolding of_int round le lt eq add
  b_in = in_wider tt (in_add binary64 {c = two} {d = two} {y = two} tt mid_in two_in)

  higher_in : In (whole 2) (whole 8192) (add binary64 (magnitude mid) two)
  unfolding of_int round le lt eq add
  higher_in = in_wider tt (in_add binary64 {c = two} {d = two} {y = two} tt r two_in)

  narrowed_in : In (whole 2) (whole 8192) (narrowed (add binary64 (magnitude mid) two))
  unfolding le lt eq round narrowed
  narrowed_in = in_wider tt (in_narrow {a = whole 2} {b = whole 8192} tt higher_in)

  s_in : In zero_f (whole 1) (s mid)
  unfolding of_bits le lt eq mul
  s_in = in_wider tt (in_mul binary32 {a = whole 2} {b = whole 8192} {c = epsilon} {d = epsilon} {y = epsilon} tt tt narrowed_in epsilon_in)

  pub floor_in : Around 8192 (narrowed (a mid))
  unfolding le lt eq round narrowed
  floor_in = in_wider tt (in_narrow {a = less 8192} {b = whole 8188} tt a_in)

  pub ceil_in : Around 8192 (narrowed (b mid))
  unfolding le lt eq round narrowed
  ceil_in = in_wider tt (in_narrow {a = less 8188} {b = whole 8192} tt b_in)

  pub pushed_floor_in : Around 9000 (pushed_floor mid)
  unfolding le lt eq sub round
  pushed_floor_in = in_wider tt (in_sub binary32 {c = zero_f} {d = whole 1} tt floor_in s_in)

  pub pushed_ceil_in : Around 9000 (pushed_ceil mid)
  unfolding le lt eq add round
  pushed_ceil_in = in_wider tt (in_add binary32 {c = zero_f} {d = whole 1} tt ceil_in s_in)

-- ---- what is computed of a range of middles, of size from lo to hi: ticks of 1 / 2 ^ suc i up to hi + 2, the ends' bounds, and a step of one tick or more
abbrev Ready : ℕ → ℕ → ℕ → Type 0
Ready lo hi i =
    ((hi + 2) * 2 ^ suc i ≡ 2 ^ 24)
    × T (leb (suc i) 149)
    × T (le zero_f (whole hi))
    × T (le (less (hi + 2)) (sub binary64 (less hi) two) && le (sub binary64 (whole hi) two) (whole (hi + 1)))
    × T (le (less (hi + 1)) (add binary64 (less hi) two) && le (add binary64 (whole hi) two) (whole (hi + 2)))
    × T (finite (add binary64 (whole lo) two) && finite (narrowed (add binary64 (whole lo) two)))
    × T (le (fin false 1 (negsuc i)) (mul binary32 (narrowed (add binary64 (whole lo) two)) epsilon))

-- whole bounds, as fractions
low_whole : (n : ℕ) (x : Float) → T (finite x) → T (le (less n) x) → neg_part x ≤ pos_part x + n * den x
low_whole n x p h =
    let k = le→under (less n) x tt p h in
    let e : n * 1 * den x ≡ n * den x = ap (λ (z : ℕ). z * den x) (mul-one n) in
    omega arith

high_whole : (n : ℕ) (x : Float) → T (finite x) → T (le x (whole n)) → pos_part x ≤ neg_part x + n * den x
high_whole n x p h =
    let k = le→under x (whole n) p tt h in
    let e : n * 1 * den x ≡ n * den x = ap (λ (z : ℕ). z * den x) (mul-one n) in
    omega arith

-- below the next whole number
next_above : (x y n d : ℕ) → 0 < d → x ≤ y + (n + 1) * d → x < (n + 2) * d + y
next_above x y n d p h = omega (arith, add-mul n 1 d, add-mul n 2 d)

two_real : T (finite two)
unfolding of_int round
two_real = tt

epsilon_real : T (finite epsilon)
unfolding of_bits
epsilon_real = tt

epsilon_clear : T (le zero_f epsilon)
unfolding of_bits le lt eq
epsilon_clear = tt

with_two : (n : ℕ) → T (finite4 (less n) (whole n) two two)
unfolding of_int round
with_two n = tt

-- ---- in one range
module _ (lo hi i : ℕ) (ready : Ready lo hi i) (mid : Float) (r0 : Size mid) (r : In (whole lo) (whole hi) (magnitude mid)) where
  m_in : Around hi mid
  unfolding neg
  m_in = of_magnitude (whole hi) mid tt ready.2 r.high

  a_range : In (less (hi + 2)) (whole (hi + 1)) (a mid)
  a_range = in_wider ready.3 (in_sub binary64 {a = less hi} {b = whole hi} {c = two} {d = two} {y = two} (with_two hi) m_in two_in)

  b_range : In (less (hi + 1)) (whole (hi + 2)) (b mid)
  b_range = in_wider ready.4 (in_add binary64 {a = less hi} {b = whole hi} {c = two} {d = two} {y = two} (with_two hi) m_in two_in)

  s_least : T (le (fin false 1 (negsuc i)) (s mid))
  s_least =
      let m = magnitude mid in
      let t0 = add binary64 (whole lo) two in
      let t = add binary64 m two in
      let p0 = and_l (finite t0) (finite (narrowed t0)) ready.5 in
      let q0 = and_r (finite t0) (finite (narrowed t0)) ready.5 in
      let p = in_finite {lo = whole 2} {hi = whole 8192} {x = t} tt (higher_in mid r0) in
      let q = in_finite {lo = whole 2} {hi = whole 8192} {x = narrowed t} tt (narrowed_in mid r0) in
      le_trans_float (fin false 1 (negsuc i)) (mul binary32 (narrowed t0) epsilon) (mul binary32 (narrowed t) epsilon) ready.6
      (mul_le_left binary32 (narrowed t0) (narrowed t) epsilon q0 q epsilon_real epsilon_clear
      (narrow_le t0 t p0 p (add_le binary64 (whole lo) m two two tt (in_finite {lo = zero_f} {hi = whole 8190} {x = m} tt r0) two_real two_real r.low two_in.low)))

  s_cross : Cross 1 0 (2 ^ suc i) (pos_part (s mid)) (neg_part (s mid)) (den (s mid))
  s_cross = let k = le→under (fin false 1 (negsuc i)) (s mid) tt (in_finite tt (s_in mid r0)) s_least in omega arith

  fine_a : Fine (suc i) (hi + 2) (a mid) (s mid)
  fine_a =
      let p = in_finite tt (a_in mid r0) in
      record {
        count = ready.0;
        deep = leb→le (suc i) 149 ready.1;
        a_real = p;
        s_real = in_finite tt (s_in mid r0);
        a_low = low_whole (hi + 2) (a mid) p a_range.low;
        a_high = next_above (pos_part (a mid)) (neg_part (a mid)) hi (den (a mid)) (den_pos (a mid)) (high_whole (hi + 1) (a mid) p a_range.high);
        s_low = s_cross;
      }

  fine_b : Fine (suc i) (hi + 2) (neg (b mid)) (s mid)
  fine_b =
      let p = in_finite tt (b_in mid r0) in
      turn_fine (suc i) (hi + 2) (b mid) (s mid) ready.0 (leb→le (suc i) 149 ready.1) p (in_finite tt (s_in mid r0)) (high_whole (hi + 2) (b mid) p b_range.high)
      (next_above (neg_part (b mid)) (pos_part (b mid)) hi (den (b mid)) (den_pos (b mid)) (low_whole (hi + 1) (b mid) p b_range.low)) s_cross

  wider_in_range : T (le (sub binary32 (b mid) (a mid)) (sub binary32 (pushed_ceil mid) (pushed_floor mid)))
  wider_in_range =
      sub_le binary32 (b mid) (pushed_ceil mid) (a mid) (pushed_floor mid)
      (in_finite tt (b_in mid r0)) (in_finite tt (pushed_ceil_in mid r0)) (in_finite tt (a_in mid r0)) (in_finite tt (pushed_floor_in mid r0))
      (up_over (suc i) (hi + 2) (b mid) (s mid) fine_b) (down_under (suc i) (hi + 2) (a mid) (s mid) fine_a)

-- ---- over all ranges
module _ (mid : Float) (r0 : Size mid) where
  four_wide : T (le (fin false 1 (pos 2)) (sub binary32 (b mid) (a mid)))
  unfolding of_int round le lt eq
  four_wide =
      let m : Around 8192 mid = in_wider tt (mid_in mid r0) in
      let p = in_finite {lo = less 8192} {hi = whole 8192} {x = mid} tt m in
      four_apart mid p (low_whole 8192 mid p m.low) (high_whole 8192 mid p m.high) (in_finite tt (a_in mid r0)) (in_finite tt (b_in mid r0))

  abbrev Wider : Type 0
  Wider = T (le (sub binary32 (b mid) (a mid)) (sub binary32 (pushed_ceil mid) (pushed_floor mid)))

  -- the range from lo to hi, and what is above hi
  up_to : (lo hi i : ℕ) → Ready lo hi i → (In (whole hi) (whole 8190) (magnitude mid) → Wider) → In (whole lo) (whole 8190) (magnitude mid) → Wider
  up_to lo hi i ready rest r = ⊎_elim (λ k. wider_in_range lo hi i ready mid r0 k) rest (in_cut (whole hi) tt tt r)

  wider : Wider
  unfolding of_bits of_int le lt eq add sub mul round narrowed
  wider =
      up_to 0 2 21 (refl, tt, tt, tt, tt, tt, tt)
      (up_to 2 6 20 (refl, tt, tt, tt, tt, tt, tt)
      (up_to 6 14 19 (refl, tt, tt, tt, tt, tt, tt)
      (up_to 14 30 18 (refl, tt, tt, tt, tt, tt, tt)
      (up_to 30 62 17 (refl, tt, tt, tt, tt, tt, tt)
      (up_to 62 126 16 (refl, tt, tt, tt, tt, tt, tt)
      (up_to 126 254 15 (refl, tt, tt, tt, tt, tt, tt)
      (up_to 254 510 14 (refl, tt, tt, tt, tt, tt, tt)
      (up_to 510 1022 13 (refl, tt, tt, tt, tt, tt, tt)
      (up_to 1022 2046 12 (refl, tt, tt, tt, tt, tt, tt)
      (up_to 2046 4094 11 (refl, tt, tt, tt, tt, tt, tt)
      (λ r. wider_in_range 4094 8190 10 (refl, tt, tt, tt, tt, tt, tt) mid r0 r))))))))))) r0

  pub pushed_wide : T (le (fin false 1 (pos 2)) (sub binary32 (pushed_ceil mid) (pushed_floor mid)))
  pushed_wide = le_trans_float (fin false 1 (pos 2)) (sub binary32 (b mid) (a mid)) (sub binary32 (pushed_ceil mid) (pushed_floor mid)) four_wide wider

-- ---- the middle of two ends
pub middle_size : (r : Register) → Near r.floor → Near r.ceil → Size (middle r)
unfolding of_bits le lt eq add mul round
middle_size r f c =
    magnitude_in 8190 (middle r)
    (in_wider tt (in_scale binary64 {c = half} {z = half} tt (record { low = tt; high = tt }) (in_add binary64 {a = less 8190} {b = whole 8190} {c = less 8190} {d = whole 8190} tt f c)))
