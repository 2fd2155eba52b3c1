-- Rounded to the nearest f32, ties to even, what is written gives the f32 back. Assumes nothing.
use mathlib.Core.Path.{◌≡◌, refl, sym, ◌∙◌, ap, subst}
use mathlib.Core.Bool.{Bool, true, false, not, cond}
use Prim.Native.Nat.{ℕ, zero, suc, ◌+◌, ◌-◌, ◌*◌, ◌/◌, ◌%◌, ◌^◌, ◌≤◌, ◌<◌, compare, Ordering}
use native.Mathlib.Nat.{one-mul, mul_comm, mul_assoc, mul_left_comm, add-mul, mul-pos, mul-le-mul_right, mul-div-mul_right, div-eq_of_lt-le, div-add-mod', div-lt_iff_lt-mul, le-div_iff_mul-le, one-le-pow, le_trans, lt_of_lt_of_le, lt_of_le_of_lt, le_of_eq, pow-suc}
use native.Mathlib.Numerals.{sub-one}
use native.Mathlib.Omega.{arith}
use borrow.Author.Tests.{leb-true, leb-false, lt-ltb, eq-eqb, ne_eqb}
use lib.Arith.{lt_of_le-ne}
use lib.Count.{count_trailing_zeros, under}
use lib.Dec.{T, is_le, compare_is_eq, leb, ltb, eqb, leb→le, nleb→lt, eqb→eq, eqb_refl}
use lib.Pow.{pow-add, pow_pos, pow_mono, pow-lt, shl_lt}
use lib.Ieee.{fin, binary32, nearest, size, minus, odd, units, round, of_fields, of_bits, to_bits, nan_bits, is_nan}
use lib.Ieee.Bits.{to_bits-of_bits, nan_bits_is}
use lib.Ieee.Digits.{size-lt, size-le}
use lib.Ieee.Fits.{core, round_is}
use lib.Ieee.Nearest.{closest, closest_same}
use Rattle.tonekit_decimal.specs.Decimal.{reads, quarter, significand, scale_field, lower_gap, decimal_of, rounds_to, sign_field, exponent_field, fraction_field}
use Rattle.tonekit_decimal.proofs.ReadsBack.{reads_ends, reads_back}

-- what `compare` says
abbrev Cmp : Ordering → ℕ → ℕ → Type 0
Cmp Ordering.lt a b = a < b
Cmp Ordering.eq a b = a ≡ b
Cmp Ordering.gt a b = b < a

cmp : (a b : ℕ) → Cmp (compare a b) a b
cmp a b = go (compare a b) (leb→le a b) (nleb→lt a b) (eqb→eq a b) (λ (e : a ≡ b). subst (λ (x : ℕ). T (eqb a x)) e (eqb_refl a))
  where
    go : (o : Ordering) → (T (is_le o) → a ≤ b) → (T (not (is_le o)) → b < a) → (T (compare_is_eq o) → a ≡ b) → (a ≡ b → T (compare_is_eq o)) → Cmp o a b
    go Ordering.lt h k e n = lt_of_le-ne (h tt) n
    go Ordering.eq h k e n = e tt
    go Ordering.gt h k e n = k tt

-- a remainder of at most half, and of at least half: the tie goes to the even number
stay : (w r u : ℕ) (o : Ordering) → Cmp o (r * 2) u → r * 2 + 2 * (w % 2) ≤ u → nearest w o ≡ w
stay w r u Ordering.lt c h = refl
stay w r u Ordering.eq c h = omega arith
stay w r u Ordering.gt c h = absurd (omega arith)

rise : (w r u : ℕ) (o : Ordering) → Cmp o (r * 2) u → u + 2 * (suc w % 2) ≤ r * 2 → nearest w o ≡ suc w
rise w r u Ordering.lt c h = absurd (omega arith)
rise w r u Ordering.eq c h = omega arith
rise w r u Ordering.gt c h = refl

-- d / u is within a half of m, less at an odd m: m is the nearest
closest_is : (u h d m : ℕ) → u ≡ 2 * h → 1 ≤ h → m * u + m % 2 ≤ d + h → d + m % 2 ≤ m * u + h → closest d u ≡ m
closest_is u h d m eu hp lo hi = by (leb (m * u) d) refl
  where
    at : (w : ℕ) → w * u ≤ d → d < w * u + u → (d / u ≡ w) × (w * u + d % u ≡ d)
    at w a b =
        let e : d / u ≡ w = div-eq_of_lt-le u a (omega (arith, add-mul w 1 u, one-mul u)) in
        (e, ap (λ (z : ℕ). z * u + d % u) (sym e) ∙ div-add-mod' d u)

    less : (k : ℕ) → k * u + k % 2 ≤ d + h → d < k * u → closest d u ≡ k
    less zero l g = absurd (omega arith)
    less (suc w) l g =
        let s : suc w * u ≡ w * u + u = ap (λ (z : ℕ). z * u) (omega arith) ∙ (add-mul w 1 u ∙ ap (λ (z : ℕ). w * u + z) (one-mul u)) in
        let t = at w (omega arith) (omega arith) in
        ap (λ (z : ℕ). nearest z (compare (d % u * 2) u)) t.0 ∙ rise w (d % u) u (compare (d % u * 2) u) (cmp (d % u * 2) u) (omega (arith, t.1))

    by : (b : Bool) → leb (m * u) d ≡ b → closest d u ≡ m
    by true e =
        let t = at m (leb-true (m * u) d e) (omega arith) in
        ap (λ (z : ℕ). nearest z (compare (d % u * 2) u)) t.0 ∙ stay m (d % u) u (compare (d % u * 2) u) (cmp (d % u * 2) u) (omega (arith, t.1))
    by false e = less m lo (leb-false (m * u) d e)

-- a count of digits beyond the number's own changes nothing
tz_more : (d n : ℕ) → 0 < n → n < 2 ^ d → count_trailing_zeros (suc d) n ≡ count_trailing_zeros d n
unfolding count_trailing_zeros
tz_more zero n p h = absurd (omega arith)
tz_more (suc d) n p h = go (n % 2) refl (tz_more d (n / 2))
  where
    go : (r : ℕ) → n % 2 ≡ r → (0 < n / 2 → n / 2 < 2 ^ d → count_trailing_zeros (suc d) (n / 2) ≡ count_trailing_zeros d (n / 2))
        → under r (count_trailing_zeros (suc d) (n / 2)) ≡ under r (count_trailing_zeros d (n / 2))
    go zero e i = ap (under 0) (i (omega arith) (omega (arith, pow-suc 2 d)))
    go (suc r) e i = refl

odd_more : (d : ℕ) (s : Bool) (q k l : ℕ) → q < 2 ^ d → odd (suc d) s q k l ≡ odd d s q k l
unfolding odd
odd_more d s zero k l h = refl
odd_more d s (suc q) k l h = ap (λ (t : ℕ). fin s (suc q / 2 ^ t) (minus (k + t) l)) (tz_more d (suc q) (omega arith) h)

size_above : (w j : ℕ) → 2 ^ j ≤ w → j < size w
size_above w j h = by (leb (suc j) (size w)) refl
  where
    by : (b : Bool) → leb (suc j) (size w) ≡ b → j < size w
    by true e = leb-true (suc j) (size w) e
    by false e =
        let a = leb-false (suc j) (size w) e in
        let g : 2 ^ size w ≤ 2 ^ j = pow_mono (omega arith) in
        absurd (omega (arith, size-lt w))

size_is : (w j : ℕ) → 2 ^ j ≤ w → w < 2 ^ suc j → size w ≡ suc j
size_is w j h l = omega (arith, size_above w j h, size-le w (suc j) l)

units_in : (s : Bool) (m k : ℕ) → m ≤ 16777216 → m * 2 ^ k < 2 ^ 277 → units binary32 s m k ≡ odd 25 s m k 149
unfolding units
units_in s m k h l = simp (lt-ltb (m * 2 ^ k) (2 ^ 277) l)

-- the fraction d / 4 a of the smallest value, from the count of the digits that are dropped on
round_at : (s : Bool) (d a k : ℕ) → 0 < a → size (d / (4 * a)) - 24 ≡ k
    → round binary32 s d (4 * a * 2 ^ 149) ≡ units binary32 s (closest d (4 * a * 2 ^ k)) k
round_at s d a k p e =
    let f : 0 < 4 * a = omega arith in
    round_is binary32 s d (4 * a * 2 ^ 149)
    ∙ ap (core binary32 s (d * 2 ^ 149) (4 * a * 2 ^ 149)) (ap (λ (z : ℕ). size z - 24) (mul-div-mul_right d (4 * a) (pow_pos 149)) ∙ e)
    ∙ ap (λ (z : ℕ). units binary32 s z k)
    (closest_same (d * 2 ^ 149) (4 * a * 2 ^ 149 * 2 ^ k) d (4 * a * 2 ^ k) (mul-pos (mul-pos f (pow_pos 149)) (pow_pos k)) (mul-pos f (pow_pos k))
    (regroup d (2 ^ 149) (4 * a) (2 ^ k)))
  where
    regroup : (d b a p : ℕ) → d * b * (a * p) ≡ d * (a * b * p)
    regroup d b a p = simp (mul_assoc, mul_comm, mul_left_comm)

quads : (c p a : ℕ) → c * p * (4 * a) ≡ 4 * c * (p * a)
quads c p a = simp (mul_assoc, mul_comm, mul_left_comm)

module _ (s : Bool) (d m a : ℕ) (pa : 0 < a) (hm : m < 16777216) where
  -- below 2 ^ (j + k) where d is below 2 ^ (j + 2) quarters, and at least that where it is not
  under_size : (c j k : ℕ) → 2 ^ j ≡ c → d < 4 * c * (2 ^ k * a) → d / (4 * a) < 2 ^ (j + k)
  under_size c j k e h =
      rw (pow-add 2 j k, e) ((div-lt_iff_lt-mul {k = 4 * a} {x = d} {y = c * 2 ^ k} (omega arith)).1 (rw (quads c (2 ^ k) a) h))

  over_size : (c j k : ℕ) → 2 ^ j ≡ c → 4 * c * (2 ^ k * a) ≤ d → 2 ^ (j + k) ≤ d / (4 * a)
  over_size c j k e h =
      rw (pow-add 2 j k, e) ((le-div_iff_mul-le {k = 4 * a} {x = c * 2 ^ k} {y = d} (omega arith)).1 (rw (quads c (2 ^ k) a) h))

  same_drop : (k : ℕ) → k ≤ 253 → size (d / (4 * a)) - 24 ≡ k → 4 * m * (2 ^ k * a) + m % 2 ≤ d + 2 * (2 ^ k * a) → d + m % 2 ≤ 4 * m * (2 ^ k * a) + 2 * (2 ^ k * a)
      → round binary32 s d (4 * a * 2 ^ 149) ≡ odd 24 s m k 149
  same_drop k hk e lo hi =
      let y : 4 * a * 2 ^ k ≡ 4 * (2 ^ k * a) = simp (mul_assoc, mul_comm, mul_left_comm) in
      let u : 4 * a * 2 ^ k ≡ 2 * (2 * (2 ^ k * a)) = omega arith in
      let x : m * (4 * a * 2 ^ k) ≡ 4 * m * (2 ^ k * a) = simp (mul_assoc, mul_comm, mul_left_comm) in
      let q : 0 < 2 ^ k * a = mul-pos (pow_pos k) pa in
      round_at s d a k pa e
      ∙ ap (λ (z : ℕ). units binary32 s z k) (closest_is (4 * a * 2 ^ k) (2 * (2 ^ k * a)) d m u (omega arith) (omega arith) (omega arith))
      ∙ units_in s m k (omega arith) (lt_of_lt_of_le (shl_lt {a = m} 24 k hm) (pow_mono {i = 24 + k} {j = 277} (omega arith)))
      ∙ odd_more 24 s m k 149 hm

  -- a power of two, from below: a digit less is dropped, and the nearest is the next power of two
  from_below : (k : ℕ) → k < 253 → m ≡ 8388608 → d < 33554432 * (2 ^ suc k * a) → 33554432 * (2 ^ suc k * a) ≤ d + 2 ^ suc k * a
      → round binary32 s d (4 * a * 2 ^ 149) ≡ odd 24 s m (suc k) 149
  unfolding odd count_trailing_zeros
  from_below k hk em hi lo =
      let p : 2 ^ suc k * a ≡ 2 * (2 ^ k * a) = rw (pow-suc 2 k) (simp (mul_assoc, mul_comm, mul_left_comm)) in
      let q : 0 < 2 ^ k * a = mul-pos (pow_pos k) pa in
      let y : 4 * a * 2 ^ k ≡ 4 * (2 ^ k * a) = simp (mul_assoc, mul_comm, mul_left_comm) in
      let x : 16777216 * (4 * a * 2 ^ k) ≡ 67108864 * (2 ^ k * a) = omega arith in
      let z : size (d / (4 * a)) ≡ suc (23 + k) =
      size_is (d / (4 * a)) (23 + k) (over_size 8388608 23 k refl (omega arith))
      (lt_of_lt_of_le (under_size 16777216 24 k refl (omega arith)) (pow_mono {i = 24 + k} {j = suc (23 + k)} (omega arith))) in
      let n : k + 24 ≡ suc k + 23 = omega arith in
      round_at s d a k pa (omega arith)
      ∙ ap (λ (w : ℕ). units binary32 s w k) (closest_is (4 * a * 2 ^ k) (2 * (2 ^ k * a)) d 16777216 (omega arith) (omega arith) (omega arith) (omega arith))
      ∙ units_in s 16777216 k (omega arith) (lt_of_le_of_lt (le_of_eq (sym (pow-add 2 24 k))) (pow-lt {i = 24 + k} {j = 277} (omega arith)))
      ∙ ap (λ (w : ℕ). fin s 1 (minus w 149)) n
      ∙ ap (λ (w : ℕ). odd 24 s w (suc k) 149) (sym em)

  -- d is within half a step of m steps of 2 ^ k; of a power of two, within a quarter below
  pub near_round : (k : ℕ) → k ≤ 253 → (0 < k → 8388608 ≤ m) → (0 < k → m ≡ 8388608 → 4 * m * (2 ^ k * a) ≤ d + 2 ^ k * a)
      → 4 * m * (2 ^ k * a) + m % 2 ≤ d + 2 * (2 ^ k * a) → d + m % 2 ≤ 4 * m * (2 ^ k * a) + 2 * (2 ^ k * a)
      → round binary32 s d (4 * a * 2 ^ 149) ≡ odd 24 s m k 149
  near_round k hk normal sharp lo hi = by k hk normal sharp lo hi (size-le (d / (4 * a)) (24 + k) (under_size 16777216 24 k refl above))
    where
      above : d < 67108864 * (2 ^ k * a)
      above =
          let q : 0 < 2 ^ k * a = mul-pos (pow_pos k) pa in
          let t : 4 * m * (2 ^ k * a) ≤ 67108860 * (2 ^ k * a) = mul-le-mul_right (2 ^ k * a) (omega arith) in
          omega arith

      low : (j : ℕ) → 8388608 ≤ m → (m ≡ 8388608 → 4 * m * (2 ^ suc j * a) ≤ d + 2 ^ suc j * a) → 4 * m * (2 ^ suc j * a) + m % 2 ≤ d + 2 * (2 ^ suc j * a)
          → d < 33554432 * (2 ^ suc j * a) → (m ≡ 8388608) × (33554432 * (2 ^ suc j * a) ≤ d + 2 ^ suc j * a)
      low j n sh l h = pw (leb m 8388608) refl
        where
          pw : (b : Bool) → leb m 8388608 ≡ b → (m ≡ 8388608) × (33554432 * (2 ^ suc j * a) ≤ d + 2 ^ suc j * a)
          pw true e =
              let g = leb-true m 8388608 e in
              let em : m ≡ 8388608 = omega arith in
              (em, le_trans (le_of_eq (ap (λ (z : ℕ). 4 * z * (2 ^ suc j * a)) (sym em))) (sh em))
          pw false e =
              let g = leb-false m 8388608 e in
              let t : 33554436 * (2 ^ suc j * a) ≤ 4 * m * (2 ^ suc j * a) = mul-le-mul_right (2 ^ suc j * a) (omega arith) in
              absurd (omega arith)

      by : (j : ℕ) → j ≤ 253 → (0 < j → 8388608 ≤ m) → (0 < j → m ≡ 8388608 → 4 * m * (2 ^ j * a) ≤ d + 2 ^ j * a)
          → 4 * m * (2 ^ j * a) + m % 2 ≤ d + 2 * (2 ^ j * a) → d + m % 2 ≤ 4 * m * (2 ^ j * a) + 2 * (2 ^ j * a)
          → size (d / (4 * a)) ≤ 24 + j → round binary32 s d (4 * a * 2 ^ 149) ≡ odd 24 s m j 149
      by zero hj n sh l h z = same_drop 0 hj (omega arith) l h
      by (suc j) hj n sh l h z = pick (leb (33554432 * (2 ^ suc j * a)) d) refl
        where
          pick : (b : Bool) → leb (33554432 * (2 ^ suc j * a)) d ≡ b → round binary32 s d (4 * a * 2 ^ 149) ≡ odd 24 s m (suc j) 149
          pick true e =
              let r : 2 ^ (23 + suc j) ≤ d / (4 * a) = over_size 8388608 23 (suc j) refl (leb-true (33554432 * (2 ^ suc j * a)) d e) in
              same_drop (suc j) hj (omega (arith, size_above (d / (4 * a)) (23 + suc j) r)) l h
          pick false e =
              let g = leb-false (33554432 * (2 ^ suc j * a)) d e in
              let t = low j (n (omega arith)) (sh (omega arith)) l g in
              from_below j (omega arith) t.0 g t.1

-- the ends of an interval, as `near_round` wants them
near_ends : (m g q d : ℕ) → g ≤ 2 → reads ((4 * m - g) * q) ((4 * m + 2) * q) (m % 2) d ≡ true
    → (4 * m * q + m % 2 ≤ d + 2 * q) × (d + m % 2 ≤ 4 * m * q + 2 * q)
near_ends m g q d h r =
    let t = reads_ends ((4 * m - g) * q) ((4 * m + 2) * q) (m % 2) d r in
    let a = add-mul (4 * m) 2 q in
    let b = add-mul (4 * m - g) 2 q in
    let c : 4 * m * q ≤ (4 * m - g + 2) * q = mul-le-mul_right q (omega arith) in
    (omega arith, omega arith)

near_sharp : (m g q d : ℕ) → g ≤ 1 → reads ((4 * m - g) * q) ((4 * m + 2) * q) (m % 2) d ≡ true → 4 * m * q ≤ d + q
near_sharp m g q d h r =
    let t = reads_ends ((4 * m - g) * q) ((4 * m + 2) * q) (m % 2) d r in
    let b = add-mul (4 * m - g) 1 q in
    let c : 4 * m * q ≤ (4 * m - g + 1) * q = mul-le-mul_right q (omega arith) in
    omega (arith, one-mul q)

gap_most : (e f : ℕ) → lower_gap e f ≤ 2
unfolding lower_gap
gap_most e f = by (eqb f 0) (ltb 1 e)
  where
    by : (b c : Bool) → cond b (cond c 1 2) 2 ≤ 2
    by true true = omega arith
    by true false = omega arith
    by false c = omega arith

gap_power : (y : ℕ) → lower_gap (suc (suc y)) 0 ≤ 1
unfolding lower_gap
gap_power y = simp (lt-ltb 1 (suc (suc y)) (omega arith)) (omega arith)

five : 0 < 5 ^ 151
five = one-le-pow 151 5 (omega arith)

gap_sharp : (x f : ℕ) → 0 < x → 8388608 + f ≡ 8388608 → lower_gap (suc x) f ≤ 1
gap_sharp zero f h e = absurd (omega arith)
gap_sharp (suc y) f h e = let z : f ≡ 0 = omega arith in rw z (gap_power y)

normal : (s : Bool) (x f d : ℕ) → x < 254 → f < 8388608
    → reads ((4 * (8388608 + f) - lower_gap (suc x) f) * (2 ^ x * 5 ^ 151)) ((4 * (8388608 + f) + 2) * (2 ^ x * 5 ^ 151)) ((8388608 + f) % 2) d ≡ true
    → round binary32 s d (10 ^ 151) ≡ odd 24 s (8388608 + f) x 149
normal s x f d hx hf r =
    near_round s d (8388608 + f) (5 ^ 151) five (omega arith) x (omega arith) (λ z. omega arith)
    (λ z e. near_sharp (8388608 + f) (lower_gap (suc x) f) (2 ^ x * 5 ^ 151) d (gap_sharp x f z e) r)
    (near_ends (8388608 + f) (lower_gap (suc x) f) (2 ^ x * 5 ^ 151) d (gap_most (suc x) f) r).0
    (near_ends (8388608 + f) (lower_gap (suc x) f) (2 ^ x * 5 ^ 151) d (gap_most (suc x) f) r).1

-- a number in the rounding interval of an f32 rounds to it
pub rounds : (s : Bool) (e f d : ℕ) → e < 255 → f < 8388608 → rounds_to e f d ≡ true → round binary32 s d (10 ^ 151) ≡ of_fields binary32 s e f
unfolding rounds_to significand scale_field quarter of_fields
rounds s zero f d he hf r =
    near_round s d f (5 ^ 151) five (omega arith) 0 (omega arith) (λ z. absurd (omega arith)) (λ z g. absurd (omega arith))
    (near_ends f (lower_gap 0 f) (2 ^ 0 * 5 ^ 151) d (gap_most 0 f) r).0 (near_ends f (lower_gap 0 f) (2 ^ 0 * 5 ^ 151) d (gap_most 0 f) r).1
rounds s (suc x) f d he hf r =
    simp (ne_eqb (suc x) 255 (λ e. omega arith)) (normal s x f d (omega arith) hf (simp (ne_eqb (suc x) 0 (λ e. omega arith), sub-one) at r))

sign_is : (b : ℕ) → b < 4294967296 → eqb (sign_field b) 1 ≡ leb 2147483648 b
unfolding sign_field
sign_is b l = by (leb 2147483648 b) refl
  where
    by : (t : Bool) → leb 2147483648 b ≡ t → eqb (b / 2147483648) 1 ≡ t
    by true q = let k = leb-true 2147483648 b q in eq-eqb (b / 2147483648) 1 (omega arith)
    by false q = let k = leb-false 2147483648 b q in ne_eqb (b / 2147483648) 1 (λ z. omega arith)

field_is : (b : ℕ) → b / 8388608 % 256 ≡ b % 2147483648 / 8388608
field_is b = omega arith

-- the sign and the number that are written, rounded to nearest with ties to even, are the f32
pub float_back : (bits : ℕ) → bits < 4294967296 → exponent_field bits < 255
    → round binary32 (eqb (sign_field bits) 1) (decimal_of (exponent_field bits) (fraction_field bits)) (10 ^ 151) ≡ of_bits binary32 bits
unfolding exponent_field fraction_field of_bits
float_back bits h e =
    rounds (eqb (sign_field bits) 1) (bits / 8388608 % 256) (bits % 8388608) (decimal_of (bits / 8388608 % 256) (bits % 8388608)) e (omega arith)
    (reads_back (bits / 8388608 % 256) (bits % 8388608))
    ∙ ap (λ (t : Bool). of_fields binary32 t (bits / 8388608 % 256) (bits % 8388608)) (sign_is bits h)
    ∙ ap (λ (x : ℕ). of_fields binary32 (leb 2147483648 bits) x (bits % 8388608)) (field_is bits)

no_nan : (bits : ℕ) → exponent_field bits < 255 → T (not (is_nan (of_bits binary32 bits)))
unfolding exponent_field nan_bits
no_nan bits e =
    let n : eqb (bits % 2147483648 / 8388608) 255 ≡ false = ne_eqb (bits % 2147483648 / 8388608) 255 (λ z. omega (arith, field_is bits)) in
    subst (λ (t : Bool). T (not t)) (nan_bits_is binary32 bits) (rw n tt)

-- so the bits are those that were given
pub bits_back : (bits : ℕ) → bits < 4294967296 → exponent_field bits < 255
    → to_bits binary32 (round binary32 (eqb (sign_field bits) 1) (decimal_of (exponent_field bits) (fraction_field bits)) (10 ^ 151)) ≡ bits
bits_back bits h e = ap (to_bits binary32) (float_back bits h e) ∙ to_bits-of_bits binary32 bits h (no_nan bits e)
