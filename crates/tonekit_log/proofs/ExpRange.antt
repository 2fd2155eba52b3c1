-- exp of a number from -708 to 0 lies from 0 to 1. With n = -k, v - n·hi is of size at most 23/64, and so the rest r at most 3/8: rounding
-- keeps the order, so that every bound by a fraction of few digits that holds for an exact sum or product holds for the rounded one. Then q is at
-- most 13/8, and its half at most 1; and where k is 0, r is not above 0, and q at most 1. Assumes nothing.
use Rattle.std.proofs.Common.{◌≡◌, ℕ, zero, suc, ◌+◌, ◌-◌, ◌*◌, ◌/◌, ◌^◌, ◌<◌, ◌≤◌, Bool, true, false, ◌&&◌, T, ℤ, pos, negsuc, neg_ℤ, sym, refl, ap, ◌∙◌, subst, true≢false, le_trans, le_of_eq, lt_of_lt_of_le, le_of_suc-le-suc, lt_irrefl, zero-le, mul-le-mul_right, zero-lt-suc, mul_assoc, mul_comm, div-lt_iff_lt-mul, add-mul, mul-lt-mul_of_pos_right, mul-pos, one-mul, lt_of_not-le, zero-mul, mul-add, div-mul-le_self, le_of_mul-le-mul_right, mul_left_comm, arith, lit<, lit≤, pow_pos, pow_mono, pow-add, Float}
use native.Mathlib.Nat.{div-eq_of_lt}
use lib.Ieee.{nan, inf, fin, binary64, up, down, round, neg, sum, add, sub, mul, div, lt, le, eq, is_nan, of_int, of_bits, fits}
use lib.Ieee.Exact.{HasValue, round_exact}
use lib.Ieee.Fits.{and_l, and_r, down_pos, round-fits}
use lib.Ieee.Positive.{den, den_pos, positive}
use lib.Ieee.Scale.{finite}
use Rattle.spec_arithmetic.specs.Bounds.{In}
use Rattle.tonekit_float.proofs.Fraction.{pos_part, neg_part}
use Rattle.tonekit_float.proofs.Order.{yes, lt→le, le→under, under→le, neg_finite, neg_le, flipped, le_trans_float}
use Rattle.tonekit_float.proofs.Monotone.{Rounds, zero_f, add_rounds, mul_rounds, mul_comm_float, sub_le}
use Rattle.tonekit_float.proofs.Bounds.{in_finite, in_wider, in_add, in_sub, in_mul, in_div, in_scale, finite4, about0}
use Rattle.tonekit_float.proofs.Exact.{one_f, rounds_under, rounds_over, whole, whole_le}
use Rattle.spec_arithmetic.specs.Constants.{LN2_HI, LN2_LO, LOG2E, half, one64, bound, whole64}
use Rattle.tonekit_log.proofs.Powers.{minus_is, high32, high_exact}
use Rattle.tonekit_log.proofs.LogRange.{in_times}
use Rattle.tonekit_log.proofs.Turns.{by_log2e, inside, keeps, v_finite, times_finite, turns_finite, no_deeper}
use Rattle.tonekit_log.proofs.ExpCases.{exp_is}
use Rattle.spec_arithmetic.specs.Exp.{exp_horner, exp_series, floor_of, rest, exp_by, exp_of}

-- ---- -n / 2 ^ b, exactly
shl_lt : (n c : ℕ) → n < 2 ^ 53 → c ≤ 1074 → n * 2 ^ c < 2 ^ 2098
shl_lt n c h k =
    lt_of_lt_of_le (mul-lt-mul_of_pos_right h (pow_pos c)) (le_trans (le_of_eq (sym (pow-add 2 53 c))) (pow_mono {i = 53 + c} {j = 2098} (room c k)))
  where
    room : (c : ℕ) → c ≤ 1074 → 53 + c ≤ 2098
    room c k = omega arith

dyadic : (n b c : ℕ) → c + b ≡ 1074 → n < 2 ^ 53 → HasValue (round binary64 true n (2 ^ b)) true n (2 ^ b)
dyadic n b c e h =
    round_exact binary64 true n (2 ^ b) n c (pow_pos b) h (shl_lt n c h (part c b e))
    (ap (λ (k : ℕ). n * 2 ^ k) (sym e) ∙ ap (λ (k : ℕ). n * k) (pow-add 2 c b) ∙ sym (mul_assoc n (2 ^ c) (2 ^ b)))
  where
    part : (c b : ℕ) → c + b ≡ 1074 → c ≤ 1074
    part c b e = omega arith

record Minus (z : Float) (n B : ℕ) : Type 0 where
  real : T (finite z)
  none : pos_part z ≡ 0
  is : neg_part z * B ≡ n * den z

minus_of : (z : Float) (n B : ℕ) → HasValue z true n B → Minus z n B
minus_of nan n B v = absurd v
minus_of (inf s) n B v = absurd v
minus_of (fin false m e) n B v = absurd (true≢false (sym v.0))
minus_of (fin true m e) n B v = record { real = tt; none = refl; is = v.1 }

-- a bound by -n / B is one by -M / Z, if these are equal
swap_le : (p q d n B M Z : ℕ) → 0 < B → M * B ≡ n * Z → p * B + n * d ≤ q * B → p * Z + M * d ≤ q * Z
swap_le p q d n B M Z b e h =
    let x = simp (add-mul, mul_assoc, mul_comm, mul_left_comm) at (mul-le-mul_right Z h) in
    let y = simp (mul_assoc, mul_comm, mul_left_comm) at (ap (λ (k : ℕ). k * d) e) in
    let z : (p * Z + M * d) * B ≤ q * Z * B = simp (add-mul, mul_assoc, mul_comm, mul_left_comm) (omega (arith, x, y)) in
    le_of_mul-le-mul_right z b

swap_ge : (p q d n B M Z : ℕ) → 0 < B → M * B ≡ n * Z → q * B ≤ p * B + n * d → q * Z ≤ p * Z + M * d
swap_ge p q d n B M Z b e h =
    let x = simp (add-mul, mul_assoc, mul_comm, mul_left_comm) at (mul-le-mul_right Z h) in
    let y = simp (mul_assoc, mul_comm, mul_left_comm) at (ap (λ (k : ℕ). k * d) e) in
    let z : q * Z * B ≤ (p * Z + M * d) * B = simp (add-mul, mul_assoc, mul_comm, mul_left_comm) (omega (arith, x, y)) in
    le_of_mul-le-mul_right z b

-- ---- x is (p - q) / d, rounded: a bound of the fraction by -n / 2 ^ b is one of x
module _ (x : Float) (p q d n b c : ℕ) (e : c + b ≡ 1074) (small : n < 2 ^ 53) (D : 0 < d) (F : T (finite x)) (R : Rounds binary64 x p q d) where
  abbrev z : Float
  z = round binary64 true n (2 ^ b)

  Z : Minus z n (2 ^ b)
  Z = minus_of z n (2 ^ b) (dyadic n b c e small)

  at_most_lem : p * 2 ^ b + n * d ≤ q * 2 ^ b → pos_part x * 2 ^ b + n * den x ≤ neg_part x * 2 ^ b
  at_most_lem h =
      let k = swap_le p q d n (2 ^ b) (neg_part z) (den z) (pow_pos b) Z.is h in
      let o : pos_part z * d ≡ 0 = ap (λ (i : ℕ). i * d) Z.none ∙ zero-mul d in
      let o' : pos_part z * den x ≡ 0 = ap (λ (i : ℕ). i * den x) Z.none ∙ zero-mul (den x) in
      let l = rounds_under binary64 x z p q d D (round-fits binary64 true n (2 ^ b)) Z.real R (omega arith) in
      let u = le→under x z F Z.real l in
      swap_le (pos_part x) (neg_part x) (den x) (neg_part z) (den z) n (2 ^ b) (den_pos z) (sym Z.is) (omega arith)

  at_least : q * 2 ^ b ≤ p * 2 ^ b + n * d → neg_part x * 2 ^ b ≤ pos_part x * 2 ^ b + n * den x
  at_least h =
      let k = swap_ge p q d n (2 ^ b) (neg_part z) (den z) (pow_pos b) Z.is h in
      let o : pos_part z * d ≡ 0 = ap (λ (i : ℕ). i * d) Z.none ∙ zero-mul d in
      let o' : pos_part z * den x ≡ 0 = ap (λ (i : ℕ). i * den x) Z.none ∙ zero-mul (den x) in
      let l = rounds_over binary64 x z p q d D (round-fits binary64 true n (2 ^ b)) Z.real R (omega arith) in
      let u = le→under z x Z.real F l in
      swap_ge (pos_part x) (neg_part x) (den x) (neg_part z) (den z) n (2 ^ b) (den_pos z) (sym Z.is) (omega arith)

-- ---- n = -k is the whole number at or below t
record FloorAt (t : Float) (k : ℕ) : Type 0 where
  floor : floor_of t ≡ neg_ℤ (pos k)
  few : k ≤ 1022
  low : neg_part t ≤ pos_part t + k * den t
  high : k * den t + pos_part t < den t + neg_part t

record Floored (t : Float) : Type 0 where
  k : ℕ
  at : FloorAt t k

floored : (t : Float) → T (finite t) → T (le (fin true 511 (pos 1)) t) → T (le t (fin false 1 (negsuc 0))) → Floored t
unfolding floor_of
floored nan f h l = absurd f
floored (inf s) f h l = absurd f
floored (fin false m e) f h l =
    let D = down_pos e in
    let u = le→under (fin false m e) (fin false 1 (negsuc 0)) tt tt l in
    record { k = 0; at = record { floor = ap pos (div-eq_of_lt (omega arith)); few = lit≤ tt; low = omega arith; high = omega arith } }
floored (fin true m e) f h l =
    let M = m * up e in
    let D = down e in
    let d = down_pos e in
    let k = (M + (D - 1)) / D in
    let u = le→under (fin true 511 (pos 1)) (fin true m e) tt tt h in
    let hi : k * D ≤ M + (D - 1) = div-mul-le_self (M + (D - 1)) D in
    let lo : M + (D - 1) < (k + 1) * D = (div-lt_iff_lt-mul d).0 (next k) in
    let x : (k + 1) * D ≡ k * D + D = add-mul k 1 D ∙ ap (λ (i : ℕ). k * D + i) (one-mul D) in
    let q : k < 1023 = (div-lt_iff_lt-mul d).1 (omega arith) in
    record { k = k; at = record { floor = refl; few = omega arith; low = omega arith; high = omega arith } }
  where
    next : (k : ℕ) → k < k + 1
    next k = omega arith

-- ---- from t back to v: v·LOG2E lies above -k - 33/64, and below -k + 1/2
-- 2 ^ 51 LOG2E
abbrev l2e : ℕ
l2e = 0xB_8AA3_B295_C17F

constants : (LOG2E ≡ fin false l2e (negsuc 50)) × (half ≡ fin false 1 (negsuc 0))
unfolding of_bits
constants = (refl, refl)

times_rounds : (v : Float) → T (finite v) → Rounds binary64 (mul binary64 v LOG2E) (pos_part v * l2e + neg_part v * 0) (pos_part v * 0 + neg_part v * l2e) (den v * 2 ^ 51)
times_rounds v f =
    subst (λ (y : Float). Rounds binary64 (mul binary64 v y) (pos_part v * l2e + neg_part v * 0) (pos_part v * 0 + neg_part v * l2e) (den v * 2 ^ 51)) (sym constants.0)
    (mul_rounds binary64 v (fin false l2e (negsuc 50)) f tt)

half_rounds : (w : Float) → T (finite w) → Rounds binary64 (add binary64 w half) (pos_part w * 2 + 1 * den w) (neg_part w * 2 + 0 * den w) (den w * 2)
half_rounds w f =
    subst (λ (y : Float). Rounds binary64 (add binary64 w y) (pos_part w * 2 + 1 * den w) (neg_part w * 2 + 0 * den w) (den w * 2)) (sym constants.1)
    (add_rounds binary64 w (fin false 1 (negsuc 0)) f tt)

record Near (v : Float) (k : ℕ) : Type 0 where
  upper : 64 * (neg_part v * l2e) < (64 * k + 33) * (den v * 2 ^ 51)
  lower : 0 < k → (2 * k - 1) * (den v * 2 ^ 51) < 2 * (neg_part v * l2e)

module _ (v : Float) (k : ℕ) (A : T (finite v)) (N : pos_part v ≡ 0) (W : T (finite (mul binary64 v LOG2E))) (F : T (finite (by_log2e v))) (a : FloorAt (by_log2e v) k) where
  abbrev w : Float
  w = mul binary64 v LOG2E

  abbrev t : Float
  t = by_log2e v

  sum_up : 64 * neg_part w < 64 * pos_part w + (64 * k + 33) * den w
  sum_up = lt_of_not-le (λ h. contrary h)
    where
      contrary : 64 * pos_part w + (64 * k + 33) * den w ≤ 64 * neg_part w → ⊥
      contrary h =
          let n = 64 * k + 1 in
          let few = a.few in
          let D : 0 < den w * 2 = mul-pos (den_pos w) (lit< tt) in
          let x : (64 * k + 33) * den w ≡ 64 * (k * den w) + 33 * den w = add-mul (64 * k) 33 (den w) ∙ ap (λ (i : ℕ). i + 33 * den w) (mul_assoc 64 k (den w)) in
          let y : n * (den w * 2) ≡ 128 * (k * den w) + 2 * den w = simp (add-mul, mul_assoc, mul_comm, mul_left_comm) (omega arith) in
          let l = at_most_lem t (pos_part w * 2 + 1 * den w) (neg_part w * 2 + 0 * den w) (den w * 2) n 6 1068 refl (omega arith) D F (half_rounds w W) (omega arith) in
          let s : n * den t ≡ 64 * (k * den t) + den t = add-mul (64 * k) 1 (den t) ∙ ap (λ (i : ℕ). i + 1 * den t) (mul_assoc 64 k (den t)) ∙ ap (λ (i : ℕ). 64 * (k * den t) + i) (one-mul (den t)) in
          let g = a.low in
          let d = den_pos t in
          lt_irrefl 0 (omega arith)

  sum_down : 0 < k → 2 * pos_part w + (2 * k - 1) * den w < 2 * neg_part w
  sum_down K = lt_of_not-le (λ h. contrary h)
    where
      contrary : 2 * neg_part w ≤ 2 * pos_part w + (2 * k - 1) * den w → ⊥
      contrary h =
          let n = k - 1 in
          let few = a.few in
          let D : 0 < den w * 2 = mul-pos (den_pos w) (lit< tt) in
          let x : (2 * k - 1) * den w ≡ 2 * (n * den w) + den w = ap (λ (i : ℕ). i * den w) (twice k K) ∙ add-mul (2 * n) 1 (den w) ∙ ap (λ (i : ℕ). i + 1 * den w) (mul_assoc 2 n (den w)) ∙ ap (λ (i : ℕ). 2 * (n * den w) + i) (one-mul (den w)) in
          let y : n * (den w * 2) ≡ 2 * (n * den w) = simp (mul_assoc, mul_comm, mul_left_comm) in
          let l = at_least t (pos_part w * 2 + 1 * den w) (neg_part w * 2 + 0 * den w) (den w * 2) n 0 1074 refl (omega arith) D F (half_rounds w W) (omega arith) in
          let s : k * den t ≡ n * den t + den t = ap (λ (i : ℕ). i * den t) (back k K) ∙ add-mul n 1 (den t) ∙ ap (λ (i : ℕ). n * den t + i) (one-mul (den t)) in
          let g = a.high in
          lt_irrefl 0 (omega arith)
        where
          twice : (k : ℕ) → 0 < k → 2 * k - 1 ≡ 2 * (k - 1) + 1
          twice k h = omega arith

          back : (k : ℕ) → 0 < k → k ≡ k - 1 + 1
          back k h = omega arith

  near : Near v k
  near = record {
    upper = lt_of_not-le (λ h. over h);
    lower = λ K. lt_of_not-le (λ h. under K h);
  }
    where
      D : 0 < den v * 2 ^ 51
      D = mul-pos (den_pos v) (pow_pos 51)

      over : (64 * k + 33) * (den v * 2 ^ 51) ≤ 64 * (neg_part v * l2e) → ⊥
      over h =
          let few = a.few in
          let o : pos_part v * l2e ≡ 0 = ap (λ (i : ℕ). i * l2e) N ∙ zero-mul l2e in
          let l = at_most_lem w (pos_part v * l2e + neg_part v * 0) (pos_part v * 0 + neg_part v * l2e) (den v * 2 ^ 51) (64 * k + 33) 6 1068 refl (omega arith) D W (times_rounds v A) (omega arith) in
          let g = sum_up in
          lt_irrefl 0 (omega arith)

      under : 0 < k → 2 * (neg_part v * l2e) ≤ (2 * k - 1) * (den v * 2 ^ 51) → ⊥
      under K h =
          let few = a.few in
          let o : pos_part v * l2e ≡ 0 = ap (λ (i : ℕ). i * l2e) N ∙ zero-mul l2e in
          let l = at_least w (pos_part v * l2e + neg_part v * 0) (pos_part v * 0 + neg_part v * l2e) (den v * 2 ^ 51) (2 * k - 1) 1 1073 refl (omega arith) D W (times_rounds v A) (omega arith) in
          let g = sum_down K in
          lt_irrefl 0 (omega arith)

-- ---- n is -k as an f64; n·hi lies between -k a and -k b, in units of 2 ^ -24
abbrev n_of : ℕ → Float
n_of k = of_int binary64 (neg_ℤ (pos k))

abbrev lo24 : ℕ
lo24 = 11629079

abbrev hi24 : ℕ
hi24 = 11629080

record Product (u : Float) (k : ℕ) : Type 0 where
  real : T (finite u)
  low : pos_part u * 2 ^ 24 + k * lo24 * den u ≤ neg_part u * 2 ^ 24
  high : neg_part u * 2 ^ 24 ≤ pos_part u * 2 ^ 24 + k * hi24 * den u

product : (k : ℕ) → k ≤ 1022 → Product (mul binary64 (n_of k) LN2_HI) k
product zero h = unfold mul of_int of_bits round in record { real = tt; low = lit≤ tt; high = lit≤ tt }
product (suc j) h =
    let u = mul binary64 (n_of (suc j)) LN2_HI in
    let m = minus_of u (suc j * high32) (2 ^ 32) (high_exact (negsuc j) (omega arith)) in
    let n = m.none in
    let is = m.is in
    let a : suc j * high32 * den u ≡ high32 * (suc j * den u) = simp (mul_assoc, mul_comm) in
    let b : suc j * lo24 * den u ≡ lo24 * (suc j * den u) = simp (mul_assoc, mul_comm) in
    let c : suc j * hi24 * den u ≡ hi24 * (suc j * den u) = simp (mul_assoc, mul_comm) in
    record { real = m.real; low = omega arith; high = omega arith }

-- ---- r
rest_up : (M D k U P E : ℕ) → U * 2 ^ 24 ≤ P * 2 ^ 24 + k * hi24 * E → 64 * (hi24 * (k * D)) ≤ 2 ^ 24 * (23 * D + 64 * M) → (0 * E + U * D) * 64 + 0 * (D * E) ≤ 23 * (D * E) + (M * E + P * D) * 64
rest_up M D k U P E h g =
    let x = simp (add-mul, mul_assoc, mul_comm, mul_left_comm) at (mul-le-mul_right D h) in
    let y = simp (add-mul, mul-add, mul_assoc, mul_comm, mul_left_comm) at (mul-le-mul_right E g) in
    simp (add-mul, mul_assoc, mul_comm, mul_left_comm, zero-mul) (omega (arith, x, y))

rest_down : (M D k U P E : ℕ) → P * 2 ^ 24 + k * lo24 * E ≤ U * 2 ^ 24 → 2 ^ 24 * (64 * M) ≤ 64 * (lo24 * (k * D)) + 2 ^ 24 * (23 * D) → 0 * (D * E) + (M * E + P * D) * 64 ≤ (0 * E + U * D) * 64 + 23 * (D * E)
rest_down M D k U P E h g =
    let x = simp (add-mul, mul_assoc, mul_comm, mul_left_comm) at (mul-le-mul_right D h) in
    let y = simp (add-mul, mul-add, mul_assoc, mul_comm, mul_left_comm) at (mul-le-mul_right E g) in
    simp (add-mul, mul_assoc, mul_comm, mul_left_comm, zero-mul) (omega (arith, x, y))

-- LOG2E lies between these, in units of 2 ^ -20
abbrev lo20 : ℕ
lo20 = 1512775

abbrev hi20 : ℕ
hi20 = 1512776

coarse_up : (X M : ℕ) → X * 2 ^ 51 < 2 * (M * l2e) → X * 2 ^ 20 < 2 * (M * hi20)
coarse_up X M h = omega arith

coarse_down : (X M : ℕ) → 64 * (M * l2e) < X * 2 ^ 51 → 64 * (M * lo20) < X * 2 ^ 20
coarse_down X M h = omega arith

up_sum : (M D jD kD : ℕ) → (2 * jD + D) * 2 ^ 20 < 2 * (M * hi20) → kD ≡ jD + D → jD ≤ 1021 * D → 64 * (hi24 * kD) ≤ 2 ^ 24 * (23 * D + 64 * M)
up_sum M D jD kD h e f = omega arith

down_sum : (M D kD : ℕ) → 64 * (M * lo20) < (64 * kD + 33 * D) * 2 ^ 20 → kD ≤ 1022 * D → 2 ^ 24 * (64 * M) ≤ 64 * (lo24 * kD) + 2 ^ 24 * (23 * D)
down_sum M D kD h f = omega arith

coefficient_up : (M D k : ℕ) → k ≤ 1022 → (0 < k → (2 * k - 1) * (D * 2 ^ 51) < 2 * (M * l2e)) → 64 * (hi24 * (k * D)) ≤ 2 ^ 24 * (23 * D + 64 * M)
coefficient_up M D zero h g = omega arith
coefficient_up M D (suc j) h g =
    let x : (2 * suc j - 1) * D ≡ 2 * (j * D) + D = ap (λ (i : ℕ). i * D) (twice j) ∙ add-mul (2 * j) 1 D ∙ ap (λ (i : ℕ). i + 1 * D) (mul_assoc 2 j D) ∙ ap (λ (i : ℕ). 2 * (j * D) + i) (one-mul D) in
    let z : suc j * D ≡ j * D + D = ap (λ (i : ℕ). i * D) (one_more j) ∙ add-mul j 1 D ∙ ap (λ (i : ℕ). j * D + i) (one-mul D) in
    let k = coarse_up ((2 * suc j - 1) * D) M (subst (λ (i : ℕ). i < 2 * (M * l2e)) (sym (mul_assoc (2 * suc j - 1) D (2 ^ 51))) (g (zero-lt-suc j))) in
    up_sum M D (j * D) (suc j * D) (subst (λ (i : ℕ). i * 2 ^ 20 < 2 * (M * hi20)) x k) z (mul-le-mul_right D (le_of_suc-le-suc h))
  where
    twice : (j : ℕ) → 2 * suc j - 1 ≡ 2 * j + 1
    twice j = omega arith

    one_more : (j : ℕ) → suc j ≡ j + 1
    one_more j = omega arith

coefficient_down : (M D k : ℕ) → k ≤ 1022 → 64 * (M * l2e) < (64 * k + 33) * (D * 2 ^ 51) → 2 ^ 24 * (64 * M) ≤ 64 * (lo24 * (k * D)) + 2 ^ 24 * (23 * D)
coefficient_down M D k h g =
    let x : (64 * k + 33) * D ≡ 64 * (k * D) + 33 * D = add-mul (64 * k) 33 D ∙ ap (λ (i : ℕ). i + 33 * D) (mul_assoc 64 k D) in
    let y = coarse_down ((64 * k + 33) * D) M (subst (λ (i : ℕ). 64 * (M * l2e) < i) (sym (mul_assoc (64 * k + 33) D (2 ^ 51))) g) in
    down_sum M D (k * D) (subst (λ (i : ℕ). 64 * (M * lo20) < i * 2 ^ 20) x y) (mul-le-mul_right D h)

-- v - n·hi, at most 23/64
abbrev most_d : Float
most_d = fin false 23 (negsuc 5)

abbrev least_d : Float
least_d = fin true 23 (negsuc 5)

ends_fit : T (fits binary64 most_d) × T (fits binary64 least_d)
unfolding fits
ends_fit = (tt, tt)

abbrev difference : Float → ℕ → Float
difference v k = sub binary64 v (mul binary64 (n_of k) LN2_HI)

difference_in : (v : Float) (k : ℕ) → T (finite v) → pos_part v ≡ 0 → k ≤ 1022 → Near v k → In least_d most_d (difference v k)
unfolding sub
difference_in v k f n h a =
    let u = mul binary64 (n_of k) LN2_HI in
    let P = product k h in
    let g = flipped u in
    let R = add_rounds binary64 v (neg u) f (neg_finite u P.real) in
    let M = neg_part v in
    let D = den v in
    let E = den u in
    let p : pos_part v * den (neg u) + pos_part (neg u) * D ≡ 0 * E + neg_part u * D = ap (λ (i : ℕ). i * den (neg u) + pos_part (neg u) * D) n ∙ ap (λ (i : ℕ). 0 * i + pos_part (neg u) * D) g.over ∙ ap (λ (i : ℕ). 0 * E + i * D) g.up in
    let q : M * den (neg u) + neg_part (neg u) * D ≡ M * E + pos_part u * D = ap (λ (i : ℕ). M * i + neg_part (neg u) * D) g.over ∙ ap (λ (i : ℕ). M * E + i * D) g.below in
    let d : D * den (neg u) ≡ D * E = ap (λ (i : ℕ). D * i) g.over in
    let R' : Rounds binary64 (add binary64 v (neg u)) (0 * E + neg_part u * D) (M * E + pos_part u * D) (D * E) =
    subst (λ (i : ℕ). Rounds binary64 (add binary64 v (neg u)) i (M * E + pos_part u * D) (D * E)) p
    (subst (λ (i : ℕ). Rounds binary64 (add binary64 v (neg u)) (pos_part v * den (neg u) + pos_part (neg u) * D) i (D * E)) q
    (subst (λ (i : ℕ). Rounds binary64 (add binary64 v (neg u)) (pos_part v * den (neg u) + pos_part (neg u) * D) (M * den (neg u) + neg_part (neg u) * D) i) d R)) in
    let pos-d = mul-pos (den_pos v) (den_pos u) in
    record {
      low = rounds_over binary64 (add binary64 v (neg u)) least_d _ _ _ pos-d ends_fit.1 tt R' (rest_down M D k (neg_part u) (pos_part u) E P.low (coefficient_down M D k h a.upper));
      high = rounds_under binary64 (add binary64 v (neg u)) most_d _ _ _ pos-d ends_fit.0 tt R' (rest_up M D k (neg_part u) (pos_part u) E P.high (coefficient_up M D k h a.lower));
    }

-- n·lo, from -1022·lo to 0
abbrev whole1022 : Float
whole1022 = whole binary64 1022

n_ends : T (le (neg whole1022) (n_of 0)) × T (le (n_of 0) zero_f) × T (le (neg (whole binary64 0)) zero_f)
unfolding neg of_int round le lt eq
n_ends = (tt, tt, tt)

n_in : (k : ℕ) → k ≤ 1022 → In (neg whole1022) zero_f (n_of k)
n_in zero h = record { low = n_ends.0; high = n_ends.1 }
n_in (suc j) h =
    let n = whole binary64 (suc j) in
    subst (λ (y : Float). In (neg whole1022) zero_f y) (sym (minus_is j))
    (record {
      low = neg_le n whole1022 (whole_le binary64 (suc j) 1022 h);
      high = le_trans_float (neg n) (neg (whole binary64 0)) zero_f (neg_le (whole binary64 0) n (whole_le binary64 0 (suc j) zero-le)) n_ends.2;
    })

-- r, at most 3/8
abbrev most_r : Float
most_r = fin false 3 (negsuc 2)

abbrev least_r : Float
least_r = fin true 3 (negsuc 2)

abbrev least_low : Float
least_low = mul binary64 (neg whole1022) LN2_LO

abbrev most_low : Float
most_low = mul binary64 zero_f LN2_LO

low_ends : T (finite (neg whole1022) && finite zero_f) × T (finite LN2_LO) × T (le zero_f LN2_LO) × T (finite4 least_d most_d least_low most_low)
    × T (le least_r (sub binary64 least_d most_low) && le (sub binary64 most_d least_low) most_r)
unfolding neg of_int of_bits mul sub add sum round le lt eq
low_ends = (tt, tt, tt, tt, tt)

low_in : (k : ℕ) → k ≤ 1022 → In least_low most_low (mul binary64 (n_of k) LN2_LO)
low_in k h = in_times (neg whole1022) zero_f LN2_LO low_ends.0 low_ends.1 low_ends.2 (n_in k h)

rest_in : (v : Float) (k : ℕ) → k ≤ 1022 → In least_d most_d (difference v k) → In least_r most_r (rest v (n_of k))
unfolding rest
rest_in v k h d = in_wider low_ends.4 (in_sub binary64 low_ends.3 d (low_in k h))

-- where k is 0, nothing is taken from v
zeros : (mul binary64 (n_of 0) LN2_HI ≡ zero_f) × (mul binary64 (n_of 0) LN2_LO ≡ zero_f) × (sub binary64 zero_f zero_f ≡ zero_f) × T (le zero_f zero_f)
unfolding of_int of_bits mul sub add sum neg round le lt eq
zeros = (refl, refl, refl, tt)

rest_0 : (v : Float) → T (finite v) → In least_d most_d (difference v 0) → T (le v zero_f) → T (le (rest v (n_of 0)) zero_f)
unfolding rest
rest_0 v f d h = no_more (difference v 0) (mul binary64 (n_of 0) LN2_LO) (in_finite {lo = least_d} {hi = most_d} tt d) zeros.1 (no_more v (mul binary64 (n_of 0) LN2_HI) f zeros.0 h)
  where
    no_more : (x z : Float) → T (finite x) → z ≡ zero_f → T (le x zero_f) → T (le (sub binary64 x z) zero_f)
    no_more x z f e h =
        subst (λ (y : Float). T (le (sub binary64 x y) zero_f)) (sym e)
        (subst (λ (y : Float). T (le (sub binary64 x zero_f) y)) zeros.2 (sub_le binary64 x zero_f zero_f zero_f f tt tt tt h zeros.3))

-- ---- q, for an r from -3/8 to s: from 3/8 to t
abbrev least_q : Float
least_q = fin false 3 (negsuc 2)

abbrev most_q : Float
most_q = fin false 13 (negsuc 2)

abbrev half_f : Float
half_f = fin false 1 (negsuc 0)

module _ (s t : Float) where
  -- a step's least and greatest result
  abbrev least_step : ℕ → Float
  least_step j = div binary64 (mul binary64 t least_r) (whole64 j)

  abbrev most_step : ℕ → Float
  most_step j = div binary64 (mul binary64 t s) (whole64 j)

  abbrev step_ok : ℕ → Bool
  step_ok j = positive (whole64 j) && finite4 one64 one64 (least_step j) (most_step j) && (le least_q (add binary64 one64 (least_step j)) && le (add binary64 one64 (most_step j)) t)

  steps_ok : ℕ → Bool
  steps_ok zero = true
  steps_ok (suc j) = step_ok (suc j) && steps_ok j

  record Ends : Type 0 where
    real : T (finite (mul binary64 t least_r) && finite (mul binary64 t s))
    about : T (about0 least_r s t)
    kept : T (le zero_f least_q && le t t)
    steps : T (steps_ok 13)
    start : T (le least_q one64) × T (le one64 t)

-- t is 13/8 for every r, and 1 for one that is not above 0
any_r : Ends most_r most_q
unfolding steps_ok of_bits of_int mul div add sum round le lt eq
any_r = record { real = tt; about = tt; kept = tt; steps = tt; start = (tt, tt) }

minus_r : Ends zero_f one_f
unfolding steps_ok of_bits of_int mul div add sum round le lt eq
minus_r = record { real = tt; about = tt; kept = tt; steps = tt; start = (tt, tt) }

one_in : In one64 one64 one64
unfolding of_bits le lt eq
one_in = record { low = tt; high = tt }

module _ (s t : Float) (E : Ends s t) where
  step_in : (j : ℕ) (r q : Float) → T (step_ok s t j) → In least_r s r → In least_q t q → In least_q t (add binary64 one64 (div binary64 (mul binary64 r q) (whole64 j)))
  step_in j r q ok hr hq =
      let A = positive (whole64 j) in
      let B = finite4 one64 one64 (least_step s t j) (most_step s t j) in
      let C = le least_q (add binary64 one64 (least_step s t j)) && le (add binary64 one64 (most_step s t j)) t in
      let m : In (mul binary64 t least_r) (mul binary64 t s) (mul binary64 r q) =
      subst (λ (y : Float). In (mul binary64 t least_r) (mul binary64 t s) y) (mul_comm_float binary64 q r)
      (in_scale binary64 E.about (in_wider E.kept hq) hr) in
      in_wider (and_r (A && B) C ok)
      (in_add binary64 (and_r A B (and_l (A && B) C ok)) one_in (in_div binary64 (whole64 j) E.real (and_l A B (and_l (A && B) C ok)) m))

  steps_in : (j : ℕ) (r q : Float) → T (steps_ok s t j) → In least_r s r → In least_q t q → In least_q t (exp_horner j r q)
  unfolding exp_horner steps_ok
  steps_in zero r q ok hr hq = hq
  steps_in (suc j) r q ok hr hq =
      steps_in j r (add binary64 one64 (div binary64 (mul binary64 r q) (whole64 (suc j)))) (and_r (step_ok s t (suc j)) (steps_ok s t j) ok) hr
      (step_in (suc j) r q (and_l (step_ok s t (suc j)) (steps_ok s t j) ok) hr hq)

  series_in : (r : Float) → In least_r s r → In least_q t (exp_series r)
  unfolding exp_series
  series_in r h = steps_in 13 r one64 E.steps h (record { low = E.start.0; high = E.start.1 })

-- ---- q·2 ^ -k
power_in : (k : ℕ) → In zero_f half_f (fin false 1 (negsuc k))
power_in k =
    let p = pow_mono {i = 1} {j = suc k} (omega arith) in
    record { low = under→le zero_f (fin false 1 (negsuc k)) tt tt (omega arith); high = under→le (fin false 1 (negsuc k)) half_f tt tt (omega arith) }

result_ends : T (le zero_f (mul binary64 least_q zero_f) && le (mul binary64 most_q half_f) one_f) × T (le zero_f (mul binary64 least_q zero_f) && le (mul binary64 one_f one_f) one_f)
    × T (le zero_f least_q && le zero_f zero_f) × T (le zero_f one_f) × T (le one_f one_f)
unfolding mul round le lt eq
result_ends = (tt, tt, tt, tt, tt)

by_in : (v : Float) (k : ℕ) → T (finite v) → T (le v zero_f) → k ≤ 1022 → In least_d most_d (difference v k) → In zero_f one_f (exp_by v (neg_ℤ (pos k)))
unfolding exp_by
by_in v zero f l h d =
    let r : In least_r zero_f (rest v (n_of 0)) = record { low = (rest_in v 0 h d).low; high = rest_0 v f d l } in
    in_wider result_ends.1 (in_mul binary64 {a = least_q} {b = one_f} {c = zero_f} {d = one_f} tt result_ends.2 (series_in zero_f one_f minus_r (rest v (n_of 0)) r) (record { low = result_ends.3; high = result_ends.4 }))
by_in v (suc k) f l h d =
    in_wider result_ends.0 (in_mul binary64 {a = least_q} {b = most_q} {c = zero_f} {d = half_f} tt result_ends.2 (series_in most_r most_q any_r (rest v (n_of (suc k))) (rest_in v (suc k) h d)) (power_in k))

-- ---- exp of a number that is not above 0
number : (v : Float) → T (le v zero_f) → is_nan v ≡ false
unfolding le lt eq is_nan
number nan h = absurd h
number (inf s) h = refl
number (fin s m e) h = refl

no_plus : (v : Float) → T (finite v) → T (le v zero_f) → pos_part v ≡ 0
no_plus nan f h = absurd f
no_plus (inf s) f h = absurd f
no_plus (fin true m e) f h = refl
no_plus (fin false m e) f h = let k = le→under (fin false m e) zero_f tt tt h in omega arith

bound_above : T (le bound zero_f) → ⊥
unfolding of_bits le lt eq
bound_above h = h

not_above : (v : Float) → T (le v zero_f) → lt bound v ≡ false
not_above v h = go (lt bound v) refl
  where
    go : (b : Bool) → lt bound v ≡ b → b ≡ false
    go true q = absurd (bound_above (le_trans_float bound v zero_f (lt→le bound v (yes q)) h))
    go false q = refl

turns_zero : T (le (by_log2e zero_f) (fin false 1 (negsuc 0))) × T (finite (mul binary64 zero_f LOG2E))
unfolding of_bits mul add sum round le lt eq
turns_zero = (tt, tt)

-- from -708 to 0
pub exp_from_bound : (v : Float) → T (le v zero_f) → lt v (neg bound) ≡ false → In zero_f one_f (exp_of v)
exp_from_bound v h q =
    let i = inside v (number v h) q (not_above v h) in
    let A = v_finite v i in
    let W = times_finite v i in
    let F = turns_finite v i in
    let l = le_trans_float (by_log2e v) (by_log2e zero_f) (fin false 1 (negsuc 0)) (keeps v zero_f A tt W turns_zero.1 h) turns_zero.0 in
    let f = floored (by_log2e v) F (no_deeper v i) l in
    let k = f.k in
    let n = no_plus v A h in
    subst (λ (y : Float). In zero_f one_f y) (sym (exp_is v (number v h) q (not_above v h) ∙ ap (λ (z : ℤ). exp_by v z) f.at.floor))
    (by_in v k A h f.at.few (difference_in v k A n f.at.few (near v k A n W F f.at)))
