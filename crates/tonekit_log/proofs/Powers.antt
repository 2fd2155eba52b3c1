-- The logarithms of a power of two: its series is exactly 0, adding 0 changes nothing, and the exponent times LN2's high part is exact. Assumes nothing.
use Rattle.std.proofs.Common.{◌≡◌, ℕ, zero, suc, ◌+◌, ◌-◌, ◌*◌, ◌/◌, ◌^◌, ◌<◌, ◌≤◌, Bool, true, false, cond, T, ◌⊎◌, ℤ, pos, negsuc, nat_abs, sym, refl, ap, ◌∙◌, subst, inl, inr, le_of_eq, lt_irrefl, lt_of_lt_of_le, mul_assoc, mul-one, mul_comm, mul-pos, one-mul, div-one, mul-div_cancel, arith, lit<, lit≤, pow_pos, pow-add}
use lib.Dec.{leb-zero, leb-suc-zero}
use borrow.Author.Tests.{lt-leb}
use lib.Pow.{pow-lt, shl_lt}
use native.Mathlib.Nat.{mul-mul-mul_comm}
use Rattle.std.specs.Int.{is_negative}
use lib.Ieee.Exact.{HasValue, round_exact}
use lib.Ieee.{Float, nan, inf, fin, binary64, unlike, up, down, size, round, neg, sum, add, mul, le, lt, eq, of_int, of_bits, fits, minus}
use lib.Ieee.Fits.{down_pos, mul-fits, of_int-fits}
use lib.Ieee.Positive.{positive, above_of_le}
use lib.Ieee.Positive as positives
use lib.Ieee.Scale.{round_same, finite}
use Rattle.tonekit_float.proofs.Units.{size_at}
use Rattle.tonekit_float.proofs.Order.{neg_le, neg_finite, flipped}
use Rattle.tonekit_float.proofs.Monotone.{Rounds, above, under, zero_f, add_rounds, mul_le_left, plus_pos, round_neg}
use Rattle.tonekit_float.proofs.Exact.{own_rounds, whole, whole_value, whole_le}
use Rattle.tonekit_float.proofs.Size.{within_whole, within_neg, within_mul, within_lit}
use Rattle.tonekit_float.proofs.Fraction.{Within, pos_part, neg_part}
use Rattle.spec_arithmetic.specs.declared.Parts.{Parts}
use Rattle.spec_arithmetic.specs.Constants.{LN2_HI, LN2_LO, LOG2E, one64}
use Rattle.spec_arithmetic.specs.Log.{parts_of, centred, series, log_by}
use Rattle.tonekit_log.proofs.PartsOf.{parts_of_is, shift_minus, neg_int}
use Rattle.tonekit_log.proofs.LogCases.{number_is, ln_at, log2_at}

-- the k for which 2 ^ k is an f64, subnormal or not: from -1074 to 1023
abbrev pub Exponent : ℤ → Type 0
Exponent (pos k) = k ≤ 1023
Exponent (negsuc k) = suc k ≤ 1074

-- ---- 0 and a number that is not 0, in either order, add up to that number
exact : (M D k d : ℕ) (s : Bool) → k ≡ M → d ≡ D → round binary64 s k d ≡ round binary64 s M D
exact M D k d s p q = ap (λ (z : ℕ). round binary64 s z d) p ∙ ap (λ (z : ℕ). round binary64 s M z) q

-- two roundings of one fraction that is not 0 are equal
same_rounds : (x y : Float) (p n d q o c : ℕ) → (q ≡ o → ⊥) → p ≡ q → n ≡ o → d ≡ c → Rounds binary64 x p n d → Rounds binary64 y q o c → x ≡ y
same_rounds x y p n d q o c u P N D (above k e) (above l g) = e ∙ exact (q - o) c (p - n) d false (omega arith) D ∙ sym g
same_rounds x y p n d q o c u P N D (above k e) (under l g) = absurd (u (omega arith))
same_rounds x y p n d q o c u P N D (under k e) (above l g) = absurd (u (omega arith))
same_rounds x y p n d q o c u P N D (under k e) (under l g) = e ∙ exact (o - q) c (n - p) d true (omega arith) D ∙ sym g

above_zero : (x : Float) → T (positive x) → neg_part x < pos_part x
above_zero nan p = absurd p
above_zero (inf s) p = absurd p
above_zero (fin true m e) p = absurd p
above_zero (fin false m e) p = plus_pos (fin false m e) p

not_zero : (x : Float) → T (positive x) ⊎ T (positive (neg x)) → pos_part x ≡ neg_part x → ⊥
not_zero x (inl p) h = let k = above_zero x p in lt_irrefl 0 (omega arith)
not_zero x (inr p) h = let k = above_zero (neg x) p in let f = flipped x in let a = f.up in let b = f.below in lt_irrefl 0 (omega arith)

plus_zero : (x : Float) → T (fits binary64 x) → T (finite x) → T (positive x) ⊎ T (positive (neg x)) → add binary64 x zero_f ≡ x
plus_zero x h f p = same_rounds (add binary64 x zero_f) x _ _ _ _ _ _ (not_zero x p) (omega arith) (omega arith) (omega arith) (add_rounds binary64 x zero_f f tt) (own_rounds binary64 x h f)

zero_plus : (x : Float) → T (fits binary64 x) → T (finite x) → T (positive x) ⊎ T (positive (neg x)) → add binary64 zero_f x ≡ x
zero_plus x h f p = same_rounds (add binary64 zero_f x) x _ _ _ _ _ _ (not_zero x p) (omega arith) (omega arith) (omega arith) (add_rounds binary64 zero_f x tt f) (own_rounds binary64 x h f)

-- a finite number at or beyond one that is not 0 is not 0
pub from_above : (c x : Float) → T (positive c) → T (finite x) → T (le c x) → T (positive x)
from_above c x p f h = go x f (above_of_le c x p h)
  where
    go : (x : Float) → T (finite x) → T (positives.above x) → T (positive x)
    go nan f a = absurd a
    go (inf s) f a = absurd f
    go (fin true m e) f a = absurd a
    go (fin false m e) f a = a

from_below : (c x : Float) → T (positive (neg c)) → T (finite x) → T (le x c) → T (positive (neg x))
from_below c x p f h = from_above (neg c) (neg x) p (neg_finite x f) (neg_le x c h)

-- ---- the exponent of a power of two, and its products with the two parts of LN2
low_finite : T (finite LN2_LO) × T (le zero_f LN2_LO) × Within 1 LN2_LO
unfolding of_bits le lt eq
low_finite = (tt, tt, within_lit 1 LN2_LO tt)

pub minus_is : (k : ℕ) → of_int binary64 (negsuc k) ≡ neg (whole binary64 (suc k))
unfolding of_int
minus_is k = sym (round_neg binary64 false (suc k) 1)

whole_up : (k : ℕ) → suc k ≤ 2 ^ 53 → T (finite (whole binary64 (suc k)))
whole_up k h = (within_whole binary64 (suc k) h).real

one_down : T (positive (neg (neg (whole binary64 1)))) × T (positive (neg (mul binary64 (neg (whole binary64 1)) LN2_LO))) × T (finite (neg (whole binary64 1)))
unfolding neg of_int mul of_bits round
one_down = (tt, tt, tt)

one_up : T (positive (whole binary64 1)) × T (positive (mul binary64 (whole binary64 1) LN2_LO)) × T (finite (whole binary64 1))
unfolding of_int mul of_bits round
one_up = (tt, tt, tt)

few : (k n : ℕ) → suc k ≤ n → n ≤ 1074 → suc k ≤ 9007199254740992
few k n h l = omega arith

few1 : (k n : ℕ) → suc k ≤ n → n ≤ 1074 → suc k * 1 ≤ 9007199254740992
few1 k n h l = omega arith

from_one : (k : ℕ) → 1 ≤ suc k
from_one k = omega arith

pub exponent_stays : (k : ℤ) → Exponent k → add binary64 (of_int binary64 k) zero_f ≡ of_int binary64 k
exponent_stays (pos zero) h = unfold add sum of_int round in refl
exponent_stays (pos (suc k)) h =
    let F = whole_up k (few k 1023 h (lit≤ tt)) in
    plus_zero (whole binary64 (suc k)) (of_int-fits binary64 (pos (suc k))) F
    (inl (from_above (whole binary64 1) (whole binary64 (suc k)) one_up.0 F (whole_le binary64 1 (suc k) (from_one k))))
exponent_stays (negsuc k) h =
    let n = whole binary64 (suc k) in
    let F = neg_finite n (whole_up k (few k 1074 h (lit≤ tt))) in
    ap (λ (y : Float). add binary64 y zero_f) (minus_is k)
    ∙ plus_zero (neg n) (subst (λ (y : Float). T (fits binary64 y)) (minus_is k) (of_int-fits binary64 (negsuc k))) F
    (inr (from_below (neg (whole binary64 1)) (neg n) one_down.0 F (neg_le (whole binary64 1) n (whole_le binary64 1 (suc k) (from_one k)))))
    ∙ sym (minus_is k)

pub low_stays : (k : ℤ) → Exponent k → add binary64 zero_f (mul binary64 (of_int binary64 k) LN2_LO) ≡ mul binary64 (of_int binary64 k) LN2_LO
low_stays (pos zero) h = unfold add sum mul of_int of_bits round in refl
low_stays (pos (suc k)) h =
    let n = whole binary64 (suc k) in
    let w = within_mul binary64 (few1 k 1023 h (lit≤ tt)) (within_whole binary64 (suc k) (few k 1023 h (lit≤ tt))) low_finite.2 in
    zero_plus (mul binary64 n LN2_LO) (mul-fits binary64 n LN2_LO) w.real
    (inl (from_above (mul binary64 (whole binary64 1) LN2_LO) (mul binary64 n LN2_LO) one_up.1 w.real
    (mul_le_left binary64 (whole binary64 1) n LN2_LO one_up.2 (whole_up k (few k 1023 h (lit≤ tt))) low_finite.0 low_finite.1 (whole_le binary64 1 (suc k) (from_one k)))))
low_stays (negsuc k) h =
    let n = whole binary64 (suc k) in
    let m = neg n in
    let F = whole_up k (few k 1074 h (lit≤ tt)) in
    let w = within_mul binary64 (few1 k 1074 h (lit≤ tt)) (within_neg (within_whole binary64 (suc k) (few k 1074 h (lit≤ tt)))) low_finite.2 in
    ap (λ (y : Float). add binary64 zero_f (mul binary64 y LN2_LO)) (minus_is k)
    ∙ zero_plus (mul binary64 m LN2_LO) (mul-fits binary64 m LN2_LO) w.real
    (inr (from_below (mul binary64 (neg (whole binary64 1)) LN2_LO) (mul binary64 m LN2_LO) one_down.1 w.real
    (mul_le_left binary64 m (neg (whole binary64 1)) LN2_LO (neg_finite n F) one_down.2 low_finite.0 low_finite.1 (neg_le (whole binary64 1) n (whole_le binary64 1 (suc k) (from_one k))))))
    ∙ sym (ap (λ (y : Float). mul binary64 y LN2_LO) (minus_is k))

-- ---- LN2's high part, in units of 2 ^ -32, and a whole number of at most 21 binary digits times it: exact
abbrev pub high32 : ℕ
high32 = 0xB172_17F7

high_is : LN2_HI ≡ fin false high32 (negsuc 31)
unfolding of_bits
high_is = refl

times_high : (x : Float) (s : Bool) (n : ℕ) → n < 2 ^ 21 → HasValue x s n 1 → HasValue (mul binary64 x (fin false high32 (negsuc 31))) s (n * high32) (2 ^ 32)
unfolding mul
times_high nan s n h v = absurd v
times_high (inf t) s n h v = absurd v
times_high (fin t m e) s n h v =
    let M = m * up e in
    let S = unlike t false in
    let D = mul-pos (down_pos e) (pow_pos 32) in
    let c : M * (high32 * 1) * 2 ^ 32 ≡ n * high32 * (down e * 2 ^ 32) = mul_assoc M (high32 * 1) (2 ^ 32) ∙ ap (λ (z : ℕ). z * (high32 * 2 ^ 32)) (sym (mul-one M) ∙ v.1) ∙ mul-mul-mul_comm n (down e) high32 (2 ^ 32) in
    let digits : n * high32 < 2 ^ 53 = omega arith in
    subst (λ (b : Bool). HasValue (round binary64 S (M * (high32 * 1)) (down e * 2 ^ 32)) b (n * high32) (2 ^ 32)) (same t ∙ v.0)
    (subst (λ (y : Float). HasValue y S (n * high32) (2 ^ 32)) (sym (round_same binary64 S (M * (high32 * 1)) (down e * 2 ^ 32) (n * high32) (2 ^ 32) D (pow_pos 32) c))
    (round_exact binary64 S (n * high32) (2 ^ 32) (n * high32) 1042 (pow_pos 32) digits (lt_of_lt_of_le (shl_lt 53 1042 digits) (lit≤ tt)) (sym (mul_assoc (n * high32) (2 ^ 1042) (2 ^ 32)))))
  where
    same : (t : Bool) → unlike t false ≡ t
    same true = refl
    same false = refl

pub high_exact : (k : ℤ) → nat_abs k < 2 ^ 21 → HasValue (mul binary64 (of_int binary64 k) LN2_HI) (is_negative k) (nat_abs k * high32) (2 ^ 32)
high_exact (pos n) h =
    subst (λ (s : Bool). HasValue (mul binary64 (whole binary64 n) LN2_HI) s (n * high32) (2 ^ 32)) (sym (leb-suc-zero n))
    (subst (λ (y : Float). HasValue (mul binary64 (whole binary64 n) y) false (n * high32) (2 ^ 32)) (sym high_is)
    (times_high (whole binary64 n) false n (omega arith) (whole_value binary64 n (omega arith))))
high_exact (negsuc k) h =
    subst (λ (y : Float). HasValue (mul binary64 (of_int binary64 (negsuc k)) y) true (suc k * high32) (2 ^ 32)) (sym high_is)
    (times_high (of_int binary64 (negsuc k)) true (suc k) h (neg_int k (omega arith)))

-- ---- the series at 1 is 0
pub none_more : mul binary64 zero_f LOG2E ≡ zero_f
unfolding mul of_bits round
none_more = refl

-- ---- 2 ^ j units of 2 ^ -1074
one_is : round binary64 false 1 1 ≡ one64
unfolding round of_bits
one_is = refl

parts_at : (j : ℕ) → parts_of (2 ^ j) ≡ record { m = one64; e = of_int binary64 (minus j 1074) }
parts_at j =
    let s : size (2 ^ j) ≡ suc j = size_at (2 ^ j) j (le_of_eq refl) (pow-lt (below j)) in
    parts_of_is (2 ^ j) one64 (of_int binary64 (minus j 1074))
    (ap (λ (k : ℕ). round binary64 false (2 ^ j) (2 ^ k)) (ap (λ (k : ℕ). k - 1) s ∙ less j)
    ∙ round_same binary64 false (2 ^ j) (2 ^ j) 1 1 (pow_pos j) (lit< tt) (mul_comm (2 ^ j) 1)
    ∙ one_is)
    (ap (λ (k : ℕ). of_int binary64 (minus k 1075)) (s ∙ plus j) ∙ ap (λ (k : ℤ). of_int binary64 k) (shift_minus j 1074 1))
  where
    below : (j : ℕ) → j < suc j
    below j = omega arith

    less : (j : ℕ) → suc j - 1 ≡ j
    less j = omega arith

    plus : (j : ℕ) → suc j ≡ j + 1
    plus j = omega arith

stays : (e : Float) → centred (record { m = one64; e = e }) ≡ record { m = one64; e = e }
unfolding centred lt of_bits
stays e = refl

at_units : (f : Parts → Float) (k : ℤ) (j : ℕ) → 1 * up k * 2 ^ 1074 / down k ≡ 2 ^ j → minus j 1074 ≡ k → log_by f (fin false 1 k) ≡ f (record { m = one64; e = of_int binary64 k })
at_units f k j p q =
    number_is f 0 k
    ∙ ap (λ (n : ℕ). f (centred (parts_of n))) p
    ∙ ap (λ (r : Parts). f (centred r)) (parts_at j)
    ∙ ap f (stays (of_int binary64 (minus j 1074)))
    ∙ ap (λ (i : ℤ). f (record { m = one64; e = of_int binary64 i })) q

pub at_power : (f : Parts → Float) (k : ℤ) → Exponent k → log_by f (fin false 1 k) ≡ f (record { m = one64; e = of_int binary64 k })
at_power f (pos k) h =
    at_units f (pos k) (k + 1074) (div-one (1 * 2 ^ k * 2 ^ 1074) ∙ ap (λ (z : ℕ). z * 2 ^ 1074) (one-mul (2 ^ k)) ∙ sym (pow-add 2 k 1074)) (shift_minus k 0 1074 ∙ zero_minus k)
  where
    zero_minus : (k : ℕ) → minus k 0 ≡ pos k
    zero_minus k = ap (λ (t : Bool). cond t (pos (k - 0)) (negsuc (0 - suc k))) (leb-zero k) ∙ ap pos (sub0 k)
      where
        sub0 : (k : ℕ) → k - 0 ≡ k
        sub0 k = omega arith
at_power f (negsuc k) h =
    at_units f (negsuc k) (1074 - suc k)
    (ap (λ (z : ℕ). z / 2 ^ suc k) (one-mul (2 ^ 1074) ∙ ap (λ (z : ℕ). 2 ^ z) (apart k h) ∙ pow-add 2 (1074 - suc k) (suc k)) ∙ mul-div_cancel (2 ^ (1074 - suc k)) (pow_pos (suc k)))
    (ap (λ (t : Bool). cond t (pos (1074 - suc k - 1074)) (negsuc (1074 - suc (1074 - suc k)))) (lt-leb 1074 (1074 - suc k) (low k h)) ∙ ap negsuc (twice k h))
  where
    apart : (k : ℕ) → suc k ≤ 1074 → 1074 ≡ 1074 - suc k + suc k
    apart k h = omega arith

    low : (k : ℕ) → suc k ≤ 1074 → 1074 - suc k < 1074
    low k h = omega arith

    twice : (k : ℕ) → suc k ≤ 1074 → 1074 - suc (1074 - suc k) ≡ k
    twice k h = omega arith

-- ---- both logarithms
pub log2_at_one : (e : Float) → log2_at (record { m = one64; e = e }) ≡ add binary64 e (mul binary64 (series one64) LOG2E)
log2_at_one e = refl

pub ln_at_one : (e : Float) → ln_at (record { m = one64; e = e }) ≡ add binary64 (mul binary64 e LN2_HI) (add binary64 (series one64) (mul binary64 e LN2_LO))
ln_at_one e = refl
