-- How large the logarithms of positive numbers can be. Assumes nothing.
use Rattle.std.proofs.Common.{◌≡◌, ℕ, zero, suc, ◌+◌, ◌-◌, ◌*◌, ◌^◌, ◌<◌, ◌≤◌, Bool, true, false, cond, not, ◌&&◌, T, leb, pos, negsuc, sym, refl, ap, ◌∙◌, subst, ⊎_elim, le_of_eq, lt_of_lt_of_le, mul-le-mul_right, mul_assoc, mul_comm, add-mul, mul-pos, mul_left_comm, arith, lit<, leb→le, pow_pos, pow-add, Float}
use Rattle.std.specs.Prelude.{from_bits}
use lib.Dec.{nleb→lt}
use lib.Ieee.{nan, inf, fin, binary64, size, round, neg, sum, add, sub, mul, div, lt, le, eq, of_int, of_bits, fits, minus}
use lib.Ieee.Digits.{size-lt, size-le, size_reaches}
use lib.Ieee.Fits.{and_l, and_r}
use lib.Ieee.Order.{round_mono}
use lib.Ieee.Positive.{den, den_pos}
use lib.Ieee.Scale.{finite}
use Rattle.spec_arithmetic.specs.Bounds.{In}
use Rattle.tonekit_float.proofs.Fraction.{Within, pos_part, neg_part}
use Rattle.tonekit_float.proofs.Units.{size_gt}
use Rattle.tonekit_float.proofs.Order.{yes, le→under, neg_le, lt→le, not-lt→le, le_refl_finite, le_trans_float}
use Rattle.tonekit_float.proofs.Monotone.{zero_f, mul_le_left, mul_comm_float, div_rounds, plus_pos}
use Rattle.tonekit_float.proofs.Bounds.{in_finite, in_wider, in_cut, in_add, in_sub, in_mul, in_scale, finite4, about0}
use Rattle.tonekit_float.proofs.Exact.{rounds_under, rounds_over, whole, whole_le}
use Rattle.tonekit_float.proofs.Size.{within_lit, in_within}
use Rattle.tonekit_float.proofs.Patterns.{units_in, units_pos, units_lt}
use Rattle.tonekit_float.proofs.Signs as signs
use Rattle.spec_arithmetic.specs.declared.Parts.{Parts}
use Rattle.spec_arithmetic.specs.Constants.{LN2_HI, LN2_LO, LOG2E, half, one64}
use Rattle.spec_arithmetic.specs.Log.{recip, log_horner, series, parts_of, centred, log_by}
use Rattle.tonekit_log.proofs.Powers.{minus_is, from_above}
use Rattle.tonekit_log.proofs.LogCases.{number_is, ln_at, log2_at}

-- 1.4142135623730951, and 2
abbrev pub ROOT2 : Float
ROOT2 = from_bits binary64 0x3FF6_A09E_667F_3BCD

abbrev pub two : Float
two = from_bits binary64 0x4000_0000_0000_0000

at_itself : (x : Float) → T (finite x) → In x x x
at_itself x f = record { low = le_refl_finite x f; high = le_refl_finite x f }

-- a factor that is not negative, on the right
pub in_times : (a b z : Float) {x : Float} → T (finite a && finite b) → T (finite z) → T (le zero_f z) → In a b x → In (mul binary64 a z) (mul binary64 b z) (mul binary64 x z)
in_times a b z {x} t Z n h =
    let A = and_l (finite a) (finite b) t in
    let B = and_r (finite a) (finite b) t in
    let X = in_finite t h in
    record { low = mul_le_left binary64 a x z A X Z n h.low; high = mul_le_left binary64 x b z X B Z n h.high }

-- ---- the ratio s: |m - 1| is at most 27/64 and m + 1 at least 27/16, so s is at most 1/4
quotient_up : (p n d q o c : ℕ) → p * 64 + 0 * d ≤ 27 * d + n * 64 → 27 * c + o * 16 ≤ q * 16 + 0 * c → p * c * 4 + 0 * (q * d) ≤ 1 * (q * d) + n * c * 4
quotient_up p n d q o c h k =
    let x = simp (add-mul, mul_assoc, mul_comm, mul_left_comm) at (mul-le-mul_right c h) in
    let y = simp (add-mul, mul_assoc, mul_comm, mul_left_comm) at (mul-le-mul_right d k) in
    simp (add-mul, mul_assoc, mul_comm, mul_left_comm) (omega (arith, x, y))

quotient_down : (p n d q o c : ℕ) → 0 * d + n * 64 ≤ p * 64 + 27 * d → 27 * c + o * 16 ≤ q * 16 + 0 * c → 0 * (q * d) + n * c * 4 ≤ p * c * 4 + 1 * (q * d)
quotient_down p n d q o c h k =
    let x = simp (add-mul, mul_assoc, mul_comm, mul_left_comm) at (mul-le-mul_right c h) in
    let y = simp (add-mul, mul_assoc, mul_comm, mul_left_comm) at (mul-le-mul_right d k) in
    simp (add-mul, mul_assoc, mul_comm, mul_left_comm) (omega (arith, x, y))

-- 27/64, 27/16, 1/4
abbrev above1 : Float
above1 = fin false 27 (negsuc 5)

abbrev below1 : Float
below1 = fin true 27 (negsuc 5)

abbrev divisor : Float
divisor = fin false 27 (negsuc 3)

abbrev quarter : Float
quarter = fin false 1 (negsuc 1)

abbrev minus_quarter : Float
minus_quarter = fin true 1 (negsuc 1)

quarter_fits : T (fits binary64 quarter) × T (fits binary64 minus_quarter)
unfolding fits
quarter_fits = (tt, tt)

in_quotient : (x y : Float) → In below1 above1 x → In divisor (fin false 3 (pos 0)) y → In minus_quarter quarter (div binary64 x y)
in_quotient x y h k =
    let X = in_finite {lo = below1} {hi = above1} tt h in
    let Y = in_finite {lo = divisor} {hi = fin false 3 (pos 0)} tt k in
    let P = from_above divisor y tt Y k.low in
    let D = mul-pos (plus_pos y P) (den_pos x) in
    let R = div_rounds binary64 x y X P in
    let b = le→under divisor y tt Y k.low in
    record {
      low = rounds_over binary64 (div binary64 x y) minus_quarter _ _ _ D quarter_fits.1 tt R (quotient_down (pos_part x) (neg_part x) (den x) (pos_part y) (neg_part y) (den y) (le→under below1 x tt X h.low) b);
      high = rounds_under binary64 (div binary64 x y) quarter _ _ _ D quarter_fits.0 tt R (quotient_up (pos_part x) (neg_part x) (den x) (pos_part y) (neg_part y) (den y) (le→under x above1 X tt h.high) b);
    }

-- ---- m after halving
abbrev low_m : Float
low_m = mul binary64 ROOT2 half

one_finite : T (finite one64) × T (finite low_m && finite ROOT2) × T (finite ROOT2 && finite two) × T (finite half) × T (le zero_f half)
unfolding of_bits mul round le lt eq
one_finite = (tt, tt, tt, tt, tt)

sub_ends : T (le below1 (sub binary64 low_m one64) && le (sub binary64 ROOT2 one64) above1)
unfolding of_bits mul sub add neg round le lt eq
sub_ends = tt

add_ends : T (le divisor (add binary64 low_m one64) && le (add binary64 ROOT2 one64) (fin false 3 (pos 0)))
unfolding of_bits mul add round le lt eq
add_ends = tt

four_finite : T (finite low_m && finite ROOT2 && (finite one64 && finite one64))
unfolding of_bits mul round
four_finite = tt

abbrev ratio : Float → Float
ratio m = div binary64 (sub binary64 m one64) (add binary64 m one64)

ratio_in : (m : Float) → In low_m ROOT2 m → In minus_quarter quarter (ratio m)
ratio_in m h =
    let o = at_itself one64 one_finite.0 in
    in_quotient (sub binary64 m one64) (add binary64 m one64)
    (in_wider sub_ends (in_sub binary64 four_finite h o))
    (in_wider add_ends (in_add binary64 four_finite h o))

-- ---- z = s·s
twice_neg : (x : Float) → mul binary64 x x ≡ mul binary64 (neg x) (neg x)
unfolding mul neg
twice_neg nan = refl
twice_neg (inf true) = refl
twice_neg (inf false) = refl
twice_neg (fin true m e) = refl
twice_neg (fin false m e) = refl

abbrev sixteenth : Float
sixteenth = fin false 1 (negsuc 3)

square_ends : T (le zero_f (mul binary64 zero_f zero_f) && le (mul binary64 quarter quarter) sixteenth)
unfolding mul round le lt eq
square_ends = tt

not_negative : T (le zero_f zero_f && le zero_f zero_f)
unfolding le lt eq
not_negative = tt

square_up : (s : Float) → In zero_f quarter s → In zero_f sixteenth (mul binary64 s s)
square_up s h = in_wider square_ends (in_mul binary64 {a = zero_f} {b = quarter} {c = zero_f} {d = quarter} tt not_negative h h)

neg_ends : T (le zero_f (neg zero_f)) × T (le (neg minus_quarter) quarter)
unfolding neg le lt eq
neg_ends = (tt, tt)

square_in : (s : Float) → In minus_quarter quarter s → In zero_f sixteenth (mul binary64 s s)
square_in s h = ⊎_elim (λ k. less k) (λ k. square_up s k) (in_cut {lo = minus_quarter} {hi = quarter} zero_f tt tt h)
  where
    less : In minus_quarter zero_f s → In zero_f sixteenth (mul binary64 s s)
    less k =
        subst (λ (y : Float). In zero_f sixteenth y) (sym (twice_neg s))
        (square_up (neg s) (record {
          low = le_trans_float zero_f (neg zero_f) (neg s) neg_ends.0 (neg_le s zero_f k.high);
          high = le_trans_float (neg s) (neg minus_quarter) quarter (neg_le minus_quarter s k.low) neg_ends.1;
        }))

-- ---- p stays from 0 to 2
abbrev one_f : Float
one_f = fin false 1 (pos 0)

abbrev two_f : Float
two_f = fin false 1 (pos 1)

-- 1/(2i + 1) lies from 0 to 1, for every i below j
recips : ℕ → Bool
recips zero = true
recips (suc j) = le zero_f (recip j) && le (recip j) one_f && recips j

recips_11 : T (recips 11) × T (le zero_f (recip 11) && le (recip 11) two_f)
unfolding recips le lt eq div of_bits of_int round
recips_11 = (tt, tt)

step_ends : T (le zero_f (add binary64 (mul binary64 zero_f zero_f) zero_f) && le (add binary64 (mul binary64 two_f sixteenth) one_f) two_f)
unfolding mul add sum round le lt eq
step_ends = tt

products : T (finite4 (mul binary64 zero_f zero_f) (mul binary64 two_f sixteenth) zero_f one_f)
unfolding mul round
products = tt

step_in : (j : ℕ) (z p : Float) → T (le zero_f (recip j) && le (recip j) one_f) → In zero_f sixteenth z → In zero_f two_f p → In zero_f two_f (add binary64 (mul binary64 p z) (recip j))
step_in j z p t hz hp =
    in_wider step_ends
    (in_add binary64 products (in_mul binary64 {a = zero_f} {b = two_f} {c = zero_f} {d = sixteenth} tt not_negative hp hz)
    (record { low = and_l (le zero_f (recip j)) (le (recip j) one_f) t; high = and_r (le zero_f (recip j)) (le (recip j) one_f) t }))

steps_in : (j : ℕ) (z p : Float) → T (recips j) → In zero_f sixteenth z → In zero_f two_f p → In zero_f two_f (log_horner j z p)
unfolding log_horner recips
steps_in zero z p t hz hp = hp
steps_in (suc j) z p t hz hp =
    let ok = le zero_f (recip j) && le (recip j) one_f in
    steps_in j z (add binary64 (mul binary64 p z) (recip j)) (and_r ok (recips j) t) hz (step_in j z p (and_l ok (recips j) t) hz hp)

-- ---- (2·s)·p stays from -1 to 1
two_is : T (le zero_f two && le two two_f)
unfolding of_bits le lt eq
two_is = tt

abbrev half_f : Float
half_f = fin false 1 (negsuc 0)

double_ends : T (le (neg half_f) (mul binary64 two_f minus_quarter) && le (mul binary64 two_f quarter) half_f)
unfolding mul neg round le lt eq
double_ends = tt

about_quarter : T (about0 minus_quarter quarter two_f)
unfolding le lt eq
about_quarter = tt

about_half : T (about0 (neg half_f) half_f two_f)
unfolding neg le lt eq
about_half = tt

product_ends : T (le (neg one_f) (mul binary64 two_f (neg half_f)) && le (mul binary64 two_f half_f) one_f)
unfolding mul neg round le lt eq
product_ends = tt

series_is : (m : Float) → series m ≡ mul binary64 (mul binary64 two (ratio m)) (log_horner 11 (mul binary64 (ratio m) (ratio m)) (recip 11))
unfolding series
series_is m = refl

pub series_in : (m : Float) → In low_m ROOT2 m → In (neg one_f) one_f (series m)
series_in m h =
    let s = ratio m in
    let z = mul binary64 s s in
    let p = log_horner 11 z (recip 11) in
    let hs = ratio_in m h in
    let start : In zero_f two_f (recip 11) = record { low = and_l (le zero_f (recip 11)) (le (recip 11) two_f) recips_11.1; high = and_r (le zero_f (recip 11)) (le (recip 11) two_f) recips_11.1 } in
    let hp = steps_in 11 z (recip 11) recips_11.0 (square_in s hs) start in
    let t2 : In zero_f two_f two = record { low = and_l (le zero_f two) (le two two_f) two_is; high = and_r (le zero_f two) (le two two_f) two_is } in
    let h2 = in_wider double_ends (in_scale binary64 about_quarter t2 hs) in
    subst (λ (y : Float). In (neg one_f) one_f y) (sym (series_is m ∙ mul_comm_float binary64 (mul binary64 two s) p))
    (in_wider product_ends (in_scale binary64 about_half hp h2))

-- ---- m and e of a positive number
power_is : round binary64 false 1 1 ≡ one64
unfolding round of_bits
power_is = refl

power2_is : round binary64 false 2 1 ≡ two
unfolding round of_bits
power2_is = refl

mantissa_in : (n : ℕ) → 0 < n → In one64 two (round binary64 false n (2 ^ (size n - 1)))
mantissa_in n p =
    let d = size n in
    let D : 0 < d = size_gt n 0 p in
    let lo : 2 ^ (d - 1) ≤ n = size_reaches n (d - 1) (omega arith) in
    let hi : n < 2 ^ (d - 1) * 2 = lt_of_lt_of_le (size-lt n) (le_of_eq (ap (λ (k : ℕ). 2 ^ k) (back d D) ∙ pow-add 2 (d - 1) 1)) in
    record {
      low = subst (λ (y : Float). T (le y (round binary64 false n (2 ^ (d - 1))))) power_is (round_mono binary64 1 1 n (2 ^ (d - 1)) (lit< tt) (pow_pos (d - 1)) (omega arith));
      high = subst (λ (y : Float). T (le (round binary64 false n (2 ^ (d - 1))) y)) power2_is (round_mono binary64 n (2 ^ (d - 1)) 2 1 (pow_pos (d - 1)) (lit< tt) (omega arith));
    }
  where
    back : (d : ℕ) → 0 < d → d ≡ d - 1 + 1
    back d h = omega arith

abbrev W : ℕ → Float
W n = whole binary64 n

about_zero : T (le (neg (W 1074)) (W 0)) × T (le (neg (W 0)) (W 1023))
unfolding neg of_int round le lt eq
about_zero = (tt, tt)

exponent_in : (z : ℕ) → 0 < z → z ≤ 2098 → In (neg (W 1074)) (W 1023) (of_int binary64 (minus z 1075))
exponent_in z p h = go (leb 1075 z) (leb→le 1075 z) (nleb→lt 1075 z)
  where
    first : (z : ℕ) → z ≤ 2098 → z - 1075 ≤ 1023
    first z h = omega arith

    nothing : (n : ℕ) → 0 ≤ n
    nothing n = omega arith

    go : (t : Bool) → (T t → 1075 ≤ z) → (T (not t) → z < 1075) → In (neg (W 1074)) (W 1023) (of_int binary64 (cond t (pos (z - 1075)) (negsuc (1075 - suc z))))
    go true f g = record {
      low = le_trans_float (neg (W 1074)) (W 0) (W (z - 1075)) about_zero.0 (whole_le binary64 0 (z - 1075) (nothing (z - 1075)));
      high = whole_le binary64 (z - 1075) 1023 (first z h);
    }
    go false f g =
        let k = suc (1075 - suc z) in
        subst (λ (y : Float). In (neg (W 1074)) (W 1023) y) (sym (minus_is (1075 - suc z)))
        (record {
          low = neg_le (W k) (W 1074) (whole_le binary64 k 1074 (deep z p (g tt)));
          high = le_trans_float (neg (W k)) (neg (W 0)) (W 1023) (neg_le (W 0) (W k) (whole_le binary64 0 k (nothing k))) about_zero.1;
        })
      where
        deep : (z : ℕ) → 0 < z → z < 1075 → suc (1075 - suc z) ≤ 1074
        deep z h k = omega arith

-- ---- after halving
pub record Centred (p : Parts) : Type 0 where
  pub m_in : In low_m ROOT2 p.m
  pub e_in : In (neg (W 1074)) (W 1024) p.e

half_ends : T (le low_m (mul binary64 ROOT2 half) && le (mul binary64 two half) ROOT2)
unfolding of_bits mul round le lt eq
half_ends = tt

raised : T (finite4 (neg (W 1074)) (W 1023) one64 one64) × T (le (neg (W 1074)) (add binary64 (neg (W 1074)) one64) && le (add binary64 (W 1023) one64) (W 1024))
unfolding of_bits neg add sum of_int round le lt eq
raised = (tt, tt)

kept : T (le low_m one64 && le ROOT2 ROOT2) × T (le (neg (W 1074)) (neg (W 1074)) && le (W 1023) (W 1024))
unfolding of_bits neg mul of_int round le lt eq
kept = (tt, tt)

root_finite : T (finite ROOT2) × T (finite one64 && finite two)
unfolding of_bits
root_finite = (tt, tt)

centred_in : (m e : Float) → In one64 two m → In (neg (W 1074)) (W 1023) e → Centred (centred (record { m = m; e = e }))
unfolding centred
centred_in m e hm he = go (lt ROOT2 m) refl
  where
    F : T (finite m)
    F = in_finite root_finite.1 hm

    go : (b : Bool) → lt ROOT2 m ≡ b → Centred (cond b (record { m = mul binary64 m half; e = add binary64 e one64 }) (record { m = m; e = e }))
    go true q = record {
      m_in = in_wider half_ends (in_times ROOT2 two half one_finite.2 one_finite.3 one_finite.4 (record { low = lt→le ROOT2 m (yes q); high = hm.high }));
      e_in = in_wider raised.1 (in_add binary64 raised.0 he (at_itself one64 one_finite.0));
    }
    go false q = record {
      m_in = in_wider kept.0 (record { low = hm.low; high = not-lt→le ROOT2 m root_finite.0 F q });
      e_in = in_wider kept.1 he;
    }

pub parts_in : (n : ℕ) → 0 < n → n < 2 ^ 2098 → Centred (centred (parts_of n))
unfolding parts_of
parts_in n p h = centred_in (round binary64 false n (2 ^ (size n - 1))) (of_int binary64 (minus (size n) 1075)) (mantissa_in n p) (exponent_in (size n) (size_gt n 0 p) (size-le n 2098 h))

-- ---- ln and log2
ends : T (finite (neg (W 1074)) && finite (W 1024)) × T (finite (neg one_f) && finite one_f)
unfolding neg of_int round
ends = (tt, tt)

factors : T (finite LN2_HI) × T (le zero_f LN2_HI) × T (finite LN2_LO) × T (le zero_f LN2_LO) × T (finite LOG2E) × T (le zero_f LOG2E)
unfolding of_bits le lt eq
factors = (tt, tt, tt, tt, tt, tt)

-- the series and e·lo
abbrev low_down : Float
low_down = add binary64 (neg one_f) (mul binary64 (neg (W 1074)) LN2_LO)

abbrev low_up : Float
low_up = add binary64 one_f (mul binary64 (W 1024) LN2_LO)

ln_finite4 : T (finite4 (neg one_f) one_f (mul binary64 (neg (W 1074)) LN2_LO) (mul binary64 (W 1024) LN2_LO)) × T (finite4 (mul binary64 (neg (W 1074)) LN2_HI) (mul binary64 (W 1024) LN2_HI) low_down low_up)
unfolding of_bits neg of_int mul add sum round
ln_finite4 = (tt, tt)

log2_finite4 : T (finite4 (neg (W 1074)) (W 1024) (mul binary64 (neg one_f) LOG2E) (mul binary64 one_f LOG2E))
unfolding of_bits neg of_int mul round
log2_finite4 = tt

ln_ends : Within 746 (add binary64 (mul binary64 (neg (W 1074)) LN2_HI) low_down) × Within 746 (add binary64 (mul binary64 (W 1024) LN2_HI) low_up)
unfolding of_bits neg of_int mul add sum round
ln_ends = (within_lit 746 (add binary64 (mul binary64 (neg (W 1074)) LN2_HI) low_down) tt, within_lit 746 (add binary64 (mul binary64 (W 1024) LN2_HI) low_up) tt)

log2_ends : Within 1076 (add binary64 (neg (W 1074)) (mul binary64 (neg one_f) LOG2E)) × Within 1076 (add binary64 (W 1024) (mul binary64 one_f LOG2E))
unfolding of_bits neg of_int mul add sum round
log2_ends = (within_lit 1076 (add binary64 (neg (W 1074)) (mul binary64 (neg one_f) LOG2E)) tt, within_lit 1076 (add binary64 (W 1024) (mul binary64 one_f LOG2E)) tt)

pub ln_at_in : (p : Parts) → Centred p → Within 746 (ln_at p)
ln_at_in p c =
    in_within ln_ends.0 ln_ends.1
    (in_add binary64 ln_finite4.1 (in_times (neg (W 1074)) (W 1024) LN2_HI ends.0 factors.0 factors.1 c.e_in)
    (in_add binary64 ln_finite4.0 (series_in p.m c.m_in) (in_times (neg (W 1074)) (W 1024) LN2_LO ends.0 factors.2 factors.3 c.e_in)))

pub log2_at_in : (p : Parts) → Centred p → Within 1076 (log2_at p)
log2_at_in p c =
    in_within log2_ends.0 log2_ends.1
    (in_add binary64 log2_finite4 c.e_in (in_times (neg one_f) one_f LOG2E ends.1 factors.4 factors.5 (series_in p.m c.m_in)))

pub by_parts : (f : Parts → Float) (k : ℕ) → ((p : Parts) → Centred p → Within k (f p)) → (x : Float) → T (fits binary64 x) → T (lt zero_f x) → T (lt x (inf false)) → Within k (log_by f x)
by_parts f k each x p g h =
    let a = signs.above x g h in
    let q = subst (λ (y : Float). T (fits binary64 y)) a.is p in
    subst (λ (y : Float). Within k (log_by f y)) (sym a.is)
    (subst (Within k) (sym (number_is f a.m a.e)) (each _ (parts_in (units_in (fin false (suc a.m) a.e)) (units_pos a.m a.e q) (units_lt a.m a.e q))))
