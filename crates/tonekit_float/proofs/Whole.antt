-- Whole parts and rounding up: what the code of `floor_index` and `ceil_index` needs, and where the results lie.
use Rattle.std.proofs.Common.{◌≡◌, ℕ, ◌+◌, ◌-◌, ◌*◌, ◌/◌, ◌^◌, ◌<◌, ◌≤◌, true, false, T, ℤ, pos, sym, refl, ap, ◌∙◌, subst, zero-le, le_trans, le_of_eq, le_of_lt, mul-le-mul_right, zero-lt-suc, div-lt_iff_lt-mul, add-mul, lt_of_mul-lt-mul_right, mul-pos, one-mul, le-div_iff_mul-le, zero-mul, mul-one, mul_right_comm, div-mul-le_self, le_of_mul-le-mul_right, mul-div_cancel, arith, le→leb, ltb→lt, lt→ltb, nltb→le, lit≤, Float}
use native.Mathlib.Nat.{zero-div, min-eq_left}
use lib.Ieee.{nan, inf, fin, binary64, up, down, lt, le, eq, sub, mul, of_int, of_bits, in_float, to_unsigned}
use lib.Ieee.Fits.{down_pos, of_int-fits}
use lib.Ieee.Exact.{HasValue}
use lib.Ieee.Positive.{den, den_pos}
use lib.Ieee.Scale.{finite}
use Rattle.spec_arithmetic.specs.Bounds.{In}
use Rattle.tonekit_float.proofs.Fraction.{pos_part, neg_part}
use Rattle.spec_arithmetic.specs.Whole.{whole_part, round_up}
use Rattle.tonekit_float.proofs.Order.{yes, no, le→under, under→le, lt→cross, lt→le, not-lt→le, le_refl_finite, le_trans_float, between_finite, le_lt}
use Rattle.tonekit_float.proofs.Monotone.{zero_f, no_minus, sub_le}
use Rattle.tonekit_float.proofs.Exact.{one_f, whole, whole_value, whole_worth, whole_le, whole_sub, sub_nonneg, in_part}

-- ---- what the cast asks: a float from 0 up is above -1, and one below 2 ^ 53 is below 2 ^ 64
pub above_minus_one : (x : Float) → T (le zero_f x) → T (lt (fin true 1 (pos 0)) x)
unfolding le lt eq
above_minus_one nan h = absurd h
above_minus_one (inf true) h = absurd h
above_minus_one (inf false) h = tt
above_minus_one (fin true m e) h =
    let z : m * up e ≡ 0 = no_minus (fin true m e) tt h in
    let d = down_pos e in
    lt→ltb (m * up e * 1) (1 * down e) (omega arith)
above_minus_one (fin false m e) h =
    let d = down_pos e in
    lt→ltb 0 (1 * down e + m * up e * 1) (omega arith)

pub below_2_64 : (x : Float) → T (lt x (fin false 1 (pos 53))) → T (lt x (fin false 1 (pos 64)))
unfolding lt
below_2_64 nan h = absurd h
below_2_64 (inf true) h = tt
below_2_64 (inf false) h = absurd h
below_2_64 (fin true m e) h = lt→ltb 0 (m * up e * 1 + 1 * 2 ^ 64 * down e) (let d = down_pos e in omega arith)
below_2_64 (fin false m e) h =
    let k = ltb→lt (m * up e * 1) (1 * 2 ^ 53 * down e) h in
    let d = down_pos e in
    lt→ltb (m * up e * 1) (1 * 2 ^ 64 * down e) (omega arith)

-- ---- there the whole part is below 2 ^ 53, and the cast gives it
pub part_lt : (x : Float) → T (le zero_f x) → T (lt x (fin false 1 (pos 53))) → whole_part x < 2 ^ 53
unfolding le lt eq whole_part
part_lt nan g h = absurd g
part_lt (inf true) g h = absurd g
part_lt (inf false) g h = absurd h
part_lt (fin true m e) g h =
    let z : m * up e ≡ 0 = no_minus (fin true m e) tt g in
    let d = down_pos e in
    (div-lt_iff_lt-mul (down_pos e)).1 (omega arith)
part_lt (fin false m e) g h =
    let k = ltb→lt (m * up e * 1) (1 * 2 ^ 53 * down e) h in
    (div-lt_iff_lt-mul (down_pos e)).1 (omega arith)

pub cast_is : (x : Float) → T (le zero_f x) → T (lt x (fin false 1 (pos 53))) → to_unsigned 64 x ≡ whole_part x
unfolding le lt eq to_unsigned whole_part
cast_is nan g h = absurd g
cast_is (inf true) g h = absurd g
cast_is (inf false) g h = absurd h
cast_is (fin true m e) g h =
    let z : m * up e ≡ 0 = no_minus (fin true m e) tt g in
    sym (ap (λ (k : ℕ). k / down e) z ∙ zero-div (down e))
cast_is (fin false m e) g h =
    let q : m * up e / down e < 2 ^ 53 = part_lt (fin false m e) g h in
    min-eq_left (omega arith)

-- ---- rounding up: the whole part, and one more where it is below x
suc_le : (q : ℕ) → q < 2 ^ 53 → q + 1 ≤ 2 ^ 53
suc_le q h = omega arith

up_next : (M D : ℕ) → 0 < D → M / D * D < M → M / D + 1 ≡ (M + (D - 1)) / D
up_next M D d h =
    let q = M / D in
    let hi : M < (q + 1) * D = (div-lt_iff_lt-mul d).0 (more q) in
    let a : (q + 1) * D ≡ q * D + D = add-mul q 1 D ∙ ap (λ (z : ℕ). q * D + z) (one-mul D) in
    let b : (q + 1 + 1) * D ≡ (q + 1) * D + D = add-mul (q + 1) 1 D ∙ ap (λ (z : ℕ). (q + 1) * D + z) (one-mul D) in
    let l : q + 1 ≤ (M + (D - 1)) / D = (le-div_iff_mul-le d).1 (omega arith) in
    let u : (M + (D - 1)) / D < q + 1 + 1 = (div-lt_iff_lt-mul d).1 (omega arith) in
    omega arith
  where
    more : (q : ℕ) → q < q + 1
    more q = omega arith

up_same : (M D : ℕ) → 0 < D → M ≤ M / D * D → M / D ≡ (M + (D - 1)) / D
up_same M D d h =
    let q = M / D in
    let lo : q * D ≤ M = div-mul-le_self M D in
    let a : (q + 1) * D ≡ q * D + D = add-mul q 1 D ∙ ap (λ (z : ℕ). q * D + z) (one-mul D) in
    let l : q ≤ (M + (D - 1)) / D = (le-div_iff_mul-le d).1 (omega arith) in
    let u : (M + (D - 1)) / D < q + 1 = (div-lt_iff_lt-mul d).1 (omega arith) in
    omega arith

-- the whole number q against m 2 ^ e
module _ (q m : ℕ) (e : ℤ) (small : q ≤ 2 ^ 53) where
  abbrev w : Float
  w = whole binary64 q

  scaled : pos_part w * down e ≡ q * down e * den w
  scaled = let W = whole_worth binary64 q small in ap (λ (k : ℕ). k * down e) W.plus_is ∙ mul_right_comm q (den w) (down e)

  lt_cross : T (lt w (fin false m e)) → q * down e < m * up e
  lt_cross h =
      let W = whole_worth binary64 q small in
      let c = lt→cross w (fin false m e) W.real tt h in
      let s = scaled in
      let z : neg_part w * down e ≡ 0 = ap (λ (k : ℕ). k * down e) W.minus_is ∙ zero-mul (down e) in
      lt_of_mul-lt-mul_right (den w) (omega arith)

  le_cross : T (le (fin false m e) w) → m * up e ≤ q * down e
  le_cross h =
      let W = whole_worth binary64 q small in
      let c = le→under (fin false m e) w tt W.real h in
      let s = scaled in
      le_of_mul-le-mul_right (omega arith) (den_pos w)

-- what the code knows: x is above 0 and below 2 ^ 53
module _ (x : Float) (g : lt (of_bits binary64 0) x ≡ true) (h : T (lt x (fin false 1 (pos 53)))) where
  pub from_0 : T (le zero_f x)
  unfolding of_bits
  from_0 = lt→le zero_f x (yes g)

  pub up_lt : whole_part x < 2 ^ 53
  up_lt = part_lt x from_0 h

pub more_up : (x : Float) → lt (of_bits binary64 0) x ≡ true → T (lt x (fin false 1 (pos 53))) → lt (whole binary64 (whole_part x)) x ≡ true → whole_part x + 1 ≡ round_up x
unfolding whole_part round_up lt of_bits
more_up nan g h t = absurd (yes g)
more_up (inf true) g h t = absurd (yes g)
more_up (inf false) g h t = absurd h
more_up (fin true m e) g h t = absurd (yes g)
more_up (fin false m e) g h t = up_next (m * up e) (down e) (down_pos e) (lt_cross (m * up e / down e) m e (le_of_lt (up_lt (fin false m e) g h)) (yes t))

pub no_more_up : (x : Float) → lt (of_bits binary64 0) x ≡ true → T (lt x (fin false 1 (pos 53))) → lt (whole binary64 (whole_part x)) x ≡ false → whole_part x ≡ round_up x
unfolding whole_part round_up lt of_bits
no_more_up nan g h t = refl
no_more_up (inf s) g h t = refl
no_more_up (fin true m e) g h t = absurd (yes g)
no_more_up (fin false m e) g h t =
    let q = m * up e / down e in
    let s : q ≤ 2 ^ 53 = le_of_lt (up_lt (fin false m e) g h) in
    up_same (m * up e) (down e) (down_pos e) (le_cross q m e s (not-lt→le (whole binary64 q) (fin false m e) (whole_worth binary64 q s).real tt t))

pub none_up : (x : Float) → lt (of_bits binary64 0) x ≡ false → 0 ≡ round_up x
unfolding round_up lt of_bits
none_up nan h = refl
none_up (inf s) h = refl
none_up (fin true m e) h = refl
none_up (fin false m e) h =
    let k = nltb→le (0 * down e) (m * up e * 1) (no h) in
    let d = down_pos e in
    let z : (m * up e + (down e - 1)) / down e < 1 = (div-lt_iff_lt-mul d).1 (omega arith) in
    omega arith

-- what the cast of an index asks
pub exact_index : (n : ℕ) → n < 2 ^ 53 → T (in_float binary64 (pos n))
unfolding in_float
exact_index n h = le→leb n (2 ^ 53) (le_of_lt h)

-- ---- the whole part
-- of a float from 0 to n it is at most n
pub part_le : (x : Float) (n : ℕ) → n ≤ 2 ^ 53 → T (finite x) → T (le zero_f x) → T (le x (whole binary64 n)) → whole_part x ≤ n
unfolding whole_part
part_le nan n h p z k = absurd p
part_le (inf s) n h p z k = absurd p
part_le (fin true m e) n h p z k =
    let e0 : m * up e ≡ 0 = no_minus (fin true m e) tt z in
    le_trans (le_of_eq (ap (λ (i : ℕ). i / down e) e0 ∙ zero-div (down e))) zero-le
part_le (fin false m e) n h p z k =
    let W = whole_worth binary64 n h in
    let c = le→under (fin false m e) (whole binary64 n) tt W.real k in
    let a : pos_part (whole binary64 n) * down e ≡ n * down e * den (whole binary64 n) = ap (λ (z : ℕ). z * down e) W.plus_is ∙ mul_right_comm n (den (whole binary64 n)) (down e) in
    let b : m * up e * den (whole binary64 n) ≤ n * down e * den (whole binary64 n) = omega arith in
    let l : m * up e ≤ n * down e = le_of_mul-le-mul_right b (den_pos (whole binary64 n)) in
    let d : (n + 1) * down e ≡ n * down e + down e = add-mul n 1 (down e) ∙ ap (λ (z : ℕ). n * down e + z) (one-mul (down e)) in
    let D = down_pos e in
    let q : m * up e / down e < n + 1 = (div-lt_iff_lt-mul D).1 (omega arith) in
    omega arith

-- a whole number's own
pub part_whole : (n : ℕ) → n ≤ 2 ^ 53 → whole_part (whole binary64 n) ≡ n
part_whole n h = go (whole binary64 n) (whole_value binary64 n h)
  where
    go : (x : Float) → HasValue x false n 1 → whole_part x ≡ n
    go nan v = absurd v
    go (inf s) v = absurd v
    go (fin s m e) v = unfold whole_part in (ap (λ (k : ℕ). k / down e) (sym (mul-one (m * up e)) ∙ v.1) ∙ mul-div_cancel n (down_pos e))

-- ---- a value from 0 up lies between its whole part and the next whole number, and what is left of it is from 0 to 1
pub record Parted (x : Float) : Type 0 where
  pub at_least : whole_part x * den x ≤ pos_part x
  pub less_than : pos_part x < (whole_part x + 1) * den x
  pub minus_is : neg_part x ≡ 0

pub parted : (x : Float) → T (finite x) → T (le zero_f x) → Parted x
unfolding whole_part
parted nan p h = absurd p
parted (inf s) p h = absurd p
parted (fin true m e) p h =
    let z : m * up e ≡ 0 = no_minus (fin true m e) tt h in
    let q : m * up e / down e ≡ 0 = ap (λ (k : ℕ). k / down e) z ∙ zero-div (down e) in
    record {
      at_least = le_of_eq (ap (λ (k : ℕ). k * down e) q ∙ zero-mul (down e));
      less_than = subst (λ (k : ℕ). 0 < (k + 1) * down e) (sym q) (mul-pos (zero-lt-suc 0) (down_pos e));
      minus_is = z;
    }
parted (fin false m e) p h = record { at_least = div-mul-le_self (m * up e) (down e); less_than = (div-lt_iff_lt-mul (down_pos e)).0 (one_up (m * up e / down e)); minus_is = refl }
  where
    one_up : (q : ℕ) → q < q + 1
    one_up q = omega arith

module _ (x : Float) (p : T (finite x)) (h : T (le zero_f x)) (small : whole_part x < 2 ^ 53) where
  abbrev q : ℕ
  q = whole_part x

  pub part_under : T (le (whole binary64 q) x)
  part_under =
      let P = parted x p h in
      let w = whole_worth binary64 q (le_of_lt small) in
      let D = den (whole binary64 q) in
      let a : q * den x * D ≤ pos_part x * D = mul-le-mul_right D P.at_least in
      let b : pos_part (whole binary64 q) * den x ≡ q * den x * D = ap (λ (k : ℕ). k * den x) w.plus_is ∙ mul_right_comm q D (den x) in
      let c : neg_part x * D ≡ 0 = ap (λ (k : ℕ). k * D) P.minus_is ∙ zero-mul D in
      under→le (whole binary64 q) x w.real p (omega arith)

  pub part_over : T (le x (whole binary64 (q + 1)))
  part_over =
      let P = parted x p h in
      let n = q + 1 in
      let w = whole_worth binary64 n (suc_le q small) in
      let D = den (whole binary64 n) in
      let a : pos_part x * D ≤ n * den x * D = mul-le-mul_right D (le_of_lt P.less_than) in
      let b : pos_part (whole binary64 n) * den x ≡ n * den x * D = ap (λ (k : ℕ). k * den x) w.plus_is ∙ mul_right_comm n D (den x) in
      let c : neg_part (whole binary64 n) * den x ≡ 0 = ap (λ (k : ℕ). k * den x) w.minus_is ∙ zero-mul (den x) in
      under→le x (whole binary64 n) p w.real (omega arith)

  pub rest_in : In zero_f one_f (sub binary64 x (whole binary64 q))
  unfolding of_int
  rest_in =
      let w = (whole_worth binary64 q (le_of_lt small)).real in
      let v = (whole_worth binary64 (q + 1) (suc_le q small)).real in
      record {
        low = sub_nonneg binary64 x (whole binary64 q) p w part_under;
        high = subst (λ (z : Float). T (le (sub binary64 x (whole binary64 q)) z)) (whole_sub binary64 (q + 1) q (suc_le q small) (up_one q) ∙ ap (whole binary64) (left q))
            (sub_le binary64 x (whole binary64 (q + 1)) (whole binary64 q) (whole binary64 q) p v w w part_over (le_refl_finite (whole binary64 q) w));
      }
    where
      up_one : (q : ℕ) → q ≤ q + 1
      up_one q = omega arith

      left : (q : ℕ) → q + 1 - q ≡ 1
      left q = omega arith

-- ---- rounding a float of at most n up gives at most n
pub up_le : (x : Float) (n : ℕ) → n ≤ 2 ^ 53 → T (finite x) → T (le x (whole binary64 n)) → round_up x ≤ n
unfolding round_up
up_le nan n h p k = absurd p
up_le (inf s) n h p k = absurd p
up_le (fin true m e) n h p k = zero-le
up_le (fin false m e) n h p k =
    let c = le_cross n m e h k in
    let d = down_pos e in
    let a : (n + 1) * down e ≡ n * down e + down e = add-mul n 1 (down e) ∙ ap (λ (z : ℕ). n * down e + z) (one-mul (down e)) in
    let q : (m * up e + (down e - 1)) / down e < n + 1 = (div-lt_iff_lt-mul d).1 (omega arith) in
    omega arith

-- ---- a share of a whole number, from none to all of it, as an index: it lies from 0 to that number, and so do its whole part and what is left
pub share_in : (c : Float) (last : ℕ) → last ≤ 2 ^ 53 → In zero_f one_f c → In zero_f (whole binary64 last) (mul binary64 c (whole binary64 last))
unfolding of_int
share_in c last h k = in_part binary64 c (whole binary64 last) (of_int-fits binary64 (pos last)) (whole_worth binary64 last h).real (whole_le binary64 0 last zero-le) k

module _ (c : Float) (h : In zero_f one_f c) (last : ℕ) (few : last ≤ 1024) where
  abbrev share : Float
  share = mul binary64 c (whole binary64 last)

  small : last ≤ 2 ^ 53
  small = le_trans few (lit≤ tt)

  range_of : In zero_f (whole binary64 last) share
  range_of = share_in c last small h

  pub share_real : T (finite share)
  share_real = between_finite zero_f (whole binary64 last) share tt (whole_worth binary64 last small).real range_of.low range_of.high

  pub share_lt : T (lt share (fin false 1 (pos 53)))
  unfolding of_int lt
  share_lt = le_lt share (whole binary64 1024) (fin false 1 (pos 53)) share_real tt tt (le_trans_float share (whole binary64 last) (whole binary64 1024) range_of.high (whole_le binary64 last 1024 few)) tt

  pub share_part : whole_part share ≤ last
  share_part = part_le share last small share_real range_of.low range_of.high

  pub share_rest : In zero_f one_f (sub binary64 share (whole binary64 (whole_part share)))
  share_rest = rest_in share share_real range_of.low (part_lt share range_of.low share_lt)
