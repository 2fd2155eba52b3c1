-- The whole number at or below a t from -1022 up and below 0.
use Rattle.std.proofs.Common.{◌≡◌, ℕ, ◌+◌, ◌-◌, ◌*◌, ◌/◌, ◌^◌, ◌<◌, ◌≤◌, true, false, T, ℤ, pos, neg_ℤ, sym, refl, ap, ◌∙◌, subst, true≢false, le_trans, le_of_eq, lt_of_le_of_lt, lt_irrefl, div-lt_iff_lt-mul, add-mul, le_antisymm, lt_of_mul-lt-mul_right, le-div_iff_mul-le, mul-one, mul_right_comm, div-mul-le_self, le_of_mul-le-mul_right, arith, ltb→lt, lt→ltb, nltb→le, Float}
use native.Mathlib.Nat.{min-eq_left}
use lib.Ieee.{nan, inf, fin, binary64, up, down, neg, lt, le, eq, of_int, to_unsigned}
use lib.Ieee.Fits.{down_pos}
use lib.Ieee.Exact.{HasValue}
use Rattle.tonekit_float.proofs.Order.{yes, no, either_ge}
use Rattle.tonekit_float.proofs.Exact.{whole_value}
use Rattle.tonekit_float.proofs.Monotone.{zero_f}
use Rattle.spec_arithmetic.specs.Exp.{floor_of}

-- ---- quotients
quotient : (N D q : ℕ) → 0 < D → q * D ≤ N → N < (q + 1) * D → N / D ≡ q
quotient N D q d lo hi = le_antisymm (small (N / D) q ((div-lt_iff_lt-mul d).1 hi)) ((le-div_iff_mul-le d).1 lo)
  where
    small : (a q : ℕ) → a < q + 1 → a ≤ q
    small a q h = omega arith

next_of : (u D : ℕ) → (u + 1) * D ≡ u * D + D
next_of u D = let x = add-mul u 1 D in omega arith

ceil_up : (M D u : ℕ) → 0 < D → M / D ≡ u → u * D < M → (M + (D - 1)) / D ≡ u + 1
ceil_up M D u d e h =
    let hi : M < (u + 1) * D = (div-lt_iff_lt-mul d).0 (lt_of_le_of_lt (le_of_eq e) (omega arith)) in
    let a = next_of u D in
    let b = next_of (u + 1) D in
    quotient (M + (D - 1)) D (u + 1) d (omega arith) (omega arith)

ceil_same : (M D u : ℕ) → 0 < D → M / D ≡ u → M ≤ u * D → (M + (D - 1)) / D ≡ u
ceil_same M D u d e h =
    let lo : u * D ≤ M = le_trans (le_of_eq (ap (λ (z : ℕ). z * D) (sym e))) (div-mul-le_self M D) in
    let a = next_of u D in
    quotient (M + (D - 1)) D u d (omega arith) (omega arith)

-- ---- a whole float against another
lt_value : (x : Float) (u m : ℕ) (e : ℤ) → HasValue x false u 1 → lt x (fin false m e) ≡ true → u * down e < m * up e
unfolding lt
lt_value nan u m e v h = absurd v
lt_value (inf s) u m e v h = absurd v
lt_value (fin true n d) u m e v h = absurd (true≢false v.0)
lt_value (fin false n d) u m e v h =
    lt_of_mul-lt-mul_right (down d)
    (lt_of_le_of_lt (le_of_eq (mul_right_comm u (down e) (down d) ∙ ap (λ (z : ℕ). z * down e) (sym v.1 ∙ mul-one (n * up d)))) (ltb→lt (n * up d * down e) (m * up e * down d) (yes h)))

ge_value : (x : Float) (u m : ℕ) (e : ℤ) → HasValue x false u 1 → lt x (fin false m e) ≡ false → m * up e ≤ u * down e
unfolding lt
ge_value nan u m e v h = absurd v
ge_value (inf s) u m e v h = absurd v
ge_value (fin true n d) u m e v h = absurd (true≢false v.0)
ge_value (fin false n d) u m e v h =
    le_of_mul-le-mul_right
    (le_trans (nltb→le (n * up d * down e) (m * up e * down d) (no h)) (le_of_eq (ap (λ (z : ℕ). z * down e) (sym (mul-one (n * up d)) ∙ v.1) ∙ mul_right_comm u (down d) (down e)))) (down_pos d)

-- ---- t
pub record Deep (t : Float) : Type 0 where
  pub m : ℕ
  pub e : ℤ
  pub is : t ≡ fin true m e
  pub some : 0 < m * up e
  pub few : m * up e ≤ 1022 * down e

pub deep : (t : Float) → T (lt t zero_f) → T (le (fin true 511 (pos 1)) t) → Deep t
unfolding lt le eq
deep nan g h = absurd g
deep (inf true) g h = absurd h
deep (inf false) g h = absurd g
deep (fin false m e) g h = let k = ltb→lt (m * up e * 1) (0 * down e) g in absurd (lt_irrefl 0 (omega arith))
deep (fin true m e) g h = record {
  m = m;
  e = e;
  is = refl;
  some = let k = ltb→lt 0 (m * up e * 1 + 0 * down e) g in omega arith;
  few = let k = either_ge (1022 * down e) (m * up e * 1) _ h in omega arith;
}

pub flipped : (t : Float) (d : Deep t) → neg t ≡ fin false d.m d.e
unfolding neg
flipped t d = ap neg d.is

in_range : (m : ℕ) (e : ℤ) → m * up e ≤ 1022 * down e → T (lt (fin true 1 (pos 0)) (fin false m e)) × T (lt (fin false m e) (fin false 1 (pos 64)))
unfolding lt
in_range m e h =
    let d = down_pos e in
    (lt→ltb 0 (1 * down e + m * up e * 1) (omega arith), lt→ltb (m * up e * 1) (1 * 2 ^ 64 * down e) (omega arith))

pub asks : (t : Float) (d : Deep t) → T (lt (fin true 1 (pos 0)) (neg t)) × T (lt (neg t) (fin false 1 (pos 64)))
asks t d = subst (λ (y : Float). T (lt (fin true 1 (pos 0)) y) × T (lt y (fin false 1 (pos 64)))) (sym (flipped t d)) (in_range d.m d.e d.few)

cut : (m : ℕ) (e : ℤ) → m * up e ≤ 1022 * down e → to_unsigned 64 (fin false m e) ≡ m * up e / down e
unfolding to_unsigned
cut m e h = min-eq_left (let k = low in omega arith)
  where
    low : m * up e / down e < 1023
    low = (div-lt_iff_lt-mul (down_pos e)).1 (let d = down_pos e in let k = h in omega arith)

pub cut_is : (t : Float) (d : Deep t) (u : ℕ) → u ≡ to_unsigned 64 (neg t) → u ≡ d.m * up d.e / down d.e
cut_is t d u h = h ∙ ap (to_unsigned 64) (flipped t d) ∙ cut d.m d.e d.few

pub cut_le : (t : Float) (d : Deep t) (u : ℕ) → u ≡ to_unsigned 64 (neg t) → u ≤ 1022
cut_le t d u h =
    let e = d.e in
    let D = down_pos e in
    let f = d.few in
    let k : d.m * up e / down e < 1023 = (div-lt_iff_lt-mul D).1 (omega arith) in
    let c = cut_is t d u h in
    omega arith

floor_is : (t : Float) (d : Deep t) → floor_of t ≡ neg_ℤ (pos ((d.m * up d.e + (down d.e - 1)) / down d.e))
unfolding floor_of
floor_is t d = ap floor_of d.is

ceil_pos : (M D : ℕ) → 0 < D → 0 < M → 0 < (M + (D - 1)) / D
ceil_pos M D d h = (le-div_iff_mul-le d).1 (omega arith)

ceil_le : (M D : ℕ) → 0 < D → M ≤ 1022 * D → (M + (D - 1)) / D ≤ 1022
ceil_le M D d h = let k : (M + (D - 1)) / D < 1023 = (div-lt_iff_lt-mul d).1 (omega arith) in omega arith

abbrev Answer : Float → ℕ → Type 0
Answer t n = (floor_of t ≡ neg_ℤ (pos n)) × (0 < n) × (n ≤ 1022)

answer : (t : Float) (d : Deep t) (n : ℕ) → (d.m * up d.e + (down d.e - 1)) / down d.e ≡ n → Answer t n
answer t d n h =
    let D = down_pos d.e in (
      floor_is t d ∙ ap (λ (k : ℕ). neg_ℤ (pos k)) h,
      subst (λ (k : ℕ). 0 < k) h (ceil_pos (d.m * up d.e) (down d.e) D d.some),
      subst (λ (k : ℕ). k ≤ 1022) h (ceil_le (d.m * up d.e) (down d.e) D d.few),
    )

as_whole : (x : Float) (u : ℕ) → x ≡ of_int binary64 (pos u) → u ≤ 1022 → HasValue x false u 1
as_whole x u e h = subst (λ (y : Float). HasValue y false u 1) (sym e) (whole_value binary64 u (let k = h in omega arith))

pub answer_up : (t : Float) (d : Deep t) (u : ℕ) (x : Float) → u ≡ to_unsigned 64 (neg t) → x ≡ of_int binary64 (pos u) → lt x (neg t) ≡ true → Answer t (u + 1)
answer_up t d u x h k l =
    answer t d (u + 1) (ceil_up (d.m * up d.e) (down d.e) u (down_pos d.e) (sym (cut_is t d u h))
    (lt_value x u d.m d.e (as_whole x u k (cut_le t d u h)) (subst (λ (y : Float). lt x y ≡ true) (flipped t d) l)))

pub answer_same : (t : Float) (d : Deep t) (u : ℕ) (x : Float) → u ≡ to_unsigned 64 (neg t) → x ≡ of_int binary64 (pos u) → lt x (neg t) ≡ false → Answer t u
answer_same t d u x h k l =
    answer t d u (ceil_same (d.m * up d.e) (down d.e) u (down_pos d.e) (sym (cut_is t d u h))
    (ge_value x u d.m d.e (as_whole x u k (cut_le t d u h)) (subst (λ (y : Float). lt x y ≡ false) (flipped t d) l)))
