-- The f64s near a number: from 2 ^ (52 + s) units of 2 ^ -1074 on, every f64 is a multiple of 2 ^ s units. Assumes nothing.
use Rattle.std.proofs.Common.{ℕ, suc, ◌+◌, ◌-◌, ◌*◌, ◌/◌, ◌^◌, ◌≤◌, ◌<◌, ◌≡◌, sym, ◌∙◌, ap, le_trans, le_of_eq, lt_of_lt_of_le, lt_of_le_of_lt, lt_of_not-le, not-le_of_lt, le_of_suc-le-suc, mul-one, mul_assoc, mul-div_cancel, div-one, mul-lt-mul_of_pos_right, arith, T, pos, negsuc, pow-add, pow_pos, pow_mono, Float}
use lib.Pow.{pow-lt}
use lib.Ieee.{nan, inf, fin, binary64, fits}
use lib.Ieee.Scale.{finite}
use Rattle.tonekit_float.proofs.Exact.{held}
use Rattle.tonekit_float.proofs.Patterns.{units_in}

-- m times 2 ^ j units, with 53 digits in m
pub record Scaled (X : ℕ) : Type 0 where
  pub m : ℕ
  pub j : ℕ
  pub digits : m < 2 ^ 53
  pub is : X ≡ m * 2 ^ j

pow_le_back : (i j : ℕ) → 2 ^ i ≤ 2 ^ j → i ≤ j
pow_le_back i j h = le_of_suc-le-suc (lt_of_not-le (λ (g : suc j ≤ i). not-le_of_lt (pow-lt g) h))

pub scaled : (x : Float) → T (fits binary64 x) → T (finite x) → Scaled (units_in x)
scaled nan h f = absurd f
scaled (inf s) h f = absurd f
scaled (fin s m (pos k)) h f = record {
  m = m;
  j = k + 1074;
  digits = (held binary64 s m (pos k) h).digits;
  is = div-one (m * 2 ^ k * 2 ^ 1074) ∙ mul_assoc m (2 ^ k) (2 ^ 1074) ∙ ap (λ (z : ℕ). m * z) (sym (pow-add 2 k 1074));
}
scaled (fin s m (negsuc k)) h f = record {
  m = m;
  j = 1074 - suc k;
  digits = (held binary64 s m (negsuc k) h).digits;
  is =
      ap (λ (z : ℕ). z * 2 ^ 1074 / 2 ^ suc k) (mul-one m)
      ∙ ap (λ (z : ℕ). m * 2 ^ z / 2 ^ suc k) (sym (meet 1074 (suc k) (pow_le_back (suc k) 1074 (held binary64 s m (negsuc k) h).fine)))
      ∙ ap (λ (z : ℕ). z / 2 ^ suc k) (ap (λ (z : ℕ). m * z) (pow-add 2 (1074 - suc k) (suc k)) ∙ sym (mul_assoc m (2 ^ (1074 - suc k)) (2 ^ suc k)))
      ∙ mul-div_cancel (m * 2 ^ (1074 - suc k)) (pow_pos (suc k));
}
  where
    meet : (l k : ℕ) → k ≤ l → l - k + k ≡ l
    meet l k h = omega arith

pub record Multiple (X s : ℕ) : Type 0 where
  pub h : ℕ
  pub is : X ≡ h * 2 ^ s

pub multiple : (X s : ℕ) → Scaled X → 2 ^ (52 + s) ≤ X → Multiple X s
multiple X s a lo =
    let j = a.j in
    let m = a.m in
    let top : 2 ^ (52 + s) < 2 ^ (53 + j) = lt_of_le_of_lt (le_trans lo (le_of_eq a.is)) (lt_of_lt_of_le (mul-lt-mul_of_pos_right a.digits (pow_pos j)) (le_of_eq (sym (pow-add 2 53 j)))) in
    let less : s ≤ j = back s j (lt_of_not-le (λ (g : 53 + j ≤ 52 + s). not-le_of_lt top (pow_mono g))) in
    record { h = m * 2 ^ (j - s); is = a.is ∙ ap (λ (z : ℕ). m * 2 ^ z) (sym (meet j s less)) ∙ ap (λ (z : ℕ). m * z) (pow-add 2 (j - s) s) ∙ sym (mul_assoc m (2 ^ (j - s)) (2 ^ s)) }
  where
    back : (s j : ℕ) → 52 + s < 53 + j → s ≤ j
    back s j h = omega arith

    meet : (l k : ℕ) → k ≤ l → l - k + k ≡ l
    meet l k h = omega arith
