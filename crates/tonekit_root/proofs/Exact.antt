-- The floats that the code takes apart and puts together, by their values.
use Rattle.std.proofs.Common.{lt_of_not-le, not-le_of_lt, pow_mono, mul-lt-mul_of_pos_right, mul-le-mul_left, ℕ, suc, zero, ◌+◌, ◌-◌, ◌*◌, ◌/◌, ◌%◌, ◌^◌, ◌≤◌, ◌<◌, ◌≡◌, refl, sym, ◌∙◌, ap, ◌⊎◌, inl, inr, ⊎_elim, Bool, true, false, not, le_trans, le_of_eq, lt_of_lt_of_le, lt_irrefl, mul_comm, mul_assoc, mul_left_comm, mul-pos, mul-le-mul_right, mul-div_cancel, div-one, pow-suc, arith, T, eqb, eqb→eq, T_not, lit<, pos, pow-add, pow_pos}
use lib.Ieee.{binary64, size, round, mul, of_int, of_bits}
use lib.Ieee.Digits.{size-le}
use lib.Ieee.Fits.{eq→eqb}
use lib.Ieee.Back.{round_whole}
use lib.Ieee.Exact.{HasValue}
use lib.Ieee.Scale.{round_same}
use lib.Ieee.Positive.{mul_at, positive_of_value}
use Rattle.spec_arithmetic.specs.Root.{nearest_root, root_units}
use Rattle.tonekit_root.specs.Nearest.{Near}
use Rattle.tonekit_float.proofs.Units.{size_gt}
use Rattle.tonekit_float.proofs.NarrowRound.{L}
use Rattle.tonekit_float.proofs.Patterns.{L-pos, power_value, size_shl}
use Rattle.tonekit_root.proofs.Nearest.{nearest_near, unique_near}

-- ---- q * 2 ^ (f - 1023)
pub times_is : (q f : ℕ) → 0 < q → q ≤ 2 ^ 53 → 0 < f → f < 2046 → mul binary64 (of_int binary64 (pos q)) (of_bits binary64 (f * 2 ^ 52)) ≡ round binary64 false (q * 2 ^ f) (2 ^ 1023)
unfolding of_int
times_is q zero qp ql fp fl = absurd (lt_irrefl 0 fp)
times_is q (suc g) qp ql fp fl =
    let x = round binary64 false q 1 in
    let y = of_bits binary64 (suc g * 2 ^ 52) in
    let v : HasValue x false q 1 = round_whole binary64 false q ql in
    let w : HasValue y false (2 ^ 52 * 2 ^ g) L = power_value g (let k = fl in omega arith) in
    mul_at binary64 x y q 1 (2 ^ 52 * 2 ^ g) L (positive_of_value x q 1 v qp) (positive_of_value y (2 ^ 52 * 2 ^ g) L w (mul-pos (pow_pos 52) (pow_pos g))) (lit< tt) L-pos v w
    ∙ round_same binary64 false (q * (2 ^ 52 * 2 ^ g)) (1 * L) (q * 2 ^ suc g) (2 ^ 1023) (lit< tt) (pow_pos 1023)
    (shuffle q (2 ^ 52) (2 ^ g) (2 ^ 1023) ∙ ap (λ (z : ℕ). q * z) (mul_left_comm (2 ^ g) 2 L ∙ sym (mul_assoc 2 (2 ^ g) L) ∙ ap (λ (z : ℕ). z * L) (mul_comm 2 (2 ^ g) ∙ sym (pow-suc 2 g))) ∙ sym (mul_assoc q (2 ^ suc g) L))
  where
    shuffle : (q a b c : ℕ) → q * (a * b) * c ≡ q * (b * (a * c))
    shuffle q a b c = simp (mul_assoc, mul_comm, mul_left_comm)

-- ---- powers of 4
pub four_add : (i j : ℕ) → 4 ^ (i + j) ≡ 4 ^ i * 4 ^ j
four_add i j = pow-add 4 i j

pub four_two : (i : ℕ) → 4 ^ i ≡ 2 ^ (2 * i)
four_two zero = refl
four_two (suc i) =
    pow-suc 4 i ∙ ap (λ (z : ℕ). z * 4) (four_two i) ∙ sym (pow-add 2 (2 * i) 2) ∙ ap (λ (z : ℕ). 2 ^ z) (twice i)
  where
    twice : (i : ℕ) → 2 * i + 2 ≡ 2 * suc i
    twice i = omega arith

pub four_pos : (i : ℕ) → 0 < 4 ^ i
four_pos i = lt_of_lt_of_le (pow_pos (2 * i)) (le_of_eq (sym (four_two i)))

-- x has d + 1 digits; n pairs of zeros behind them make it 53 or 54
pub few_digits : (x d : ℕ) → 2 ^ d ≤ x → x < 2 ^ 52 → d < 52
few_digits x d p q = lt_of_not-le (λ (g : 52 ≤ d). not-le_of_lt q (le_trans (pow_mono g) p))

pub raised_low : (x d n : ℕ) → 2 ^ d ≤ x → 52 ≤ d + 2 * n → 2 ^ 52 ≤ x * 2 ^ (2 * n)
raised_low x d n p h = le_trans (pow_mono h) (le_trans (le_of_eq (pow-add 2 d (2 * n))) (mul-le-mul_right (2 ^ (2 * n)) p))

pub raised_high : (x d n : ℕ) → x < 2 * 2 ^ d → d + 2 * n ≤ 53 → x * 2 ^ (2 * n) < 2 ^ 54
raised_high x d n p h =
    lt_of_lt_of_le (mul-lt-mul_of_pos_right p (pow_pos (2 * n)))
    (le_trans (le_of_eq (mul_assoc 2 (2 ^ d) (2 ^ (2 * n)) ∙ ap (λ (z : ℕ). 2 * z) (sym (pow-add 2 d (2 * n))))) (mul-le-mul_left 2 (pow_mono h)))

-- ---- the definition, from the digits a of x: X is a * 4 ^ h, or a is X * 4 ^ n
pub size_four : (a h : ℕ) → 0 < a → size (a * 4 ^ h) ≡ size a + 2 * h
size_four a h p = ap (λ (z : ℕ). size (a * z)) (four_two h) ∙ size_shl a (2 * h) p

abbrev up4 : ℕ → ℕ
up4 X = (106 - size X) / 2

abbrev down4 : ℕ → ℕ
down4 X = (size X - 105) / 2

root_at : (X a q f k l : ℕ) → up4 X ≡ k → down4 X ≡ l → 2 ^ 52 ≤ a → a < 2 ^ 54 → Near (a * 2 ^ 52) q → X * 4 ^ k / 4 ^ l ≡ a * 2 ^ 52 → f + (k + 537) ≡ l + 1023
    → round binary64 false (q * 2 ^ f) (2 ^ 1023) ≡ root_units X
unfolding root_units
root_at X a q f k l ke le lo hi near is fe =
    let M-pos : 0 < a * 2 ^ 52 = let x = lo in omega arith in
    let M-lt : a * 2 ^ 52 < 4 ^ 53 = let x = hi in omega arith in
    let qe : q ≡ nearest_root (a * 2 ^ 52) = unique_near (a * 2 ^ 52) q (nearest_root (a * 2 ^ 52)) near (nearest_near (a * 2 ^ 52) M-pos M-lt) in
    let pe : 2 ^ f * 2 ^ (k + 537) ≡ 2 ^ l * 2 ^ 1023 = sym (pow-add 2 f (k + 537)) ∙ ap (λ (z : ℕ). 2 ^ z) fe ∙ pow-add 2 l 1023 in
    round_same binary64 false (q * 2 ^ f) (2 ^ 1023) (q * 2 ^ l) (2 ^ (k + 537)) (pow_pos 1023) (pow_pos (k + 537))
    (mul_assoc q (2 ^ f) (2 ^ (k + 537)) ∙ ap (λ (z : ℕ). q * z) pe ∙ sym (mul_assoc q (2 ^ l) (2 ^ 1023)))
    ∙ ap (λ (z : ℕ). round binary64 false (z * 2 ^ l) (2 ^ (k + 537))) (qe ∙ ap nearest_root (sym is))
    ∙ ap (λ (z : ℕ). round binary64 false (nearest_root (X * 4 ^ z / 4 ^ l) * 2 ^ l) (2 ^ (z + 537))) (sym ke)
    ∙ ap (λ (z : ℕ). round binary64 false (nearest_root (X * 4 ^ up4 X / 4 ^ z) * 2 ^ z) (2 ^ (up4 X + 537))) (sym le)

digits_pos : (a : ℕ) → 2 ^ 52 ≤ a → 0 < a
digits_pos a h = omega arith

k_normal : (z s h : ℕ) → z ≡ s + 2 * h → 53 ≤ s → s ≤ 54 → (106 - z) / 2 ≡ 26 - h
k_normal z s h e lo hi = omega arith

l_normal : (z s h : ℕ) → z ≡ s + 2 * h → 53 ≤ s → s ≤ 54 → (z - 105) / 2 ≡ h - 26
l_normal z s h e lo hi = omega arith

both : (h : ℕ) → h + (26 - h) ≡ 26 + (h - 26)
both h = omega arith

f_normal : (h : ℕ) → 460 + h + (26 - h + 537) ≡ h - 26 + 1023
f_normal h = omega arith

pub root_normal : (X a h q : ℕ) → X ≡ a * 4 ^ h → 2 ^ 52 ≤ a → a < 2 ^ 54 → Near (a * 2 ^ 52) q → round binary64 false (q * 2 ^ (460 + h)) (2 ^ 1023) ≡ root_units X
root_normal X a h q e lo hi near =
    let z : size X ≡ size a + 2 * h = ap size e ∙ size_four a h (digits_pos a lo) in
    let s53 = size_gt a 52 lo in
    let s54 = size-le a 54 hi in
    let k = 26 - h in
    let l = h - 26 in
    root_at X a q (460 + h) k l (k_normal (size X) (size a) h z s53 s54) (l_normal (size X) (size a) h z s53 s54) lo hi near
    (ap (λ (y : ℕ). y * 4 ^ k / 4 ^ l) e
    ∙ ap (λ (y : ℕ). y / 4 ^ l)
    (mul_assoc a (4 ^ h) (4 ^ k) ∙ ap (λ (y : ℕ). a * y) (sym (four_add h k) ∙ ap (λ (y : ℕ). 4 ^ y) (both h) ∙ four_add 26 l) ∙ sym (mul_assoc a (4 ^ 26) (4 ^ l)))
    ∙ mul-div_cancel (a * 4 ^ 26) (four_pos l))
    (f_normal h)

k_sub : (z s n : ℕ) → s ≡ z + 2 * n → 53 ≤ s → s ≤ 54 → (106 - z) / 2 ≡ n + 26
k_sub z s n e lo hi = omega arith

l_sub : (z s n : ℕ) → s ≡ z + 2 * n → s ≤ 54 → (z - 105) / 2 ≡ 0
l_sub z s n e hi = omega arith

f_sub : (n : ℕ) → n ≤ 26 → 460 - n + (n + 26 + 537) ≡ 0 + 1023
f_sub n h = omega arith

pub root_subnormal : (X a n q : ℕ) → 0 < X → a ≡ X * 4 ^ n → n ≤ 26 → 2 ^ 52 ≤ a → a < 2 ^ 54 → Near (a * 2 ^ 52) q → round binary64 false (q * 2 ^ (460 - n)) (2 ^ 1023) ≡ root_units X
root_subnormal X a n q p e nl lo hi near =
    let z : size a ≡ size X + 2 * n = ap size e ∙ size_four X n p in
    let s53 = size_gt a 52 lo in
    let s54 = size-le a 54 hi in
    root_at X a q (460 - n) (n + 26) 0 (k_sub (size X) (size a) n z s53 s54) (l_sub (size X) (size a) n z s54) lo hi near
    (div-one (X * 4 ^ (n + 26)) ∙ ap (λ (y : ℕ). X * y) (four_add n 26) ∙ sym (mul_assoc X (4 ^ n) (4 ^ 26)) ∙ ap (λ (y : ℕ). y * 4 ^ 26) (sym e))
    (f_sub n nl)

-- ---- an even and an odd exponent
pub even_power : (d g : ℕ) → g % 2 ≡ 0 → d * 2 ^ g ≡ d * 4 ^ (g / 2)
even_power d g h = ap (λ (z : ℕ). d * z) (ap (λ (z : ℕ). 2 ^ z) (halves g h) ∙ sym (four_two (g / 2)))
  where
    halves : (g : ℕ) → g % 2 ≡ 0 → g ≡ 2 * (g / 2)
    halves g h = omega arith

pub odd_power : (d g : ℕ) → (g % 2 ≡ 0 → ⊥) → d * 2 ^ g ≡ 2 * d * 4 ^ (g / 2)
odd_power d g h =
    ap (λ (z : ℕ). d * z) (ap (λ (z : ℕ). 2 ^ z) (halves g (odd_mod g h)) ∙ pow-suc 2 (2 * (g / 2)) ∙ ap (λ (z : ℕ). z * 2) (sym (four_two (g / 2))))
    ∙ shuffle d (4 ^ (g / 2))
  where
    odd_mod : (g : ℕ) → (g % 2 ≡ 0 → ⊥) → g % 2 ≡ 1
    odd_mod g h = ⊎_elim (λ e. absurd (h e)) (λ e. e) (zero_or_one g)
      where
        zero_or_one : (g : ℕ) → (g % 2 ≡ 0) ⊎ (g % 2 ≡ 1)
        zero_or_one g = go (eqb (g % 2) 0) (eqb→eq (g % 2) 0) (λ t n. T_not (eqb (g % 2) 0) t (eq→eqb n))
          where
            go : (b : Bool) → (T b → g % 2 ≡ 0) → (T (not b) → g % 2 ≡ 0 → ⊥) → (g % 2 ≡ 0) ⊎ (g % 2 ≡ 1)
            go true p q = inl (p tt)
            go false p q = inr (let n = q tt in omega arith)

    halves : (g : ℕ) → g % 2 ≡ 1 → g ≡ suc (2 * (g / 2))
    halves g h = omega arith

    shuffle : (d p : ℕ) → d * (p * 2) ≡ 2 * d * p
    shuffle d p = simp (mul_assoc, mul_comm, mul_left_comm)
