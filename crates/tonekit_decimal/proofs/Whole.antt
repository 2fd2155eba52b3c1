-- Digits as whole numbers. Assumes nothing.
use Rattle.std.proofs.Common.{◌≡◌, refl, sym, ◌∙◌, ap, Bool, true, false, List, ◌∷◌, ◌++◌, ℕ, zero, suc, ◌+◌, ◌-◌, ◌*◌, ◌/◌, ◌%◌, ◌^◌, ◌≤◌, ◌<◌, mul-add, mul_left_comm, mul_assoc, pow-suc, div-one, suc-add, zero-add, add-zero, mul-one, one-mul, le_of_suc-le-suc, arith, ltb-true, ltb-false, le-leb, leb-true, leb-false, ltb, leb, drop, replicate}
use native.Mathlib.Nat.{mod-add-div, pow-zero, pow-succ', div-div-eq-div-mul}
use borrow.Author.Tests.{lt-leb}
use Rattle.std.specs.Int.{from_bool}
use Rattle.tonekit_decimal.specs.Digits.{digits, mul_add, scaled, times_all, at_most}

-- a number times k, by its ones and the rest
split : (k x : ℕ) → k * x ≡ k * (x % 10) + 10 * (k * (x / 10))
split k x = ap (λ (y : ℕ). k * y) (sym (mod-add-div x 10)) ∙ mul-add k (x % 10) (10 * (x / 10)) ∙ ap (λ (y : ℕ). k * (x % 10) + y) (mul_left_comm k 10 (x / 10))

pub mul_add_digits : (k c n x : ℕ) → mul_add k c (digits n x) ≡ digits n (k * x + c)
unfolding digits mul_add
mul_add_digits k c zero x = refl
mul_add_digits k c (suc n) x =
    let s = split k x in
    let h : (k * (x % 10) + c) % 10 ≡ (k * x + c) % 10 = omega arith in
    let t : k * (x / 10) + (k * (x % 10) + c) / 10 ≡ (k * x + c) / 10 = omega arith in
    rw (mul_add_digits k ((k * (x % 10) + c) / 10) n (x / 10), h, t)

pub drop_digits : (p n x : ℕ) → p ≤ n → drop p (digits n x) ≡ digits (n - p) (x / 10 ^ p)
unfolding digits
drop_digits zero n x h = let e : n - 0 ≡ n = omega arith in rw (e, div-one x)
drop_digits (suc p) zero x h = absurd (omega arith)
drop_digits (suc p) (suc n) x h =
    let e : suc n - suc p ≡ n - p = omega arith in
    rw (e, pow-succ' 10 p, ← div-div-eq-div-mul x 10 (10 ^ p)) (drop_digits p n (x / 10) (le_of_suc-le-suc h))

pub zeros_digits : (p n x : ℕ) → replicate p 0 ++ digits n x ≡ digits (p + n) (x * 10 ^ p)
unfolding digits
zeros_digits zero n x = rw (zero-add n, mul-one x)
zeros_digits (suc p) n x =
    let y : x * 10 ^ suc p ≡ 10 * (x * 10 ^ p) = ap (λ (z : ℕ). x * z) (pow-succ' 10 p) ∙ mul_left_comm x 10 (10 ^ p) in
    let h : (10 * (x * 10 ^ p)) % 10 ≡ 0 = omega arith in
    let t : (10 * (x * 10 ^ p)) / 10 ≡ x * 10 ^ p = omega arith in
    rw (suc-add p n, y, h, t) (ap (λ (l : List ℕ). 0 ∷ l) (zeros_digits p n x))

pub scaled_digits : (k p c n x : ℕ) → p ≤ n → scaled k p c (digits n x) ≡ digits n ((k * (x / 10 ^ p) + c) * 10 ^ p)
unfolding scaled
scaled_digits k p c n x h =
    let e : p + (n - p) ≡ n = omega arith in
    rw (drop_digits p n x h, mul_add_digits k c (n - p) (x / 10 ^ p), zeros_digits p (n - p) (k * (x / 10 ^ p) + c), e)

pub scaled_whole : (k n x : ℕ) → scaled k 0 0 (digits n x) ≡ digits n (k * x)
unfolding scaled
scaled_whole k n x = mul_add_digits k 0 n x ∙ ap (digits n) (add-zero (k * x))

pub times_all_digits : (k j n x : ℕ) → times_all k j (digits n x) ≡ digits n (k ^ j * x)
unfolding times_all
times_all_digits k zero n x = rw (pow-zero k, one-mul x)
times_all_digits k (suc j) n x =
    rw (scaled_whole k n x, times_all_digits k j n (k * x), pow-suc k j, mul_assoc (k ^ j) k x)

-- two comparisons with one answer
pub same_leb : (a b c d : ℕ) → ((a ≤ b) → c ≤ d) → (b < a → d < c) → leb a b ≡ leb c d
same_leb a b c d f g = by (leb a b) refl
  where
    by : (t : Bool) → leb a b ≡ t → leb a b ≡ leb c d
    by true e = e ∙ sym (le-leb c d (f (leb-true a b e)))
    by false e = e ∙ sym (lt-leb c d (g (leb-false a b e)))

-- one digit: a borrow goes up exactly where the ones' difference needs it
ones : (t : Bool) (c x y : ℕ) → ltb (y % 10) (x % 10 + c) ≡ t → c ≤ 1 → leb (x / 10 + from_bool t) (y / 10) ≡ leb (x + c) y
ones true c x y e h =
    let l : y % 10 < x % 10 + c = ltb-true (y % 10) (x % 10 + c) e in
    same_leb (x / 10 + 1) (y / 10) (x + c) y (λ i. omega arith) (λ i. omega arith)
ones false c x y e h =
    let l : x % 10 + c ≤ y % 10 = ltb-false (y % 10) (x % 10 + c) e in
    same_leb (x / 10 + 0) (y / 10) (x + c) y (λ i. omega arith) (λ i. omega arith)

at_most_one : (t : Bool) → from_bool t ≤ 1
at_most_one true = omega arith
at_most_one false = omega arith

pub at_most_digits : (n : ℕ) (less : Bool) (x y : ℕ) → x < 10 ^ n → y < 10 ^ n → at_most less (digits n x) (digits n y) ≡ leb (x + from_bool less) y
unfolding digits at_most
at_most_digits zero true x y hx hy = sym (lt-leb (x + 1) y (omega arith))
at_most_digits zero false x y hx hy = sym (le-leb (x + 0) y (omega arith))
at_most_digits (suc n) less x y hx hy =
    let t = ltb (y % 10) (x % 10 + from_bool less) in
    let p = pow-suc 10 n in
    at_most_digits n t (x / 10) (y / 10) (omega arith) (omega arith) ∙ ones t (from_bool less) x y refl (at_most_one less)
