-- The root by whole-number squares: among all f64s none is nearer to it. Assumes nothing.
use Rattle.std.proofs.Common.{ℕ, suc, ◌+◌, ◌-◌, ◌*◌, ◌/◌, ◌^◌, ◌≤◌, ◌<◌, zero-le, ◌≡◌, refl, sym, ◌∙◌, ap, subst, ◌⊎◌, inl, inr, ⊎_elim, Bool, true, false, not, le_trans, le_of_eq, le_of_lt, lt_irrefl, lt_of_lt_of_le, lt_of_le_of_lt, lt_of_not-le, le_of_suc-le-suc, mul-one, one-mul, mul_assoc, mul-le-mul, mul-le-mul_left, mul-le-mul_right, mul-lt-mul_of_pos_right, lt_of_mul-lt-mul_right, add-mul, mul-div_cancel, div-one, arith, T, ltb, ltb→lt, nltb→le, lit<, pow-add, pow_pos, pow_mono, Float}
use native.Mathlib.Nat.{mul-mul-mul_comm}
use lib.Pow.{pow-lt}
use lib.Ieee.{binary64, size, round}
use lib.Ieee.Digits.{size-lt, size-le, size_reaches}
use lib.Ieee.Exact.{HasValue, round_exact}
use lib.Ieee.Positive.{first_pos}
use Rattle.tonekit_float.proofs.NarrowRound.{L}
use Rattle.tonekit_float.proofs.Patterns.{rescale}
use Rattle.spec_arithmetic.specs.Root.{nearest_root, root_units}
use Rattle.tonekit_root.specs.Nearest.{Near, Nearest}
use Rattle.tonekit_root.proofs.Nearest.{nearest_near}
use Rattle.tonekit_root.proofs.Exact.{four_add, four_pos, four_two, size_four}
use Rattle.tonekit_root.proofs.Spacing.{Scaled, multiple}

-- ---- q of a Near n q with 105 or 106 digits in n
few : (n q : ℕ) → n < 2 ^ 106 → Near n q → q ≤ 2 ^ 53
few n q h a = le_of_suc-le-suc (lt_of_not-le (λ (g : suc (2 ^ 53) ≤ q). contrary g))
  where
    contrary : suc (2 ^ 53) ≤ q → ⊥
    contrary g =
        let s : 2 ^ 54 * 2 ^ 54 ≤ (2 * q - 1) * (2 * q - 1) = mul-le-mul (side q g) (side q g) in
        let x = a.lower in
        lt_irrefl 0 (omega arith)
      where
        side : (q : ℕ) → suc (2 ^ 53) ≤ q → 2 ^ 54 ≤ 2 * q - 1
        side q g = omega arith

many : (n q : ℕ) → 2 ^ 104 ≤ n → Near n q → 2 ^ 52 ≤ q
many n q h a = le_of_suc-le-suc (lt_of_not-le (λ (g : suc q ≤ 2 ^ 52). contrary g))
  where
    contrary : suc q ≤ 2 ^ 52 → ⊥
    contrary g =
        let s : (2 * q + 1) * (2 * q + 1) ≤ 2 ^ 53 * 2 ^ 53 = mul-le-mul (side q g) (side q g) in
        let x = a.upper in
        lt_irrefl 0 (omega arith)
      where
        side : (q : ℕ) → suc q ≤ 2 ^ 52 → 2 * q + 1 ≤ 2 ^ 53
        side q g = omega arith

-- ---- q 2 ^ l / 2 ^ c is exact, where it is q 2 ^ t units
either : (a b : ℕ) → a ≤ b → (a < b) ⊎ (a ≡ b)
either a b h = go (ltb a b) (ltb→lt a b) (nltb→le a b)
  where
    go : (t : Bool) → (T t → a < b) → (T (not t) → b ≤ a) → (a < b) ⊎ (a ≡ b)
    go true p q = inl (p tt)
    go false p q = inr (let k = q tt in omega arith)

exact_value : (q l c t : ℕ) → q ≤ 2 ^ 53 → t ≤ 2000 → l + 1074 ≡ t + c → HasValue (round binary64 false (q * 2 ^ l) (2 ^ c)) false (q * 2 ^ t) L
exact_value q l c t small room e =
    let r = round binary64 false (q * 2 ^ l) (2 ^ c) in
    let same : q * 2 ^ l * L ≡ q * 2 ^ t * 2 ^ c =
    mul_assoc q (2 ^ l) L ∙ ap (λ (z : ℕ). q * z) (sym (pow-add 2 l 1074) ∙ ap (λ (z : ℕ). 2 ^ z) e ∙ pow-add 2 t c) ∙ sym (mul_assoc q (2 ^ t) (2 ^ c)) in
    rescale r false (q * 2 ^ l) (2 ^ c) (q * 2 ^ t) L (pow_pos c) (sym same)
    (⊎_elim
    (λ h. round_exact binary64 false (q * 2 ^ l) (2 ^ c) q t (pow_pos c) h (top q t h room) same)
    (λ h.
    let half : q * 2 ^ t ≡ 2 ^ 52 * 2 ^ (t + 1) = ap (λ (z : ℕ). z * 2 ^ t) h ∙ sym (pow-add 2 53 t) ∙ ap (λ (z : ℕ). 2 ^ z) (shift t) ∙ pow-add 2 52 (t + 1) in
    round_exact binary64 false (q * 2 ^ l) (2 ^ c) (2 ^ 52) (t + 1) (pow_pos c) (lit< tt) (lt_of_le_of_lt (le_of_eq (sym (pow-add 2 52 (t + 1)))) (pow-lt (fits_in t room)))
    (same ∙ ap (λ (z : ℕ). z * 2 ^ c) half))
    (either q (2 ^ 53) small))
  where
    shift : (t : ℕ) → 53 + t ≡ 52 + (t + 1)
    shift t = omega arith

    fits_in : (t : ℕ) → t ≤ 2000 → 52 + (t + 1) < 2098
    fits_in t h = omega arith

    room53 : (t : ℕ) → t ≤ 2000 → 53 + t ≤ 2098
    room53 t h = omega arith

    top : (q t : ℕ) → q < 2 ^ 53 → t ≤ 2000 → q * 2 ^ t < 2 ^ 2098
    top q t h k = lt_of_lt_of_le (mul-lt-mul_of_pos_right h (pow_pos t)) (le_trans (le_of_eq (sym (pow-add 2 53 t))) (pow_mono (room53 t k)))

-- ---- the root of X units is q 2 ^ t units: X is n 4 ^ t squares of a unit, and q is nearest to the root of n
pub record Rooted (X : ℕ) (r : Float) : Type 0 where
  pub n : ℕ
  pub q : ℕ
  pub t : ℕ
  pub is : X * 2 ^ 1074 ≡ n * 4 ^ t
  pub near : Near n q
  pub large : 2 ^ 104 ≤ n
  pub digits : 2 ^ 52 ≤ q
  pub value : HasValue r false (q * 2 ^ t) L

rooted_at : (X n k l t : ℕ) → (106 - size X) / 2 ≡ k → (size X - 105) / 2 ≡ l → X * 4 ^ k / 4 ^ l ≡ n → X * 2 ^ 1074 ≡ n * 4 ^ t → 2 ^ 104 ≤ n → n < 2 ^ 106 → t + k ≡ l + 537 → t ≤ 2000 → Rooted X (root_units X)
unfolding root_units
rooted_at X n k l t ke le ne is lo hi te room =
    let a = nearest_near n (lt_of_lt_of_le (lit< tt) lo) hi in
    let q = nearest_root n in
    let same : round binary64 false (q * 2 ^ l) (2 ^ (k + 537)) ≡ root_units X =
    ap (λ (z : ℕ). round binary64 false (nearest_root z * 2 ^ l) (2 ^ (k + 537))) (sym ne)
    ∙ ap (λ (z : ℕ). round binary64 false (nearest_root (X * 4 ^ z / 4 ^ l) * 2 ^ l) (2 ^ (z + 537))) (sym ke)
    ∙ ap (λ (z : ℕ). round binary64 false (nearest_root (X * 4 ^ ((106 - size X) / 2) / 4 ^ z) * 2 ^ z) (2 ^ ((106 - size X) / 2 + 537))) (sym le) in
    record {
      n = n;
      q = q;
      t = t;
      is = is;
      near = a;
      large = lo;
      digits = many n q lo a;
      value = subst (λ (y : Float). HasValue y false (q * 2 ^ t) L) same (exact_value q l (k + 537) t (few n q hi a) room (omega arith));
    }

digits_of : (n : ℕ) → 105 ≤ size n → size n ≤ 106 → (2 ^ 104 ≤ n) × (n < 2 ^ 106)
digits_of n lo hi = (size_reaches n 104 lo, lt_of_lt_of_le (size-lt n) (pow_mono hi))

from_small : (X : ℕ) → 0 < X → size X ≤ 106 → Rooted X (root_units X)
from_small X p h =
    let k = (106 - size X) / 2 in
    let n = X * 4 ^ k in
    let z : size n ≡ size X + 2 * k = size_four X k p in
    let d = digits_of n (le_trans (low (size X) h) (le_of_eq (sym z))) (le_trans (le_of_eq z) (high (size X) h)) in
    rooted_at X n k 0 (537 - k) refl (none (size X) h) (div-one (X * 4 ^ k))
    (ap (λ (y : ℕ). X * 4 ^ y) (sym (meet k (most (size X)))) ∙ ap (λ (y : ℕ). X * y) (four_add k (537 - k)) ∙ sym (mul_assoc X (4 ^ k) (4 ^ (537 - k))))
    d.0 d.1 (back k (most (size X))) (less k)
  where
    low : (z : ℕ) → z ≤ 106 → 105 ≤ z + 2 * ((106 - z) / 2)
    low z h = omega arith

    high : (z : ℕ) → z ≤ 106 → z + 2 * ((106 - z) / 2) ≤ 106
    high z h = omega arith

    none : (z : ℕ) → z ≤ 106 → (z - 105) / 2 ≡ 0
    none z h = omega arith

    most : (z : ℕ) → (106 - z) / 2 ≤ 53
    most z = omega arith

    meet : (k : ℕ) → k ≤ 53 → k + (537 - k) ≡ 537
    meet k h = omega arith

    back : (k : ℕ) → k ≤ 53 → 537 - k + k ≡ 0 + 537
    back k h = omega arith

    less : (k : ℕ) → 537 - k ≤ 2000
    less k = omega arith

from_large : (X : ℕ) → Scaled X → 106 < size X → size X ≤ 2098 → Rooted X (root_units X)
from_large X s h top =
    let l = (size X - 105) / 2 in
    let a = multiple X (2 * l) s (size_reaches X (52 + 2 * l) (over (size X) h)) in
    let n = a.h in
    let is : X ≡ n * 4 ^ l = a.is ∙ ap (λ (y : ℕ). n * y) (sym (four_two l)) in
    let X-pos : 0 < n * 4 ^ l = lt_of_lt_of_le (lt_of_lt_of_le (pow_pos 106) (size_reaches X 106 h)) (le_of_eq is) in
    let z : size X ≡ size n + 2 * l = ap size is ∙ size_four n l (first_pos n (4 ^ l) X-pos) in
    let d = digits_of n (low (size X) (size n) h z) (high (size X) (size n) h z) in
    rooted_at X n 0 l (l + 537) (none (size X) h) refl
    (ap (λ (y : ℕ). y / 4 ^ l) (mul-one X ∙ is) ∙ mul-div_cancel n (four_pos l))
    (ap (λ (y : ℕ). y * 2 ^ 1074) is ∙ mul_assoc n (4 ^ l) (4 ^ 537) ∙ ap (λ (y : ℕ). n * y) (sym (four_add l 537)))
    d.0 d.1 (same l) (most (size X) top)
  where
    over : (z : ℕ) → 106 < z → 52 + 2 * ((z - 105) / 2) < z
    over z h = omega arith

    low : (z n : ℕ) → 106 < z → z ≡ n + 2 * ((z - 105) / 2) → 105 ≤ n
    low z n h e = omega arith

    high : (z n : ℕ) → 106 < z → z ≡ n + 2 * ((z - 105) / 2) → n ≤ 106
    high z n h e = omega arith

    none : (z : ℕ) → 106 < z → (106 - z) / 2 ≡ 0
    none z h = omega arith

    same : (l : ℕ) → l + 537 + 0 ≡ l + 537
    same l = omega arith

    most : (z : ℕ) → z ≤ 2098 → (z - 105) / 2 + 537 ≤ 2000
    most z h = omega arith

pub rooted : (X : ℕ) → Scaled X → 0 < X → X < 2 ^ 2098 → Rooted X (root_units X)
rooted X s p h = go (ltb 106 (size X)) (ltb→lt 106 (size X)) (nltb→le 106 (size X))
  where
    go : (b : Bool) → (T b → 106 < size X) → (T (not b) → size X ≤ 106) → Rooted X (root_units X)
    go true f g = from_large X s (f tt) (size-le X 2098 h)
    go false f g = from_small X p (g tt)

-- ---- no f64 is nearer
square : (a t : ℕ) → a * 2 ^ t * (a * 2 ^ t) ≡ a * a * 4 ^ t
square a t = mul-mul-mul_comm a (2 ^ t) a (2 ^ t) ∙ ap (λ (z : ℕ). a * a * z) (sym (pow-add 2 t t) ∙ ap (λ (z : ℕ). 2 ^ z) (twice t) ∙ sym (four_two t))
  where
    twice : (t : ℕ) → t + t ≡ 2 * t
    twice t = omega arith

module _ (X Y : ℕ) (r : Float) (a : Rooted X r) (y : Scaled Y) where
  abbrev q : ℕ
  q = a.q

  abbrev t : ℕ
  t = a.t

  abbrev u : ℕ
  u = 2 ^ a.t

  abbrev R : ℕ
  R = a.q * 2 ^ a.t

  four_X : 4 * (X * 2 ^ 1074) ≡ 4 * a.n * 4 ^ t
  four_X = ap (λ (z : ℕ). 4 * z) a.is ∙ sym (mul_assoc 4 a.n (4 ^ t))

  base : 2 ^ (52 + t) ≡ 2 ^ 52 * u
  base = pow-add 2 52 t

  past : R < Y → (q + 1) * u ≤ Y
  past h =
      let b = multiple Y t y (le_trans (le_of_eq base) (le_trans (mul-le-mul_right u a.digits) (below R Y h))) in
      let g : q < b.h = lt_of_mul-lt-mul_right u (lt_of_lt_of_le h (le_of_eq b.is)) in
      le_trans (mul-le-mul_right u (up q b.h g)) (le_of_eq (sym b.is))
    where
      below : (m n : ℕ) → m < n → m ≤ n
      below m n h = omega arith

      up : (m n : ℕ) → m < n → m + 1 ≤ n
      up m n h = omega arith

  nearest_upper : R < Y → 4 * (X * 2 ^ 1074) < (Y + R) * (Y + R)
  nearest_upper h =
      let s : (2 * q + 1) * u ≤ Y + R = sum_up (past h) in
      lt_of_le_of_lt (le_of_eq four_X)
      (lt_of_lt_of_le (mul-lt-mul_of_pos_right a.near.upper (four_pos t)) (le_trans (le_of_eq (sym (square (2 * q + 1) t))) (mul-le-mul s s)))
    where
      sum_up : (q + 1) * u ≤ Y → (2 * q + 1) * u ≤ Y + R
      sum_up h =
          let e : (2 * q + 1) * u ≡ 2 * (q * u) + u = add-mul (2 * q) 1 u ∙ ap (λ (z : ℕ). z + 1 * u) (mul_assoc 2 q u) ∙ ap (λ (z : ℕ). 2 * (q * u) + z) (one-mul u) in
          let f : (q + 1) * u ≡ q * u + u = add-mul q 1 u ∙ ap (λ (z : ℕ). q * u + z) (one-mul u) in
          omega arith

  before : 2 ^ 52 < q → Y < R → Y ≤ (q - 1) * u
  before g h = go (ltb Y (2 ^ 52 * u)) (ltb→lt Y (2 ^ 52 * u)) (nltb→le Y (2 ^ 52 * u))
    where
      down : (m n : ℕ) → m < n → m ≤ n - 1
      down m n h = omega arith

      go : (b : Bool) → (T b → Y < 2 ^ 52 * u) → (T (not b) → 2 ^ 52 * u ≤ Y) → Y ≤ (q - 1) * u
      go true f k = let l = f tt in le_trans (less Y (2 ^ 52 * u) l) (mul-le-mul_right u (down (2 ^ 52) q g))
        where
          less : (m n : ℕ) → m < n → m ≤ n
          less m n h = omega arith
      go false f k =
          let b = multiple Y t y (le_trans (le_of_eq base) (k tt)) in
          let l : b.h < q = lt_of_mul-lt-mul_right u (lt_of_le_of_lt (le_of_eq (sym b.is)) h) in
          le_trans (le_of_eq b.is) (mul-le-mul_right u (down b.h q l))

  -- the least q is at or below the root of n: 2 ^ 104 is its square
  at_power : q ≡ 2 ^ 52 → Y < R → (Y + R) * (Y + R) < 4 * (X * 2 ^ 1074)
  at_power e h =
      let two : 2 * q * u ≡ R + R = mul_assoc 2 q u ∙ double (q * u) in
      let s : Y + R < 2 * q * u = lt_of_lt_of_le (less Y R h) (le_of_eq (sym two)) in
      let root : 2 * q * (2 * q) ≤ 4 * a.n = le_trans (le_of_eq (ap (λ (z : ℕ). 2 * z * (2 * z)) e)) (let k = a.large in omega arith) in
      lt_of_lt_of_le (squares (Y + R) (2 * q * u) s) (le_trans (le_of_eq (square (2 * q) t)) (le_trans (mul-le-mul_right (4 ^ t) root) (le_of_eq (sym four_X))))
    where
      double : (m : ℕ) → 2 * m ≡ m + m
      double m = omega arith

      less : (m n : ℕ) → m < n → m + n < n + n
      less m n h = omega arith

      squares : (m n : ℕ) → m < n → m * m < n * n
      squares m n h = lt_of_le_of_lt (mul-le-mul_left m (le_of_lt h)) (mul-lt-mul_of_pos_right h (lt_of_le_of_lt zero-le h))

  above_power : 2 ^ 52 < q → Y < R → (Y + R) * (Y + R) < 4 * (X * 2 ^ 1074)
  above_power g h =
      let s : Y + R ≤ (2 * q - 1) * u = sum_down (before g h) in
      lt_of_le_of_lt (le_trans (mul-le-mul s s) (le_of_eq (square (2 * q - 1) t)))
      (lt_of_lt_of_le (mul-lt-mul_of_pos_right a.near.lower (four_pos t)) (le_of_eq (sym four_X)))
    where
      split : (q : ℕ) → 2 ^ 52 < q → 2 * q - 1 ≡ q - 1 + q
      split q h = omega arith

      sum_down : Y ≤ (q - 1) * u → Y + R ≤ (2 * q - 1) * u
      sum_down h = let e : (2 * q - 1) * u ≡ (q - 1) * u + q * u = ap (λ (z : ℕ). z * u) (split q g) ∙ add-mul (q - 1) q u in omega arith

  nearest_lower : Y < R → (Y + R) * (Y + R) < 4 * (X * 2 ^ 1074)
  nearest_lower h = ⊎_elim (λ g. above_power g h) (λ e. at_power (sym e) h) (either (2 ^ 52) q a.digits)

  pub nearest : Nearest X R Y
  nearest = record { lower = nearest_lower; upper = nearest_upper }
