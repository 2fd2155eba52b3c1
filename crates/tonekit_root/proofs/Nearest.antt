-- The definition's whole root, and that it is the one number nearest to the root.
use Rattle.std.proofs.Common.{ℕ, suc, zero, ◌+◌, ◌-◌, ◌*◌, ◌/◌, ◌^◌, ◌≤◌, ◌<◌, ◌≡◌, sym, ap, subst, Bool, true, false, not, cond, le_of_eq, lt_of_lt_of_le, mul-le-mul, lt_irrefl, le_antisymm, div-lt_iff_lt-mul, pow-suc, le_of_suc-le-suc, lt_of_not-le, arith, T, leb, ltb, leb→le, ltb→lt, nltb→le}
use lib.Dec.{nleb→lt}
use Rattle.spec_arithmetic.specs.Root.{isqrt, nearest_root}
use Rattle.tonekit_root.specs.Nearest.{Near}
use Rattle.tonekit_root.proofs.Squares.{twice_square, next_square, odd_square}

abbrev Root : ℕ → ℕ → Type 0
Root n s = (s * s ≤ n) × (n < (s + 1) * (s + 1))

next : (n s : ℕ) → Root (n / 4) s → Root n (cond (leb ((2 * s + 1) * (2 * s + 1)) n) (2 * s + 1) (2 * s))
next n s h = go (leb ((2 * s + 1) * (2 * s + 1)) n) (leb→le ((2 * s + 1) * (2 * s + 1)) n) (nleb→lt ((2 * s + 1) * (2 * s + 1)) n)
  where
    go : (b : Bool) → (T b → (2 * s + 1) * (2 * s + 1) ≤ n) → (T (not b) → n < (2 * s + 1) * (2 * s + 1)) → Root n (cond b (2 * s + 1) (2 * s))
    go true p q =
        let e : 2 * s + 1 + 1 ≡ 2 * (s + 1) = omega arith in
        (p tt, subst (λ (z : ℕ). n < z * z) (sym e) (let x = twice_square (s + 1) in let y = h.1 in omega arith))
    go false p q = ((let x = twice_square s in let y = h.0 in omega arith), q tt)

pub isqrt_root : (k n : ℕ) → n < 4 ^ k → Root n (isqrt k n)
unfolding isqrt
isqrt_root zero n h = (omega arith, omega arith)
isqrt_root (suc k) n h = next n (isqrt k (n / 4)) (isqrt_root k (n / 4) ((div-lt_iff_lt-mul {k = 4} (lit tt)).1 (lt_of_lt_of_le h (le_of_eq (pow-suc 4 k)))))
  where
    lit : T (ltb 0 4) → 0 < 4
    lit t = ltb→lt 0 4 t

near : (n s : ℕ) → 0 < n → Root n s → Near n (cond (ltb (s * s + s) n) (s + 1) s)
near n s pos h = go (ltb (s * s + s) n) (ltb→lt (s * s + s) n) (nltb→le (s * s + s) n)
  where
    low : (r : ℕ) → r * r ≤ n → n ≤ r * r + r → (2 * r - 1) * (2 * r - 1) < 4 * n
    low zero a b = omega arith
    low (suc r) a b =
        let e : 2 * suc r - 1 ≡ 2 * r + 1 = omega arith in
        let f : suc r * suc r ≡ (r + 1) * (r + 1) = ap (λ (z : ℕ). z * z) (omega arith) in
        subst (λ (z : ℕ). z * z < 4 * n) (sym e) (let x = odd_square r in let y = next_square r in omega arith)

    go : (b : Bool) → (T b → s * s + s < n) → (T (not b) → n ≤ s * s + s) → Near n (cond b (s + 1) s)
    go true p q = record {
      lower =
          let e : 2 * (s + 1) - 1 ≡ 2 * s + 1 = omega arith in
          subst (λ (z : ℕ). z * z < 4 * n) (sym e) (let x = odd_square s in let y = p tt in omega arith);
      upper = let x = odd_square (s + 1) in let y = next_square s in let z = h.1 in omega arith;
    }
    go false p q = record {
      lower = low s h.0 (q tt);
      upper = let x = odd_square s in let y = q tt in omega arith;
    }

pub nearest_near : (n : ℕ) → 0 < n → n < 4 ^ 53 → Near n (nearest_root n)
unfolding nearest_root
nearest_near n p h = near n (isqrt 53 n) p (isqrt_root 53 n h)

apart : (n p q : ℕ) → Near n p → Near n q → p < q → ⊥
apart n p q a b h =
    let le : 2 * p + 1 ≤ 2 * q - 1 = omega arith in
    let sq : (2 * p + 1) * (2 * p + 1) ≤ (2 * q - 1) * (2 * q - 1) = mul-le-mul le le in
    let x = a.upper in
    let y = b.lower in
    lt_irrefl 0 (omega arith)

pub unique_near : (n p q : ℕ) → Near n p → Near n q → p ≡ q
unique_near n p q a b = le_antisymm (below p q (apart n q p b a)) (below q p (apart n p q a b))
  where
    below : (p q : ℕ) → (q < p → ⊥) → p ≤ q
    below p q h = le_of_suc-le-suc (lt_of_not-le h)
