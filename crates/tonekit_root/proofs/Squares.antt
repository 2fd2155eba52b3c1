-- Squares, and the state of the loop that takes the digits of a root one by one. Assumes nothing.
use Rattle.std.proofs.Common.{ℕ, suc, zero, ◌+◌, ◌-◌, ◌*◌, ◌^◌, ◌≤◌, ◌<◌, ◌≡◌, sym, ◌∙◌, ap, subst, le_trans, mul-le-mul, mul-le-mul_left, lt_irrefl, add-mul, mul-add, mul_assoc, pow-suc, add-one, arith, pow_mono}
use native.Mathlib.Nat.{mul-mul-mul_comm}
use Rattle.tonekit_root.specs.Nearest.{Near}

pub square_fits : (m : ℕ) → m ≤ 134217728 → m * m < 2 ^ 64
square_fits m h = let k : m * m ≤ 134217728 * 134217728 = mul-le-mul h h in omega arith

-- ---- squares
pub twice_square : (r : ℕ) → 2 * r * (2 * r) ≡ 4 * (r * r)
twice_square r = mul-mul-mul_comm 2 r 2 r

pub next_square : (x : ℕ) → (x + 1) * (x + 1) ≡ x * x + 2 * x + 1
next_square x =
    let a : (x + 1) * (x + 1) ≡ x * (x + 1) + 1 * (x + 1) = add-mul x 1 (x + 1) in
    let b : x * (x + 1) ≡ x * x + x * 1 = mul-add x x 1 in
    omega arith

pub odd_square : (r : ℕ) → (2 * r + 1) * (2 * r + 1) ≡ 4 * (r * r) + 4 * r + 1
odd_square r = let a = next_square (2 * r) in let b = twice_square r in omega arith

-- ---- a state of the loop
pub record Left (a r l i : ℕ) : Type 0 where
  pub whole : r * r + l ≡ a * 4 ^ i
  pub little : l ≤ 2 * r
  pub short : r + 1 ≤ 134217728 * 2 ^ i

pub in_bounds : (a r l i j : ℕ) → Left a r l i → i ≤ j → r + 1 ≤ 134217728 * 2 ^ j
in_bounds a r l i j s h = le_trans s.short (mul-le-mul_left 134217728 (pow_mono h))

four : (a i : ℕ) → a * 4 ^ (i + 1) ≡ 4 * (a * 4 ^ i)
four a i =
    let p : a * 4 ^ suc i ≡ a * (4 ^ i * 4) = ap (λ (z : ℕ). a * z) (pow-suc 4 i) in
    let q : a * (4 ^ i * 4) ≡ a * 4 ^ i * 4 = sym (mul_assoc a (4 ^ i) 4) in
    let e : a * 4 ^ (i + 1) ≡ a * 4 ^ suc i = ap (λ (z : ℕ). a * 4 ^ z) (add-one i) in
    omega arith

two : (i : ℕ) → 134217728 * 2 ^ (i + 1) ≡ 2 * (134217728 * 2 ^ i)
two i =
    let e : 2 ^ (i + 1) ≡ 2 ^ i * 2 = ap (λ (z : ℕ). 2 ^ z) (add-one i) ∙ pow-suc 2 i in
    omega arith

pub same_digit : (a r l i : ℕ) → Left a r l i → 4 * l ≤ 2 * (2 * r) → Left a (2 * r) (4 * l) (i + 1)
same_digit a r l i s h = record {
  whole = let x = s.whole in let y = twice_square r in let z = four a i in omega arith;
  little = h;
  short = let x = s.short in let y = two i in omega arith;
}

pub one_more : (a r l i : ℕ) → Left a r l i → 2 * (2 * r) < 4 * l → Left a (2 * r + 1) (4 * l - (2 * (2 * r) + 1)) (i + 1)
one_more a r l i s h = record {
  whole = let x = s.whole in let y = odd_square r in let z = four a i in omega arith;
  little = let x = s.little in omega arith;
  short = let x = s.short in let y = two i in omega arith;
}

-- ---- at the end
abbrev E : ℕ
E = 4 ^ 26

pub rounds_up : (a r l : ℕ) → Left a r l 26 → r < l → Near (a * 2 ^ 52) (r + 1)
rounds_up a r l s h = record {
  lower =
      let e : 2 * (r + 1) - 1 ≡ 2 * r + 1 = omega arith in
      subst (λ (z : ℕ). z * z < 4 * (a * 2 ^ 52)) (sym e) (let x = s.whole in let y = odd_square r in omega arith);
  upper = let x = s.whole in let y = odd_square (r + 1) in let z = next_square r in let w = s.little in omega arith;
}

pub stays : (a r l : ℕ) → 2 ^ 52 ≤ a → Left a r l 26 → l ≤ r → Near (a * 2 ^ 52) r
stays a zero l p s h = let x = s.whole in absurd (lt_irrefl 0 (omega arith))
stays a (suc r) l p s h = record {
  lower =
      let e : 2 * suc r - 1 ≡ 2 * r + 1 = omega arith in
      let n : suc r * suc r ≡ (r + 1) * (r + 1) = ap (λ (z : ℕ). z * z) (sym (add-one r)) in
      subst (λ (z : ℕ). z * z < 4 * (a * 2 ^ 52)) (sym e) (let x = s.whole in let y = odd_square r in let z = next_square r in omega arith);
  upper = let x = s.whole in let y = odd_square (suc r) in omega arith;
}

pub moved : (a r l i r' l' : ℕ) → Left a r l i → r' ≡ r → l' ≡ l → Left a r' l' i
moved a r l i r' l' s p q = subst (λ (z : ℕ). Left a z l' i) (sym p) (subst (λ (z : ℕ). Left a r z i) (sym q) s)

pub ended : (a r l i : ℕ) → Left a r l i → i ≡ 26 → Left a r l 26
ended a r l i s e = subst (λ (z : ℕ). Left a r l z) e s
