-- The search on digits finds the number of specs/Decimal. Assumes nothing.
use Rattle.std.proofs.Common.{◌≡◌, refl, sym, ◌∙◌, ap, Bool, true, false, cond, List, ℕ, zero, suc, ◌+◌, ◌-◌, ◌*◌, ◌/◌, ◌%◌, ◌^◌, ◌≤◌, ◌<◌, add-zero, one-mul, mul-one, mul_comm, add-mul, div-mul-le_self, mul-le-mul, mul-le-mul_right, lt_of_le_of_lt, arith, leb, lit<, set, replicate, nat_eq, option_map, unwrap_or, eqb-true}
use native.Mathlib.Nat.{pow-le-pow_right, pow-succ'}
use Rattle.std.specs.Prelude.{Option, Some, None}
use Rattle.std.specs.Int.{from_bool}
use borrow.Author.Tests.{eqb-false}
use Rattle.tonekit_decimal.specs.Digits.{digits, scaled, times_all, at_most, reads_in, choice_in, search_in}
use Rattle.tonekit_decimal.specs.Decimal.{reads, candidate, choice, shortest, quarter, nearest_of}
use Rattle.tonekit_decimal.proofs.Whole.{scaled_digits, scaled_whole, times_all_digits, at_most_digits}

-- the digits of what is chosen
chosen : (n : ℕ) (o : Option ℕ) (d : ℕ) → unwrap_or (option_map (digits n) o) (digits n d) ≡ digits n (unwrap_or o d)
chosen n None d = refl
chosen n (Some x) d = refl

under : (n : ℕ) (d u near : Bool) (a b : ℕ)
    → cond d (cond u (cond near (Some (digits n a)) (Some (digits n b))) (Some (digits n a))) (cond u (Some (digits n b)) None)
    ≡ option_map (digits n) (cond d (cond u (cond near (Some a) (Some b)) (Some a)) (cond u (Some b) None))
under n true true true a b = refl
under n true true false a b = refl
under n true false near a b = refl
under n false true near a b = refl
under n false false near a b = refl

-- the multiple of 10 ^ p below v, and the one above, stay within 190 digits
lower_most : (v p : ℕ) → candidate v p 0 ≤ v
unfolding candidate
lower_most v p = rw (add-zero (v / 10 ^ p)) (div-mul-le_self v (10 ^ p))

upper_most : (v p n : ℕ) → p ≤ n → candidate v p 1 ≤ v + 10 ^ n
unfolding candidate
upper_most v p n h =
    let q : 10 ^ p ≤ 10 ^ n = pow-le-pow_right {n = 10} (omega arith) h in
    let s : (v / 10 ^ p + 1) * 10 ^ p ≡ v / 10 ^ p * 10 ^ p + 10 ^ p = add-mul (v / 10 ^ p) 1 (10 ^ p) ∙ ap (λ (z : ℕ). v / 10 ^ p * 10 ^ p + z) (one-mul (10 ^ p)) in
    omega (arith, div-mul-le_self v (10 ^ p))

-- numbers of suc n digits, with room for twice v
module _ (n lo v hi : ℕ) (o : Bool) (hlo : lo < 10 ^ suc n) (hv : v < 4 * 10 ^ n) (hhi : hi < 10 ^ suc n) where
  reads_in_lem : (d : ℕ) → d < 10 ^ suc n → reads_in (digits (suc n) lo) (digits (suc n) hi) o (digits (suc n) d) ≡ reads lo hi (from_bool o) d
  unfolding reads_in reads
  reads_in_lem d h = rw (at_most_digits (suc n) o lo d hlo h, at_most_digits (suc n) o d hi h hhi)

  candidate_in : (p c : ℕ) → p ≤ n → scaled 1 p c (digits (suc n) v) ≡ digits (suc n) (candidate v p c)
  unfolding candidate
  candidate_in p c h = scaled_digits 1 p c (suc n) v (omega arith) ∙ ap (λ (q : ℕ). digits (suc n) ((q + c) * 10 ^ p)) (one-mul (v / 10 ^ p))

  both_in : (p : ℕ) → p ≤ n → scaled 2 p 1 (digits (suc n) v) ≡ digits (suc n) (candidate v p 0 + candidate v p 1)
  unfolding candidate
  both_in p h =
      let q : 2 * (v / 10 ^ p) + 1 ≡ (v / 10 ^ p + 0) + (v / 10 ^ p + 1) = omega arith in
      scaled_digits 2 p 1 (suc n) v (omega arith)
      ∙ ap (digits (suc n)) (ap (λ (z : ℕ). z * 10 ^ p) q ∙ add-mul (v / 10 ^ p + 0) (v / 10 ^ p + 1) (10 ^ p))

  nearer_in : (p : ℕ) → p ≤ n
      → at_most false (scaled 2 0 0 (digits (suc n) v)) (scaled 2 p 1 (digits (suc n) v)) ≡ leb (2 * v) (candidate v p 0 + candidate v p 1)
  nearer_in p h =
      let l = lower_most v p in
      let u = upper_most v p n h in
      let t = pow-succ' 10 n in
      rw (scaled_whole 2 (suc n) v, both_in p h)
      (at_most_digits (suc n) false (2 * v) (candidate v p 0 + candidate v p 1) (omega arith) (omega arith)
      ∙ ap (λ (z : ℕ). leb z (candidate v p 0 + candidate v p 1)) (add-zero (2 * v)))

  choice_in_lem : (p : ℕ) → p ≤ n
      → choice_in (digits (suc n) lo) (digits (suc n) v) (digits (suc n) hi) o p ≡ option_map (digits (suc n)) (choice lo v hi (from_bool o) p)
  unfolding choice_in choice
  choice_in_lem p h =
      let l = lower_most v p in
      let u = upper_most v p n h in
      let t = pow-succ' 10 n in
      rw (nearer_in p h, candidate_in p 0 h, candidate_in p 1 h, reads_in_lem (candidate v p 0) (omega arith), reads_in_lem (candidate v p 1) (omega arith))
      (under (suc n) (reads lo hi (from_bool o) (candidate v p 0)) (reads lo hi (from_bool o) (candidate v p 1))
      (leb (2 * v) (candidate v p 0 + candidate v p 1)) (candidate v p 0) (candidate v p 1))

  pub search_in_lem : (p : ℕ) → p ≤ n → search_in (digits (suc n) lo) (digits (suc n) v) (digits (suc n) hi) o p ≡ digits (suc n) (shortest lo v hi (from_bool o) p)
  unfolding search_in shortest
  search_in_lem zero h = refl
  search_in_lem (suc p) h =
      rw (choice_in_lem (suc p) h, search_in_lem p (omega arith)) (chosen (suc n) (choice lo v hi (from_bool o) (suc p)) (shortest lo v hi (from_bool o) p))

-- the quarter of a step, as `shortest` makes it
pub quarter_in : (e : ℕ) → times_all 5 151 (times_all 2 (e - 1) (digits 190 1)) ≡ digits 190 (quarter e)
unfolding quarter
quarter_in e =
    rw (times_all_digits 2 (e - 1) 190 1, times_all_digits 5 151 190 (2 ^ (e - 1) * 1), mul-one (2 ^ (e - 1)), mul_comm (5 ^ 151) (2 ^ (e - 1)))

-- at most n quarters are at most n of the greatest
pub within : (n k e : ℕ) → n ≤ k → e ≤ 254 → n * quarter e ≤ k * (2 ^ 253 * 5 ^ 151)
unfolding quarter
within n k e h l =
    mul-le-mul {n₁ = n} {m₁ = 2 ^ (e - 1) * 5 ^ 151} {n₂ = k} {m₂ = 2 ^ 253 * 5 ^ 151} h
    (mul-le-mul_right (5 ^ 151) (pow-le-pow_right {n = 2} (omega arith) {i = e - 1} {j = 253} (omega arith)))

odd_is : (m : ℕ) → from_bool (nat_eq (m % 2) 1) ≡ m % 2
odd_is m = by (nat_eq (m % 2) 1) refl
  where
    by : (t : Bool) → nat_eq (m % 2) 1 ≡ t → from_bool t ≡ m % 2
    by true e = sym (eqb-true (m % 2) 1 e)
    by false e = let n = eqb-false (m % 2) 1 e in omega arith

pub nearest_in : (m e below : ℕ) (u : List ℕ) → m < 16777216 → e ≤ 254 → u ≡ digits 190 (quarter e)
    → search_in (scaled (4 * m - below) 0 0 u) (scaled (4 * m) 0 0 u) (scaled (4 * m + 2) 0 0 u) (nat_eq (m % 2) 1) 189 ≡ digits 190 (nearest_of m e below)
unfolding nearest_of
nearest_in m e below u h l q =
    rw (q, scaled_whole (4 * m - below) 190 (quarter e), scaled_whole (4 * m) 190 (quarter e), scaled_whole (4 * m + 2) 190 (quarter e))
    (search_in_lem 189 ((4 * m - below) * quarter e) (4 * m * quarter e) ((4 * m + 2) * quarter e) (nat_eq (m % 2) 1)
    (lt_of_le_of_lt (within (4 * m - below) 67108860 e (omega arith) l) (lit< tt))
    (lt_of_le_of_lt (within (4 * m) 67108860 e (omega arith) l) (lit< tt))
    (lt_of_le_of_lt (within (4 * m + 2) 67108862 e (omega arith) l) (lit< tt))
    189 (omega arith)
    ∙ ap (λ (odd : ℕ). digits 190 (shortest ((4 * m - below) * quarter e) (4 * m * quarter e) ((4 * m + 2) * quarter e) odd 189)) (odd_is m))

-- the number 1, as the code stores it
pub one_in : set (replicate 190 0) 0 1 ≡ digits 190 1
unfolding digits
one_in = refl
