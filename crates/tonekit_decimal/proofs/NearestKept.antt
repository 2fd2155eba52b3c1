-- Of the decimals with the fewest digits that read back, the nearest to the value is written. Assumes nothing.
use Rattle.std.proofs.Common.{◌≡◌, refl, sym, ap, subst, Bool, true, false, ℕ, zero, suc, ◌+◌, ◌-◌, ◌*◌, ◌/◌, ◌%◌, ◌^◌, ◌≤◌, ◌<◌, add-zero, one-mul, add-mul, div-mul-le_self, le-div_iff_mul-le, div-lt_iff_lt-mul, mul-le-mul_right, arith, leb-true, leb-false, leb}
use native.Mathlib.Nat.{lt-div-mul-add, one-le-pow}
use Rattle.tonekit_decimal.specs.Decimal.{reads, candidate, choice, shortest, quarter, nearest_of, significand, scale_field, lower_gap, decimal_of, rounds_to}
use Rattle.tonekit_decimal.proofs.ReadsBack.{reads_ends, ends_read, differ, or_else, Neither, chosen, some, multiple, value_reads, gap_positive, quarter_positive}

-- how far two numbers are apart
abbrev apart : ℕ → ℕ → ℕ
apart a b = (a - b) + (b - a)

lt_le : (a b : ℕ) → a < b → a ≤ b
lt_le a b h = omega arith

module _ (lo v hi odd : ℕ) (rv : reads lo hi odd v ≡ true) where
  -- the two multiples of 10 ^ p beside v, and any other k * 10 ^ p
  below : (p : ℕ) → candidate v p 0 ≤ v
  unfolding candidate
  below p = omega (arith, ap (λ (z : ℕ). z * 10 ^ p) (add-zero (v / 10 ^ p)), div-mul-le_self v (10 ^ p))

  above : (p : ℕ) → v < candidate v p 1
  unfolding candidate
  above p =
      omega (arith, add-mul (v / 10 ^ p) 1 (10 ^ p), one-mul (10 ^ p), lt-div-mul-add {a = v} {b = 10 ^ p} (one-le-pow p 10 (omega arith)))

  other : (p k : ℕ) → (k * 10 ^ p ≤ v → k * 10 ^ p ≤ candidate v p 0) × (v < k * 10 ^ p → candidate v p 1 ≤ k * 10 ^ p)
  unfolding candidate
  other p k =
      let t : 0 < 10 ^ p = one-le-pow p 10 (omega arith) in (
        λ h. mul-le-mul_right (10 ^ p) (omega (arith, (le-div_iff_mul-le {k = 10 ^ p} {x = k} {y = v} t).1 h)),
        λ h. mul-le-mul_right (10 ^ p) (omega (arith, (div-lt_iff_lt-mul {k = 10 ^ p} {x = v} {y = k} t).1 h)),
      )

  -- where the upper candidate does not read, no higher multiple does; where the lower does not, no lower one
  upper_out : (d u : ℕ) → reads lo hi odd u ≡ false → v ≤ u → u ≤ d → reads lo hi odd d ≡ true → ⊥
  upper_out d u f h l r =
      let w = reads_ends lo hi odd v rv in
      let x = reads_ends lo hi odd d r in
      differ (ends_read lo hi odd u (omega arith) (omega arith)) f

  lower_out : (d u : ℕ) → reads lo hi odd u ≡ false → u ≤ v → d ≤ u → reads lo hi odd d ≡ true → ⊥
  lower_out d u f h l r =
      let w = reads_ends lo hi odd v rv in
      let x = reads_ends lo hi odd d r in
      differ (ends_read lo hi odd u (omega arith) (omega arith)) f

  -- the lower is chosen: no multiple of 10 ^ p that reads is nearer
  low_is_nearest : (p k : ℕ) → (reads lo hi odd (candidate v p 1) ≡ true → leb (2 * v) (candidate v p 0 + candidate v p 1) ≡ true)
      → reads lo hi odd (k * 10 ^ p) ≡ true → apart v (candidate v p 0) ≤ apart v (k * 10 ^ p)
  low_is_nearest p k n r = by (leb (k * 10 ^ p) v) refl
    where
      why : (upper : Bool) → reads lo hi odd (candidate v p 1) ≡ upper → v < k * 10 ^ p → 2 * v ≤ candidate v p 0 + k * 10 ^ p
      why true a h = let w = leb-true (2 * v) (candidate v p 0 + candidate v p 1) (n a) in let x = (other p k).1 h in omega arith
      why false a h = absurd (upper_out (k * 10 ^ p) (candidate v p 1) a (lt_le v (candidate v p 1) (above p)) ((other p k).1 h) r)

      by : (b : Bool) → leb (k * 10 ^ p) v ≡ b → apart v (candidate v p 0) ≤ apart v (k * 10 ^ p)
      by true q = let x = (other p k).0 (leb-true (k * 10 ^ p) v q) in omega (arith, below p)
      by false q =
          let h = leb-false (k * 10 ^ p) v q in
          let x = why (reads lo hi odd (candidate v p 1)) refl h in
          omega (arith, below p)

  -- the upper is chosen
  high_is_nearest : (p k : ℕ) → (reads lo hi odd (candidate v p 0) ≡ true → leb (2 * v) (candidate v p 0 + candidate v p 1) ≡ false)
      → reads lo hi odd (k * 10 ^ p) ≡ true → apart v (candidate v p 1) ≤ apart v (k * 10 ^ p)
  high_is_nearest p k n r = by (leb (k * 10 ^ p) v) refl
    where
      why : (lower : Bool) → reads lo hi odd (candidate v p 0) ≡ lower → k * 10 ^ p ≤ v → k * 10 ^ p + candidate v p 1 ≤ 2 * v
      why true a h = let w = leb-false (2 * v) (candidate v p 0 + candidate v p 1) (n a) in let x = (other p k).0 h in omega arith
      why false a h = absurd (lower_out (k * 10 ^ p) (candidate v p 0) a (below p) ((other p k).0 h) r)

      by : (b : Bool) → leb (k * 10 ^ p) v ≡ b → apart v (candidate v p 1) ≤ apart v (k * 10 ^ p)
      by true q =
          let h = leb-true (k * 10 ^ p) v q in
          let x = why (reads lo hi odd (candidate v p 0)) refl h in
          omega (arith, above p)
      by false q = let x = (other p k).1 (leb-false (k * 10 ^ p) v q) in omega (arith, above p)

  -- a candidate of a higher place is a multiple of 10 ^ (q + 1)
  higher : (p q c : ℕ) → q < p → reads lo hi odd (candidate v p c) ≡ true → ((j : ℕ) → reads lo hi odd (j * 10 ^ suc q) ≡ true → ⊥) → ⊥
  higher p q c h r most = most ((v / 10 ^ p + c) * 10 ^ (p - suc q)) (subst (λ (z : ℕ). reads lo hi odd z ≡ true) (multiple lo v hi odd rv p (suc q) c h) r)

  pub shortest_nearest : (q k : ℕ) → reads lo hi odd (k * 10 ^ q) ≡ true → ((j : ℕ) → reads lo hi odd (j * 10 ^ suc q) ≡ true → ⊥)
      → (p : ℕ) → q ≤ p → apart v (shortest lo v hi odd p) ≤ apart v (k * 10 ^ q)
  unfolding shortest
  shortest_nearest q k r most zero h = omega arith
  shortest_nearest q k r most (suc p) h =
      let P : ℕ → Type 0 = λ d. apart v d ≤ apart v (k * 10 ^ q) in
      let rest = shortest_nearest q k r most p in
      or_else P (Neither lo v hi odd rv (suc p)) (choice lo v hi odd (suc p)) (shortest lo v hi odd p)
      (chosen lo v hi odd rv (suc p) P
      (λ a n. here 0 a (low_is_nearest (suc p) k n) (leb q p) refl)
      (λ a n. here 1 a (high_is_nearest (suc p) k n) (leb q p) refl))
      (λ n. by (leb q p) refl rest n)
    where
      same : p < q → q ≡ suc p
      same l = omega arith

      at : suc p ≡ q → reads lo hi odd (k * 10 ^ suc p) ≡ true
      at e = subst (λ (z : ℕ). reads lo hi odd (k * 10 ^ z) ≡ true) (sym e) r

      here : (c : ℕ) → reads lo hi odd (candidate v (suc p) c) ≡ true
          → (reads lo hi odd (k * 10 ^ suc p) ≡ true → apart v (candidate v (suc p) c) ≤ apart v (k * 10 ^ suc p))
          → (l : Bool) → leb q p ≡ l → apart v (candidate v (suc p) c) ≤ apart v (k * 10 ^ q)
      here c a near true m = let w = leb-true q p m in absurd (higher (suc p) q c (omega arith) a most)
      here c a near false m =
          let y = same (leb-false q p m) in
          subst (λ (z : ℕ). apart v (candidate v (suc p) c) ≤ apart v (k * 10 ^ z)) (sym y) (near (at (sym y)))

      by : (l : Bool) → leb q p ≡ l → (q ≤ p → apart v (shortest lo v hi odd p) ≤ apart v (k * 10 ^ q)) → Neither lo v hi odd rv (suc p)
          → apart v (shortest lo v hi odd p) ≤ apart v (k * 10 ^ q)
      by true m i n = i (leb-true q p m)
      by false m i n = let y = same (leb-false q p m) in absurd (some lo v hi odd rv (suc p) k (at (sym y)) n.0 n.1)

-- of the multiples of the highest power of ten of which one reads back, none is nearer to the value than what is written
pub nearest_written : (e f q k : ℕ) → q ≤ 189 → rounds_to e f (k * 10 ^ q) ≡ true → ((j : ℕ) → rounds_to e f (j * 10 ^ suc q) ≡ true → ⊥)
    → apart (4 * significand e f * quarter (scale_field e)) (decimal_of e f) ≤ apart (4 * significand e f * quarter (scale_field e)) (k * 10 ^ q)
unfolding rounds_to decimal_of nearest_of
nearest_written e f q k h r most =
    let m = significand e f in
    let u = quarter (scale_field e) in
    shortest_nearest ((4 * m - lower_gap e f) * u) (4 * m * u) ((4 * m + 2) * u) (m % 2)
    (value_reads m (lower_gap e f) u (gap_positive e f) (quarter_positive (scale_field e))) q k r most 189 h
