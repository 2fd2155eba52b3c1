-- What is written lies in the rounding interval of its f32, and no number with fewer digits does. Assumes nothing.
use Rattle.std.proofs.Common.{◌≡◌, refl, sym, ◌∙◌, ap, Bool, true, false, cond, ℕ, zero, suc, ◌+◌, ◌-◌, ◌*◌, ◌/◌, ◌%◌, ◌^◌, ◌≤◌, ◌<◌, add-zero, one-mul, mul-one, zero-mul, mul_assoc, add-mul, div-mul-le_self, le-div_iff_mul-le, div-lt_iff_lt-mul, mul-le-mul_right, arith, le-leb, leb-true, leb-false, MatchOption, unwrap_or, eqb, leb, ltb, pow-add}
use native.Mathlib.Nat.{lt-div-mul-add, one-le-pow, one-le-mul}
use Rattle.std.specs.Prelude.{Option, Some, None}
use Rattle.tonekit_decimal.specs.Decimal.{reads, candidate, choice, shortest, quarter, nearest_of, significand, scale_field, lower_gap, decimal_of, rounds_to}

pub differ : {b : Bool} → b ≡ true → b ≡ false → ⊥
differ {b} e f = let z : ◌≡◌ {A = ℕ} 0 1 = cc in omega arith

-- what `reads` says
pub reads_ends : (lo hi odd d : ℕ) → reads lo hi odd d ≡ true → (lo + odd ≤ d) × (d + odd ≤ hi)
unfolding reads
reads_ends lo hi odd d e = by (leb (lo + odd) d) refl e
  where
    by : (t : Bool) → leb (lo + odd) d ≡ t → cond t (leb (d + odd) hi) false ≡ true → (lo + odd ≤ d) × (d + odd ≤ hi)
    by true h e = (leb-true (lo + odd) d h, leb-true (d + odd) hi e)
    by false h e = absurd (differ e refl)

pub ends_read : (lo hi odd d : ℕ) → lo + odd ≤ d → d + odd ≤ hi → reads lo hi odd d ≡ true
unfolding reads
ends_read lo hi odd d h l = simp (le-leb (lo + odd) d h, le-leb (d + odd) hi l)

-- what holds of a choice between two numbers
abbrev pick : Bool → Bool → Bool → ℕ → ℕ → Option ℕ
pick d u n a b = cond d (cond u (cond n (Some a) (Some b)) (Some a)) (cond u (Some b) None)

picked : (P : ℕ → Type 0) (N : Type 0) (d u n : Bool) (a b : ℕ) → (d ≡ true → (u ≡ true → n ≡ true) → P a)
    → (u ≡ true → (d ≡ true → n ≡ false) → P b) → (d ≡ false → u ≡ false → N) → MatchOption (pick d u n a b) N P
picked P N true true true a b f g h = f refl (λ _. refl)
picked P N true true false a b f g h = g refl (λ _. refl)
picked P N true false n a b f g h = f refl (λ z. absurd (differ z refl))
picked P N false true n a b f g h = g refl (λ z. absurd (differ z refl))
picked P N false false n a b f g h = h refl refl

-- of the choice, or of another number where there is none
pub or_else : (P : ℕ → Type 0) (N : Type 0) (o : Option ℕ) (d : ℕ) → MatchOption o N P → (N → P d) → P (unwrap_or o d)
or_else P N None d m f = f m
or_else P N (Some r) d m f = m

module _ (lo v hi odd : ℕ) (rv : reads lo hi odd v ≡ true) where
  -- where neither reads
  abbrev pub Neither : ℕ → Type 0
  Neither p = (reads lo hi odd (candidate v p 0) ≡ false) × (reads lo hi odd (candidate v p 1) ≡ false)

  pub chosen : (p : ℕ) (P : ℕ → Type 0)
      → (reads lo hi odd (candidate v p 0) ≡ true → (reads lo hi odd (candidate v p 1) ≡ true → leb (2 * v) (candidate v p 0 + candidate v p 1) ≡ true) → P (candidate v p 0))
      → (reads lo hi odd (candidate v p 1) ≡ true → (reads lo hi odd (candidate v p 0) ≡ true → leb (2 * v) (candidate v p 0 + candidate v p 1) ≡ false) → P (candidate v p 1))
      → MatchOption (choice lo v hi odd p) (Neither p) P
  unfolding choice
  chosen p P f g =
      picked P (Neither p) (reads lo hi odd (candidate v p 0)) (reads lo hi odd (candidate v p 1)) (leb (2 * v) (candidate v p 0 + candidate v p 1))
      (candidate v p 0) (candidate v p 1) f g (λ a b. (a, b))

  pub shortest_reads : (p : ℕ) → reads lo hi odd (shortest lo v hi odd p) ≡ true
  unfolding shortest
  shortest_reads zero = rv
  shortest_reads (suc p) =
      let P : ℕ → Type 0 = λ d. reads lo hi odd d ≡ true in
      let rest = shortest_reads p in
      or_else P (Neither (suc p)) (choice lo v hi odd (suc p)) (shortest lo v hi odd p) (chosen (suc p) P (λ r n. r) (λ r n. r)) (λ n. rest)

  -- where a multiple of 10 ^ q reads, one of the two beside v does
  pub some : (q k : ℕ) → reads lo hi odd (k * 10 ^ q) ≡ true → reads lo hi odd (candidate v q 0) ≡ false → reads lo hi odd (candidate v q 1) ≡ false → ⊥
  unfolding candidate
  some q k r a b = by (leb (k * 10 ^ q) v) refl
    where
      T : 0 < 10 ^ q
      T = one-le-pow q 10 (omega arith)

      w : (lo + odd ≤ v) × (v + odd ≤ hi)
      w = reads_ends lo hi odd v rv

      x : (lo + odd ≤ k * 10 ^ q) × (k * 10 ^ q + odd ≤ hi)
      x = reads_ends lo hi odd (k * 10 ^ q) r

      s : (v / 10 ^ q + 1) * 10 ^ q ≡ v / 10 ^ q * 10 ^ q + 10 ^ q
      s = add-mul (v / 10 ^ q) 1 (10 ^ q) ∙ ap (λ (z : ℕ). v / 10 ^ q * 10 ^ q + z) (one-mul (10 ^ q))

      z0 : (v / 10 ^ q + 0) * 10 ^ q ≡ v / 10 ^ q * 10 ^ q
      z0 = ap (λ (z : ℕ). z * 10 ^ q) (add-zero (v / 10 ^ q))

      by : (t : Bool) → leb (k * 10 ^ q) v ≡ t → ⊥
      by true e =
          let h : k * 10 ^ q ≤ v / 10 ^ q * 10 ^ q = mul-le-mul_right (10 ^ q) ((le-div_iff_mul-le {k = 10 ^ q} {x = k} {y = v} T).1 (leb-true (k * 10 ^ q) v e)) in
          differ (ends_read lo hi odd ((v / 10 ^ q + 0) * 10 ^ q) (omega (arith, z0, x.0)) (omega (arith, z0, w.1, div-mul-le_self v (10 ^ q)))) a
      by false e =
          let h : (v / 10 ^ q + 1) * 10 ^ q ≤ k * 10 ^ q =
          mul-le-mul_right (10 ^ q) (omega (arith, (div-lt_iff_lt-mul {k = 10 ^ q} {x = v} {y = k} T).1 (leb-false (k * 10 ^ q) v e))) in
          differ (ends_read lo hi odd ((v / 10 ^ q + 1) * 10 ^ q) (omega (arith, s, w.0, lt-div-mul-add {a = v} {b = 10 ^ q} T)) (omega (arith, x.1))) b

  part : (p q : ℕ) → q ≤ p → 10 ^ p ≡ 10 ^ (p - q) * 10 ^ q
  part p q h = let e : p ≡ (p - q) + q = omega arith in ap (λ (j : ℕ). 10 ^ j) e ∙ pow-add 10 (p - q) q

  pub multiple : (p q c : ℕ) → q ≤ p → candidate v p c ≡ (v / 10 ^ p + c) * 10 ^ (p - q) * 10 ^ q
  unfolding candidate
  multiple p q c h =
      ap (λ (z : ℕ). (v / 10 ^ p + c) * z) (part p q h) ∙ sym (mul_assoc (v / 10 ^ p + c) (10 ^ (p - q)) (10 ^ q))

  pub shortest_fewest : (q k : ℕ) → reads lo hi odd (k * 10 ^ q) ≡ true → (p : ℕ) → q ≤ p → (j : ℕ) × (shortest lo v hi odd p ≡ j * 10 ^ q)
  unfolding shortest
  shortest_fewest zero k r p h = (shortest lo v hi odd p, sym (mul-one (shortest lo v hi odd p)))
  shortest_fewest (suc q) k r zero h = absurd (omega arith)
  shortest_fewest (suc q) k r (suc p) h =
      let P : ℕ → Type 0 = λ d. (j : ℕ) × (d ≡ j * 10 ^ suc q) in
      let rest = shortest_fewest (suc q) k r p in
      or_else P (Neither (suc p)) (choice lo v hi odd (suc p)) (shortest lo v hi odd p)
      (chosen (suc p) P
      (λ _ _. ((v / 10 ^ suc p + 0) * 10 ^ (suc p - suc q), multiple (suc p) (suc q) 0 h))
      (λ _ _. ((v / 10 ^ suc p + 1) * 10 ^ (suc p - suc q), multiple (suc p) (suc q) 1 h)))
      (λ n. by (leb (suc q) p) refl rest n)
    where
      by : (l : Bool) → leb (suc q) p ≡ l → (suc q ≤ p → (j : ℕ) × (shortest lo v hi odd p ≡ j * 10 ^ suc q)) → Neither (suc p)
          → (j : ℕ) × (shortest lo v hi odd p ≡ j * 10 ^ suc q)
      by true m i n = i (leb-true (suc q) p m)
      by false m i n =
          let d : p < suc q = leb-false (suc q) p m in
          let eq : suc q ≡ suc p = omega arith in
          absurd (some (suc p) k (rw eq at r) n.0 n.1)

pub quarter_positive : (e : ℕ) → 1 ≤ quarter e
unfolding quarter
quarter_positive e = one-le-mul {a = 2 ^ (e - 1)} {b = 5 ^ 151} (one-le-pow (e - 1) 2 (omega arith)) (one-le-pow 151 5 (omega arith))

-- the value itself reads
pub value_reads : (m b q : ℕ) → 1 ≤ b → 1 ≤ q → reads ((4 * m - b) * q) ((4 * m + 2) * q) (m % 2) (4 * m * q) ≡ true
value_reads m b q h l = ends_read ((4 * m - b) * q) ((4 * m + 2) * q) (m % 2) (4 * m * q) (below m) above
  where
    above : 4 * m * q + m % 2 ≤ (4 * m + 2) * q
    above = let s = add-mul (4 * m) 2 q in omega arith

    below : (n : ℕ) → (4 * n - b) * q + n % 2 ≤ 4 * n * q
    below zero = let z : 4 * 0 - b ≡ 0 = omega arith in rw (z, zero-mul q) (omega arith)
    below (suc n) =
        let s = add-mul (4 * suc n - b) 1 q in
        let t : (4 * suc n - b + 1) * q ≤ 4 * suc n * q = mul-le-mul_right q (omega arith) in
        omega (arith, one-mul q)

pub gap_positive : (e f : ℕ) → 1 ≤ lower_gap e f
unfolding lower_gap
gap_positive e f = by (eqb f 0) (ltb 1 e)
  where
    by : (s t : Bool) → 1 ≤ cond s (cond t 1 2) 2
    by true true = omega arith
    by true false = omega arith
    by false t = omega arith

-- what is written reads back
pub reads_back : (e f : ℕ) → rounds_to e f (decimal_of e f) ≡ true
unfolding rounds_to decimal_of nearest_of
reads_back e f =
    let m = significand e f in
    let q = quarter (scale_field e) in
    shortest_reads ((4 * m - lower_gap e f) * q) (4 * m * q) ((4 * m + 2) * q) (m % 2)
    (value_reads m (lower_gap e f) q (gap_positive e f) (quarter_positive (scale_field e))) 189

-- where a multiple of a power of ten reads back, a multiple of it is written: no decimal that reads back has fewer digits
pub fewest : (e f q k : ℕ) → q ≤ 189 → rounds_to e f (k * 10 ^ q) ≡ true → (j : ℕ) × (decimal_of e f ≡ j * 10 ^ q)
unfolding rounds_to decimal_of nearest_of
fewest e f q k h r =
    let m = significand e f in
    let u = quarter (scale_field e) in
    shortest_fewest ((4 * m - lower_gap e f) * u) (4 * m * u) ((4 * m + 2) * u) (m % 2)
    (value_reads m (lower_gap e f) u (gap_positive e f) (quarter_positive (scale_field e))) q k r 189 h
