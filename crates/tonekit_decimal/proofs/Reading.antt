-- The text of a number, read digit by digit, is the number. Assumes nothing.
use Rattle.std.proofs.Common.{◌≡◌, refl, sym, ◌∙◌, ap, subst, Bool, true, false, cond, List, [], ◌∷◌, ◌++◌, ℕ, zero, suc, ◌+◌, ◌-◌, ◌*◌, ◌/◌, ◌%◌, ◌^◌, ◌≤◌, ◌<◌, add-zero, zero-add, one-mul, zero-mul, mul_comm, mul_assoc, add-mul, div-one, div-add-mod', div-lt_iff_lt-mul, mod-eq_of_lt, mul-div_cancel, pow-suc, le_of_suc-le-suc, arith, ne_eqb, eqb-true, eqb, lit<, lit≤, get_or, pow-add, MatchOption}
use native.Mathlib.Nat.{mod-one, mod-mod, div-div-eq-div-mul, pow-succ', one-le-pow}
use lib.Arith.{mod-mul}
use Rattle.tonekit_decimal.specs.Digits.{digits}
use Rattle.std.specs.Prelude.{Option, Some, None}
use Rattle.tonekit_decimal.specs.Text.{figures, whole_count, lowest, fraction, number_text}
use Rattle.tonekit_decimal.specs.Read.{read_fraction, read_number}

-- the digit at a place
digit_at : (n x i : ℕ) → i < n → get_or (digits n x) i 0 ≡ x / 10 ^ i % 10
unfolding digits
digit_at zero x i h = absurd (omega arith)
digit_at (suc n) x zero h = ap (λ (z : ℕ). z % 10) (sym (div-one x))
digit_at (suc n) x (suc i) h =
    digit_at n (x / 10) i (le_of_suc-le-suc h)
    ∙ ap (λ (z : ℕ). z % 10) (div-div-eq-div-mul x 10 (10 ^ i) ∙ ap (λ (z : ℕ). x / z) (sym (pow-succ' 10 i)))

-- y below 10 ^ (n + 1), by its highest digit
mod_split : (y n : ℕ) → y % 10 ^ suc n ≡ y / 10 ^ n % 10 * 10 ^ n + y % 10 ^ n
mod_split y n = ap (λ (z : ℕ). y % z) (pow-succ' 10 n) ∙ mod-mul y {m = 10} {c = 10 ^ n} (omega arith) (one-le-pow n 10 (omega arith))

-- a character's digit, and that it is no '.'
back_48 : (d : ℕ) → 48 + d % 10 - 48 ≡ d % 10
back_48 d = omega arith

no_dot : (d : ℕ) → eqb (48 + d) 46 ≡ false
no_dot d = ne_eqb (48 + d) 46 (λ e. omega arith)

module _ (x : ℕ) where
  -- the digit of x / 10 ^ low at place n
  place : (low n : ℕ) → low + n < 190 → get_or (digits 190 x) (low + n) 0 % 10 ≡ x / 10 ^ low / 10 ^ n % 10
  place low n h =
      ap (λ (z : ℕ). z % 10) (digit_at 190 x (low + n) h ∙ ap (λ (z : ℕ). z % 10) (ap (λ (z : ℕ). x / z) (pow-add 10 low n) ∙ sym (div-div-eq-div-mul x (10 ^ low) (10 ^ n))))
      ∙ mod-mod (x / 10 ^ low / 10 ^ n) 10

  read_whole : (low n ahead : ℕ) (rest : List ℕ) → low + n ≤ 190
      → read_number ahead (figures (digits 190 x) low n ++ rest) ≡ read_number (ahead * 10 ^ n + x / 10 ^ low % 10 ^ n) rest
  unfolding figures read_number
  read_whole low zero ahead rest h = ap (λ (z : ℕ). read_number z rest) (nothing ahead (x / 10 ^ low))
    where
      nothing : (a y : ℕ) → a ≡ a * 1 + y % 1
      nothing a y = omega arith
  read_whole low (suc n) ahead rest h =
      let y = x / 10 ^ low in
      let g : (ahead * 10 + y / 10 ^ n % 10) * 10 ^ n + y % 10 ^ n ≡ ahead * 10 ^ suc n + y % 10 ^ suc n = joined ahead y n in
      rw (no_dot (get_or (digits 190 x) (low + n) 0 % 10), back_48 (get_or (digits 190 x) (low + n) 0), place low n (omega arith))
      (read_whole low n (ahead * 10 + y / 10 ^ n % 10) rest (omega arith) ∙ ap (λ (z : ℕ). read_number z rest) g)
    where
      joined : (a y n : ℕ) → (a * 10 + y / 10 ^ n % 10) * 10 ^ n + y % 10 ^ n ≡ a * 10 ^ suc n + y % 10 ^ suc n
      joined a y n =
          let s = add-mul (a * 10) (y / 10 ^ n % 10) (10 ^ n) in
          let t : a * 10 ^ suc n ≡ a * 10 * 10 ^ n = ap (λ (z : ℕ). a * z) (pow-succ' 10 n) ∙ sym (mul_assoc a 10 (10 ^ n)) in
          omega (arith, mod_split y n)

  read_fraction_lem : (low n p : ℕ) → ((k : ℕ) → n ≡ suc k → p ≡ 10 ^ (low + k)) → low + n ≤ 190
      → read_fraction p (figures (digits 190 x) low n) ≡ x / 10 ^ low % 10 ^ n * 10 ^ low
  unfolding figures read_fraction
  read_fraction_lem low zero p e h = sym (ap (λ (z : ℕ). z * 10 ^ low) (mod-one (x / 10 ^ low)) ∙ zero-mul (10 ^ low))
  read_fraction_lem low (suc n) p e h =
      let y = x / 10 ^ low in
      rw (back_48 (get_or (digits 190 x) (low + n) 0), place low n (omega arith), e n refl)
      (ap (λ (z : ℕ). y / 10 ^ n % 10 * 10 ^ (low + n) + z) (read_fraction_lem low n (10 ^ (low + n) / 10) (next low n) (omega arith)) ∙ joined y low n)
    where
      next : (low n k : ℕ) → n ≡ suc k → 10 ^ (low + n) / 10 ≡ 10 ^ (low + k)
      next low n k q =
          let r : low + n ≡ suc (low + k) = omega arith in
          ap (λ (z : ℕ). 10 ^ z / 10) r ∙ ap (λ (z : ℕ). z / 10) (pow-suc 10 (low + k)) ∙ mul-div_cancel (10 ^ (low + k)) (omega arith)

      joined : (y low n : ℕ) → y / 10 ^ n % 10 * 10 ^ (low + n) + y % 10 ^ n * 10 ^ low ≡ y % 10 ^ suc n * 10 ^ low
      joined y low n =
          let s = add-mul (y / 10 ^ n % 10 * 10 ^ n) (y % 10 ^ n) (10 ^ low) in
          let t : y / 10 ^ n % 10 * 10 ^ (low + n) ≡ y / 10 ^ n % 10 * 10 ^ n * 10 ^ low =
          ap (λ (z : ℕ). y / 10 ^ n % 10 * z) (pow-add 10 low n ∙ mul_comm (10 ^ low) (10 ^ n)) ∙ sym (mul_assoc (y / 10 ^ n % 10) (10 ^ n) (10 ^ low)) in
          let m : y % 10 ^ suc n * 10 ^ low ≡ (y / 10 ^ n % 10 * 10 ^ n + y % 10 ^ n) * 10 ^ low = ap (λ (z : ℕ). z * 10 ^ low) (mod_split y n) in
          omega arith

  -- the digits that are left out in front are zeros
  count_enough : (k : ℕ) → k ≤ 39 → x / 10 ^ 151 < 10 ^ k → x / 10 ^ 151 < 10 ^ whole_count (digits 190 x) k
  unfolding whole_count
  count_enough zero h l = less (x / 10 ^ 151) l
    where
      less : (y : ℕ) → y < 1 → y < 10
      less y g = omega arith
  count_enough (suc k) h l = by (eqb (get_or (digits 190 x) (150 + suc k) 0) 0) refl (count_enough k (omega arith))
    where
      top : (y k : ℕ) → y < 10 ^ suc k → y / 10 ^ k % 10 ≡ 0 → y < 10 ^ k
      top y k g e =
          let d : y / 10 ^ k < 10 = (div-lt_iff_lt-mul {k = 10 ^ k} {x = y} {y = 10} (one-le-pow k 10 (omega arith))).1 (subst (λ (z : ℕ). y < z) (pow-succ' 10 k) g) in
          let z : y / 10 ^ k < 1 = omega arith in
          subst (λ (z : ℕ). y < z) (one-mul (10 ^ k)) ((div-lt_iff_lt-mul {k = 10 ^ k} {x = y} {y = 1} (one-le-pow k 10 (omega arith))).0 z)

      zero_digit : get_or (digits 190 x) (150 + suc k) 0 ≡ 0 → x / 10 ^ 151 / 10 ^ k % 10 ≡ 0
      zero_digit e =
          let s : 150 + suc k ≡ 151 + k = omega arith in
          sym (place 151 k (fits k h)) ∙ ap (λ (z : ℕ). get_or (digits 190 x) z 0 % 10) (sym s) ∙ ap (λ (z : ℕ). z % 10) e
        where
          fits : (k : ℕ) → suc k ≤ 39 → 151 + k < 190
          fits k h = omega arith

      by : (t : Bool) → eqb (get_or (digits 190 x) (150 + suc k) 0) 0 ≡ t → (x / 10 ^ 151 < 10 ^ k → x / 10 ^ 151 < 10 ^ whole_count (digits 190 x) k)
          → x / 10 ^ 151 < 10 ^ cond t (whole_count (digits 190 x) k) (suc k)
      by true e i = i (top (x / 10 ^ 151) k l (zero_digit (eqb-true (get_or (digits 190 x) (150 + suc k) 0) 0 e)))
      by false e i = l

  count_most : (k : ℕ) → k ≤ 39 → whole_count (digits 190 x) k ≤ 39
  unfolding whole_count
  count_most zero h = omega arith
  count_most (suc k) h = by (eqb (get_or (digits 190 x) (150 + suc k) 0) 0) (count_most k (omega arith))
    where
      by : (t : Bool) → whole_count (digits 190 x) k ≤ 39 → cond t (whole_count (digits 190 x) k) (suc k) ≤ 39
      by true i = i
      by false i = h

  -- the digits that are left out at the end are zeros
  low_zero : (k : ℕ) → k ≤ 151 → x % 10 ^ (151 - k) ≡ 0
      → MatchOption (lowest (digits 190 x) k) (x % 10 ^ 151 ≡ 0) (λ low. (low < 151) × (x % 10 ^ low ≡ 0))
  unfolding lowest
  low_zero zero h e = e
  low_zero (suc k) h e = by (eqb (get_or (digits 190 x) (151 - suc k) 0) 0) refl (low_zero k (omega arith))
    where
      one_more : get_or (digits 190 x) (151 - suc k) 0 ≡ 0 → x % 10 ^ (151 - k) ≡ 0
      one_more z =
          let s : 151 - k ≡ suc (151 - suc k) = omega arith in
          let g : x / 10 ^ (151 - suc k) % 10 ≡ 0 = sym (digit_at 190 x (151 - suc k) (omega arith)) ∙ z in
          ap (λ (j : ℕ). x % 10 ^ j) s ∙ mod_split x (151 - suc k)
          ∙ ap (λ (w : ℕ). w * 10 ^ (151 - suc k) + x % 10 ^ (151 - suc k)) g ∙ ap (λ (w : ℕ). 0 * 10 ^ (151 - suc k) + w) e
          ∙ ap (λ (w : ℕ). w + 0) (zero-mul (10 ^ (151 - suc k)))

      by : (t : Bool) → eqb (get_or (digits 190 x) (151 - suc k) 0) 0 ≡ t
          → (x % 10 ^ (151 - k) ≡ 0 → MatchOption (lowest (digits 190 x) k) (x % 10 ^ 151 ≡ 0) (λ low. (low < 151) × (x % 10 ^ low ≡ 0)))
          → MatchOption (cond t (lowest (digits 190 x) k) (Some (151 - suc k))) (x % 10 ^ 151 ≡ 0) (λ low. (low < 151) × (x % 10 ^ low ≡ 0))
      by true q f = f (one_more (eqb-true (get_or (digits 190 x) (151 - suc k) 0) 0 q))
      by false q f = (omega arith, e)

  fraction_is : (low : ℕ) → low ≤ 151 → x % 10 ^ low ≡ 0 → x / 10 ^ low % 10 ^ (151 - low) * 10 ^ low ≡ x % 10 ^ 151
  fraction_is low h z =
      let s : 151 - low + low ≡ 151 = omega arith in
      sym (ap (λ (j : ℕ). x % 10 ^ j) (sym s) ∙ ap (λ (w : ℕ). x % w) (pow-add 10 (151 - low) low)
      ∙ mod-mul x {m = 10 ^ (151 - low)} {c = 10 ^ low} (one-le-pow (151 - low) 10 (omega arith)) (one-le-pow low 10 (omega arith))
      ∙ ap (λ (w : ℕ). x / 10 ^ low % 10 ^ (151 - low) * 10 ^ low + w) z ∙ add-zero (x / 10 ^ low % 10 ^ (151 - low) * 10 ^ low))

  first_place : (low : ℕ) → low < 151 → (k : ℕ) → 151 - low ≡ suc k → 10 ^ 150 ≡ 10 ^ (low + k)
  first_place low h k e = let s : 150 ≡ low + k = omega arith in ap (λ (j : ℕ). 10 ^ j) s

  dotted : (ahead low : ℕ) → low < 151 → x % 10 ^ low ≡ 0
      → read_number ahead (46 ∷ figures (digits 190 x) low (151 - low)) ≡ ahead * 10 ^ 151 + x % 10 ^ 151
  unfolding read_number
  dotted ahead low h z =
      ap (λ (w : ℕ). ahead * 10 ^ 151 + w)
      (read_fraction_lem low (151 - low) (10 ^ 150) (first_place low h) (omega arith) ∙ fraction_is low (omega arith) z)

  ended : (ahead : ℕ) → read_number ahead [] ≡ ahead * 10 ^ 151 + 0
  unfolding read_number
  ended ahead = sym (add-zero (ahead * 10 ^ 151))

  in_places : (n : ℕ) → n ≤ 39 → 151 + n ≤ 190
  in_places n h = omega arith

  -- the text of a number below 10 ^ 190 stands for it
  pub reads_as : x < 10 ^ 190 → read_number 0 (number_text (digits 190 x)) ≡ x
  unfolding number_text fraction
  reads_as h = by (lowest (digits 190 x) 151) (low_zero 151 (lit≤ tt) (mod-one x))
    where
      few : x / 10 ^ 151 < 10 ^ 39
      few = (div-lt_iff_lt-mul {k = 10 ^ 151} {x = x} {y = 10 ^ 39} (lit< tt)).1 h

      front : (rest : List ℕ) → read_number 0 (figures (digits 190 x) 151 (whole_count (digits 190 x) 39) ++ rest) ≡ read_number (x / 10 ^ 151) rest
      front rest =
          let k = whole_count (digits 190 x) 39 in
          read_whole 151 k 0 rest (in_places k (count_most 39 (lit≤ tt)))
          ∙ ap (λ (z : ℕ). read_number z rest)
          (ap (λ (z : ℕ). z + x / 10 ^ 151 % 10 ^ k) (zero-mul (10 ^ k)) ∙ zero-add (x / 10 ^ 151 % 10 ^ k) ∙ mod-eq_of_lt (count_enough 39 (lit≤ tt) few))

      by : (o : Option ℕ) → MatchOption o (x % 10 ^ 151 ≡ 0) (λ low. (low < 151) × (x % 10 ^ low ≡ 0))
          → read_number 0 (figures (digits 190 x) 151 (whole_count (digits 190 x) 39) ++ fraction (digits 190 x) o) ≡ x
      by (Some low) l = front (46 ∷ figures (digits 190 x) low (151 - low)) ∙ dotted (x / 10 ^ 151) low l.0 l.1 ∙ div-add-mod' x (10 ^ 151)
      by None l = front [] ∙ ended (x / 10 ^ 151) ∙ ap (λ (z : ℕ). x / 10 ^ 151 * 10 ^ 151 + z) (sym l) ∙ div-add-mod' x (10 ^ 151)
