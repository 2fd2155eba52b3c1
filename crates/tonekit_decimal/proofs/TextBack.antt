-- The text of every finite f32, read and rounded to nearest with ties to even, gives its bits back. Assumes nothing.
use Rattle.std.proofs.Common.{◌≡◌, refl, sym, ◌∙◌, ap, Bool, true, false, cond, List, [], ◌∷◌, ◌++◌, ℕ, zero, suc, ◌+◌, ◌-◌, ◌*◌, ◌%◌, ◌^◌, ◌≤◌, ◌<◌, le_trans, lt_of_le_of_lt, arith, ne_eqb, eqb, lit<, get_or, to_bits}
use lib.Ieee.{binary32, round}
use Rattle.tonekit_decimal.specs.Digits.{digits}
use Rattle.tonekit_decimal.specs.Text.{figures, whole_count, lowest, fraction, number_text, sign_text}
use Rattle.tonekit_decimal.specs.Read.{read_number, float_of}
use Rattle.tonekit_decimal.specs.Decimal.{quarter, significand, scale_field, lower_gap, decimal_of, rounds_to, sign_field, exponent_field, fraction_field, decimal_text}
use Rattle.tonekit_decimal.proofs.Nearest.{within}
use Rattle.tonekit_decimal.proofs.ReadsBack.{reads_ends, reads_back}
use Rattle.tonekit_decimal.proofs.Rounds.{bits_back}
use Rattle.tonekit_decimal.proofs.Reading.{reads_as}

-- what is written has 190 digits
significand_small : (e f : ℕ) → f < 8388608 → significand e f < 16777216
unfolding significand
significand_small e f h = by (eqb e 0)
  where
    by : (b : Bool) → cond b f (8388608 + f) < 16777216
    by true = omega arith
    by false = omega arith

scale_small : (e : ℕ) → e < 255 → scale_field e ≤ 254
unfolding scale_field
scale_small e h = by (eqb e 0)
  where
    by : (b : Bool) → cond b 1 e ≤ 254
    by true = omega arith
    by false = omega arith

steps : (m : ℕ) → m < 16777216 → 4 * m + 2 ≤ 67108862
steps m h = omega arith

less : (d o hi : ℕ) → d + o ≤ hi → d ≤ hi
less d o hi h = omega arith

decimal_small : (e f : ℕ) → e < 255 → f < 8388608 → decimal_of e f < 10 ^ 190
unfolding rounds_to
decimal_small e f he hf =
    let m = significand e f in
    let q = quarter (scale_field e) in
    lt_of_le_of_lt
    (le_trans (less (decimal_of e f) (m % 2) ((4 * m + 2) * q) (reads_ends ((4 * m - lower_gap e f) * q) ((4 * m + 2) * q) (m % 2) (decimal_of e f) (reads_back e f)).1)
    (within (4 * m + 2) 67108862 (scale_field e) (steps m (significand_small e f hf)) (scale_small e he)))
    (lit< tt)

-- a number's text starts with a digit
counted : (ds : List ℕ) (k : ℕ) → (j : ℕ) × (whole_count ds k ≡ suc j)
unfolding whole_count
counted ds zero = (0, refl)
counted ds (suc k) = by (eqb (get_or ds (150 + suc k) 0) 0) (counted ds k)
  where
    by : (b : Bool) → (j : ℕ) × (whole_count ds k ≡ suc j) → (j : ℕ) × (cond b (whole_count ds k) (suc k) ≡ suc j)
    by true t = t
    by false t = (k, refl)

starts : (ds : List ℕ) → (d : ℕ) × ((cs : List ℕ) × (number_text ds ≡ (48 + d) ∷ cs))
unfolding number_text figures
starts ds = by (whole_count ds 39) (fraction ds (lowest ds 151)) (counted ds 39)
  where
    by : (n : ℕ) (rest : List ℕ) → (j : ℕ) × (n ≡ suc j) → (d : ℕ) × ((cs : List ℕ) × (figures ds 151 n ++ rest ≡ (48 + d) ∷ cs))
    by zero rest t = absurd (omega arith)
    by (suc n) rest t = (get_or ds (151 + n) 0 % 10, (figures ds 151 n ++ rest, refl))

signed : (b : Bool) (cs : List ℕ) (d : ℕ) (r : List ℕ) → cs ≡ (48 + d) ∷ r
    → float_of (cond b (45 ∷ []) [] ++ cs) ≡ round binary32 b (read_number 0 cs) (10 ^ 151)
unfolding float_of
signed true cs d r e = refl
signed false cs d r e =
    ap float_of e ∙ rw (ne_eqb (48 + d) 45 (λ z. omega arith)) (ap (λ (c : List ℕ). round binary32 false (read_number 0 c) (10 ^ 151)) (sym e))

fraction_small : (bits : ℕ) → fraction_field bits < 8388608
unfolding fraction_field
fraction_small bits = omega arith

pub text_back : (bits : ℕ) → bits < 4294967296 → exponent_field bits < 255 → to_bits binary32 (float_of (decimal_text bits)) ≡ bits
unfolding decimal_text sign_text
text_back bits h e =
    let ds = digits 190 (decimal_of (exponent_field bits) (fraction_field bits)) in
    let s = starts ds in
    rw (ne_eqb (exponent_field bits) 255 (not_last (exponent_field bits) e))
    (ap (to_bits binary32)
    (signed (eqb (sign_field bits) 1) (number_text ds) s.0 s.1.0 s.1.1
    ∙ ap (λ (d : ℕ). round binary32 (eqb (sign_field bits) 1) d (10 ^ 151))
    (reads_as (decimal_of (exponent_field bits) (fraction_field bits)) (decimal_small (exponent_field bits) (fraction_field bits) e (fraction_small bits))))
    ∙ bits_back bits h e)
  where
    not_last : (x : ℕ) → x < 255 → x ≡ 255 → ⊥
    not_last x l q = omega arith
