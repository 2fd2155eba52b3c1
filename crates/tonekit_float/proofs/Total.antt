-- `total_le` is the order of the bit patterns of values whose sign is clear, which is how Rust's `total_cmp` orders them; so it is total and transitive.
use Rattle.std.proofs.Common.{◌≡◌, ℕ, ◌+◌, ◌-◌, ◌*◌, ◌/◌, ◌^◌, ◌<◌, ◌≤◌, Bool, true, false, not, ◌&&◌, ◌||◌, T, ltb, leb, ◌⊎◌, ℤ, sym, refl, ap, ◌∙◌, subst, inl, inr, ⊎_elim, le_trans, le_of_eq, le_refl, lt_of_lt_of_le, lt_of_le_of_lt, mul-le-mul_right, mod-eq_of_lt, add-mul, le_antisymm, one-mul, le-div_iff_mul-le, mul_right_comm, arith, le→leb, leb→le, nltb→le, pow_pos, pow-add, Float}
use lib.Dec.{nleb→lt}
use lib.Ieee.{Format, binary32, binary64, nan, inf, fin, is_nan, fits, le, lt, eq, up, down, prec, low, hid, ones, size, to_bits, of_bits}
use lib.Ieee.Bits.{of_bits-to_bits, nan_bits_is, nan_bits_above, is_true}
use lib.Ieee.Digits.{size-lt, size-le, size_reaches}
use lib.Ieee.Fits.{two, down_pos, kept-lt}
use lib.Ieee.Nearest.{div_mono}
use Rattle.spec_arithmetic.specs.Magnitude.{total_le}
use Rattle.tonekit_float.proofs.Order.{yes, no, le→under, le_total, le_trans_float}
use Rattle.tonekit_float.proofs.Units.{units_of, bits_of, to_bits_is}
use Rattle.tonekit_float.proofs.Magnitude.{clear, clear_lt}

-- of a NaN every comparison is false
pub nan_le : (a b : Float) → le a b ≡ not (is_nan a) && le a b
unfolding is_nan le lt eq
nan_le nan b = refl
nan_le (inf s) b = refl
nan_le (fin s m e) b = refl

-- ---- more units, a greater pattern
twice_hid : (f : Format) → 2 ^ prec f ≡ hid f + hid f
twice_hid binary32 = refl
twice_hid binary64 = refl

split_hid : (f : Format) (k : ℕ) → hid f * 2 ^ k ≡ 2 ^ (prec f - 1 + k)
split_hid f k = sym (pow-add 2 (prec f - 1) k)

bits_mono : (f : Format) (n o : ℕ) → n ≤ o → bits_of f false n ≤ bits_of f false o
bits_mono f n o h = go (leb l k) (leb→le l k) (nleb→lt l k)
  where
    k : ℕ
    k = size n - prec f

    l : ℕ
    l = size o - prec f

    k_le : k ≤ l
    k_le = let s = size-le n (size o) (lt_of_le_of_lt h (size-lt o)) in omega arith

    same : k ≡ l → bits_of f false n ≤ bits_of f false o
    same e =
        let d : n / 2 ^ l ≤ o / 2 ^ l = div_mono n (2 ^ l) o (2 ^ l) (pow_pos l) (pow_pos l) (mul-le-mul_right (2 ^ l) h) in
        subst (λ (j : ℕ). 0 + j * hid f + n / 2 ^ j ≤ 0 + l * hid f + o / 2 ^ l) (sym e) (omega arith)

    more : k < l → bits_of f false n ≤ bits_of f false o
    more g =
        let a : n / 2 ^ k < hid f + hid f = lt_of_lt_of_le (kept-lt (prec f) n) (le_of_eq (twice_hid f)) in
        let t = two f in
        let r : prec f - 1 + l < size o = omega arith in
        let b : hid f ≤ o / 2 ^ l = (le-div_iff_mul-le (pow_pos l)).1 (le_trans (le_of_eq (split_hid f l)) (size_reaches o (prec f - 1 + l) r)) in
        let c : (k + 1) * hid f ≤ l * hid f = mul-le-mul_right (hid f) (omega arith) in
        let d : (k + 1) * hid f ≡ k * hid f + hid f = add-mul k 1 (hid f) ∙ ap (λ (z : ℕ). k * hid f + z) (one-mul (hid f)) in
        omega arith

    go : (b : Bool) → (T b → l ≤ k) → (T (not b) → k < l) → bits_of f false n ≤ bits_of f false o
    go true i j = same (le_antisymm k_le (i tt))
    go false i j = more (j tt)

units_mono : (f : Format) (m n : ℕ) (e d : ℤ) → m * up e * down d ≤ n * up d * down e → units_of f (fin false m e) ≤ units_of f (fin false n d)
units_mono f m n e d h =
    let L = 2 ^ low f in
    div_mono (m * up e * L) (down e) (n * up d * L) (down d) (down_pos e) (down_pos d)
    (le_trans (le_of_eq (mul_right_comm (m * up e) L (down d))) (le_trans (mul-le-mul_right L h) (le_of_eq (mul_right_comm (n * up d) (down e) L))))

-- ---- a number's pattern is at most the infinity's
number_bits : (f : Format) (m : ℕ) (e : ℤ) → T (fits f (fin false m e)) → to_bits f (fin false m e) ≤ ones f * hid f
number_bits f m e h =
    let x = fin false m e in
    nltb→le (ones f * hid f) (to_bits f x)
    (no (ap (λ (n : ℕ). ltb (ones f * hid f) n) (sym (mod-eq_of_lt (clear_lt f m e h)))
    ∙ sym (nan_bits_above f (to_bits f x)) ∙ nan_bits_is f (to_bits f x) ∙ ap is_nan (of_bits-to_bits f x h) ∙ number))
  where
    number : is_nan (fin false m e) ≡ false
    number = unfold is_nan in refl

inf_bits : (f : Format) → to_bits f (inf false) ≡ ones f * hid f
unfolding to_bits
inf_bits f = omega arith

nan_bits : (f : Format) → ones f * hid f ≤ to_bits f nan
unfolding to_bits
nan_bits f = omega arith

-- ---- from the order to that of the patterns
upward : (f : Format) (a b : Float) → T (fits f a) → T (fits f b) → T (clear a) → T (clear b) → T (total_le a b) → to_bits f a ≤ to_bits f b
unfolding total_le is_nan le lt eq
upward f nan nan p q c d h = le_refl (to_bits f nan)
upward f nan (inf t) p q c d h = absurd h
upward f nan (fin t n g) p q c d h = absurd h
upward f (inf true) b p q c d h = absurd c
upward f (inf false) nan p q c d h = le_trans (le_of_eq (inf_bits f)) (nan_bits f)
upward f (inf false) (inf true) p q c d h = absurd d
upward f (inf false) (inf false) p q c d h = le_refl (to_bits f (inf false))
upward f (inf false) (fin t n g) p q c d h = absurd h
upward f (fin true m e) b p q c d h = absurd c
upward f (fin false m e) nan p q c d h = le_trans (number_bits f m e p) (nan_bits f)
upward f (fin false m e) (inf true) p q c d h = absurd d
upward f (fin false m e) (inf false) p q c d h = le_trans (number_bits f m e p) (le_of_eq (sym (inf_bits f)))
upward f (fin false m e) (fin true n g) p q c d h = absurd d
upward f (fin false m e) (fin false n g) p q c d h =
    let u = le→under (fin false m e) (fin false n g) tt tt h in
    le_trans (le_of_eq (to_bits_is f false m e))
    (le_trans (bits_mono f (units_of f (fin false m e)) (units_of f (fin false n g)) (units_mono f m n e g (omega arith))) (le_of_eq (sym (to_bits_is f false n g))))

-- ---- the laws
pub total : (a b : Float) → T (total_le a b) ⊎ T (total_le b a)
unfolding total_le is_nan le lt eq
total nan b = inr tt
total (inf s) nan = inl tt
total (inf true) (inf true) = inl tt
total (inf true) (inf false) = inl tt
total (inf false) (inf true) = inr tt
total (inf false) (inf false) = inl tt
total (inf true) (fin t n d) = inl tt
total (inf false) (fin t n d) = inr tt
total (fin s m e) nan = inl tt
total (fin s m e) (inf true) = inr tt
total (fin s m e) (inf false) = inl tt
total (fin s m e) (fin t n d) = le_total (fin s m e) (fin t n d) tt tt

pub total_trans : (a b c : Float) → T (total_le a b) → T (total_le b c) → T (total_le a c)
unfolding total_le
total_trans a b c = go (is_nan a) (is_nan b) (is_nan c)
  where
    go : (x y z : Bool) → T (y || (not x && le a b)) → T (z || (not y && le b c)) → T (z || (not x && le a c))
    go x y true h k = tt
    go x true false h k = absurd k
    go true false false h k = absurd h
    go false false false h k = le_trans_float a b c h k

-- Rust's `total_cmp` of two values whose sign is clear compares their patterns
pub total_bits : (f : Format) (a b : Float) → T (fits f a) → T (fits f b) → T (clear a) → T (clear b) → total_le a b ≡ leb (to_bits f a) (to_bits f b)
total_bits f a b p q c d = go (total_le a b) (leb A B) refl refl
  where
    A : ℕ
    A = to_bits f a

    B : ℕ
    B = to_bits f b

    turned : total_le a b ≡ false → B ≤ A
    turned e = ⊎_elim (λ (h : T (total_le a b)). absurd (subst T e h)) (λ (h : T (total_le b a)). upward f b a q p d c h) (total a b)

    -- one pattern, one value
    one : A ≡ B → T (total_le a b)
    one e =
        let same : a ≡ b = sym (of_bits-to_bits f a p) ∙ ap (of_bits f) e ∙ of_bits-to_bits f b q in
        subst (λ (z : Float). T (total_le a z)) same (⊎_elim (λ (h : T (total_le a a)). h) (λ (h : T (total_le a a)). h) (total a a))

    go : (x y : Bool) → total_le a b ≡ x → leb A B ≡ y → x ≡ y
    go true true e g = refl
    go false false e g = refl
    go true false e g = sym (is_true (leb A B) (le→leb A B (upward f a b p q c d (yes e)))) ∙ g
    go false true e g = sym e ∙ is_true (total_le a b) (one (le_antisymm (leb→le A B (yes g)) (turned e)))
