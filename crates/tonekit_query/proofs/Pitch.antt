-- An hz by its bits: a pitch's are those above 0 and below infinity's (`low_pitch`, `high_pitch`). Assumes nothing.
use Rattle.std.proofs.Common.{ℕ, zero, suc, ◌+◌, ◌*◌, ◌/◌, ◌%◌, ◌^◌, ◌≤◌, ◌<◌, ◌≡◌, refl, sym, ◌∙◌, ap, Bool, true, false, cond, ◌&&◌, true≢false, mul-pos, arith, ne_eqb, leb-false, leb, eqb, pow_pos, Float}
use borrow.Author.Tests.{lt-leb}
use lib.Ieee.{nan, inf, fin, up, down, binary32, lt, of_bits, of_fields, odd}
use lib.Ieee.Bits.{is_true}
use lib.Ieee.Exact.{HasValue, odd_sign}
use lib.Ieee.Fits.{down_pos}
use Rattle.tonekit_float.proofs.Monotone.{zero_f}
use Rattle.tonekit_float.proofs.Signs.{above_zero}
use Rattle.spec_query.specs.Frames.{pitch}

-- ---- by the value: a number above 0 is a pitch, one with its sign set is none, nor is 0
no_value : (a d : ℕ) (u c : ℕ) → 0 < a * d → 0 * u * c ≡ a * d → ⊥
no_value a d u c h e = omega arith

above : (x : Float) (a c : ℕ) → 0 < a → HasValue x false a c → pitch x ≡ true
unfolding lt
above nan a c h v = absurd v
above (inf s) a c h v = absurd v
above (fin s zero e) a c h v = absurd (no_value a (down e) (up e) c (mul-pos h (down_pos e)) v.1)
above (fin true (suc m) e) a c h v = absurd (true≢false v.0)
above (fin false (suc m) e) a c h v = ap (λ (b : Bool). b && true) (is_true (lt zero_f (fin false (suc m) e)) (above_zero m e))

signed : (x : Float) (a c : ℕ) → HasValue x true a c → pitch x ≡ false
unfolding lt
signed nan a c v = absurd v
signed (inf s) a c v = absurd v
signed (fin true m e) a c v = refl
signed (fin false m e) a c v = absurd (true≢false (sym v.0))

-- an infinity and a NaN are none
at_ones : (s b : Bool) → pitch (cond b (inf s) nan) ≡ false
unfolding lt
at_ones true true = refl
at_ones false true = refl
at_ones s false = refl

-- ---- by the fields
fields : (b : ℕ) → of_bits binary32 b ≡ of_fields binary32 (leb (2 ^ 31) b) (b % 2 ^ 31 / 2 ^ 23) (b % 2 ^ 23)
unfolding of_bits
fields b = refl

signed_or_ones : (b c : Bool) (x : Float) → pitch x ≡ false → pitch (cond b (cond c (inf true) nan) x) ≡ false
signed_or_ones true c x h = at_ones true c
signed_or_ones false c x h = h

signed_fields : (g t : ℕ) → pitch (of_fields binary32 true g t) ≡ false
unfolding of_fields
signed_fields zero t = signed (odd 24 true t 0 149) (t * 2 ^ 0) (2 ^ 149) (odd_sign 24 true t 0 149)
signed_fields (suc g) t =
    signed_or_ones (eqb (suc g) 255) (eqb t 0) (odd 24 true (2 ^ 23 + t) g 149)
    (signed (odd 24 true (2 ^ 23 + t) g 149) ((2 ^ 23 + t) * 2 ^ g) (2 ^ 149) (odd_sign 24 true (2 ^ 23 + t) g 149))

ones_fields : (g t : ℕ) → g ≡ 255 → pitch (of_fields binary32 false g t) ≡ false
unfolding of_fields
ones_fields g t e = ap (λ (n : ℕ). pitch (of_fields binary32 false n t)) e ∙ at_ones false (eqb t 0)

ones_field : (b : ℕ) → 2139095040 ≤ b → b < 2147483648 → b % 2147483648 / 8388608 ≡ 255
ones_field b h k = omega arith

high_by : (b : ℕ) (s : Bool) → leb (2 ^ 31) b ≡ s → 2139095040 ≤ b → pitch (of_fields binary32 s (b % 2 ^ 31 / 2 ^ 23) (b % 2 ^ 23)) ≡ false
high_by b true e h = signed_fields (b % 2 ^ 31 / 2 ^ 23) (b % 2 ^ 23)
high_by b false e h = ones_fields (b % 2 ^ 31 / 2 ^ 23) (b % 2 ^ 23) (ones_field b h (leb-false (2 ^ 31) b e))

pub high_pitch : (b : ℕ) → 2139095040 ≤ b → pitch (of_bits binary32 b) ≡ false
high_pitch b h = ap pitch (fields b) ∙ high_by b (leb (2 ^ 31) b) refl h

pub no_pitch : pitch (of_bits binary32 0) ≡ false
unfolding of_bits lt
no_pitch = refl

-- above 0 and below infinity's: with no exponent the digits are not 0
digits : (b : ℕ) → 0 < b → b < 2139095040 → b % 2147483648 / 8388608 ≡ 0 → 0 < b % 8388608 * 1
digits b h k e = omega arith

not_ones : (b g : ℕ) → b < 2139095040 → b % 2147483648 / 8388608 ≡ suc g → suc g ≡ 255 → ⊥
not_ones b g h e k = omega arith

low_by : (b g : ℕ) → 0 < b → b < 2139095040 → b % 2 ^ 31 / 2 ^ 23 ≡ g → pitch (of_fields binary32 false g (b % 2 ^ 23)) ≡ true
unfolding of_fields
low_by b zero h k e = above (odd 24 false (b % 2 ^ 23) 0 149) (b % 2 ^ 23 * 2 ^ 0) (2 ^ 149) (digits b h k e) (odd_sign 24 false (b % 2 ^ 23) 0 149)
low_by b (suc g) h k e =
    let t = b % 2 ^ 23 in
    ap (λ (o : Bool). pitch (cond o (cond (eqb t 0) (inf false) nan) (odd 24 false (2 ^ 23 + t) g 149))) (ne_eqb (suc g) 255 (not_ones b g k e))
    ∙ above (odd 24 false (2 ^ 23 + t) g 149) ((2 ^ 23 + t) * 2 ^ g) (2 ^ 149) (mul-pos (omega arith) (pow_pos g)) (odd_sign 24 false (2 ^ 23 + t) g 149)

pos_sign : (b : ℕ) → b < 2139095040 → leb 2147483648 b ≡ false
pos_sign b h = lt-leb 2147483648 b (omega arith)

pub low_pitch : (b : ℕ) → 0 < b → b < 2139095040 → pitch (of_bits binary32 b) ≡ true
low_pitch b h k =
    ap pitch (fields b)
    ∙ ap (λ (s : Bool). pitch (of_fields binary32 s (b % 2 ^ 31 / 2 ^ 23) (b % 2 ^ 23))) (pos_sign b k)
    ∙ low_by b (b % 2 ^ 31 / 2 ^ 23) h k refl
