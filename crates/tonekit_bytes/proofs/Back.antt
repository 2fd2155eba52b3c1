-- A field and its bytes, there and back: what was written is read, and what was read is written. Assumes nothing.
use Rattle.std.proofs.Common.{ℕ, ◌+◌, ◌*◌, ◌/◌, ◌%◌, ◌<◌, ◌≡◌, sym, ap, ◌∙◌, [], ◌∷◌, mod-eq_of_lt, arith}
use native.Mathlib.Nat.{div-div-eq-div-mul, div-add-mod}
use Rattle.spec_arithmetic.specs.Fields.{u16_at, u32_at, le16, le32}

pub le16_back : (v : ℕ) → v < 65536 → u16_at (le16 v) 0 ≡ v
le16_back v h = omega arith

digits : (v p q r a b c d : ℕ) → 256 * p + a ≡ v → 256 * q + b ≡ p → 256 * r + c ≡ q → d ≡ r → a + 256 * b + 65536 * (c + 256 * d) ≡ v
digits v p q r a b c d e f g h = omega arith

pub le32_back : (v : ℕ) → v < 4294967296 → u32_at (le32 v) 0 ≡ v
le32_back v h =
    let top : v / 16777216 < 256 = omega arith in
    digits v (v / 256) (v / 65536) (v / 16777216) (v % 256) (v / 256 % 256) (v / 65536 % 256) (v / 16777216 % 256)
    (div-add-mod v 256)
    (ap (λ (q : ℕ). 256 * q + v / 256 % 256) (sym (div-div-eq-div-mul v 256 256)) ∙ div-add-mod (v / 256) 256)
    (ap (λ (q : ℕ). 256 * q + v / 65536 % 256) (sym (div-div-eq-div-mul v 65536 256)) ∙ div-add-mod (v / 65536) 256)
    (mod-eq_of_lt top)

module _ (x y : ℕ) (a : x < 256) (b : y < 256) where
  low : (x + 256 * y) % 256 ≡ x
  low = omega arith

  high : (x + 256 * y) / 256 % 256 ≡ y
  high = omega arith

  pub le16_of : le16 (x + 256 * y) ≡ x ∷ y ∷ []
  le16_of = rw (low, high)

module _ (x y z w : ℕ) (a : x < 256) (b : y < 256) (c : z < 256) (d : w < 256) where
  first : (x + 256 * y + 65536 * (z + 256 * w)) % 256 ≡ x
  first = omega arith

  second : (x + 256 * y + 65536 * (z + 256 * w)) / 256 % 256 ≡ y
  second = omega arith

  third : (x + 256 * y + 65536 * (z + 256 * w)) / 65536 % 256 ≡ z
  third = omega arith

  fourth : (x + 256 * y + 65536 * (z + 256 * w)) / 16777216 % 256 ≡ w
  fourth = omega arith

  pub le32_of : le32 (x + 256 * y + 65536 * (z + 256 * w)) ≡ x ∷ y ∷ z ∷ w ∷ []
  le32_of = rw (first, second, third, fourth)
