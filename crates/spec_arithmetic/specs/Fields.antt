-- "Integers are little-endian, floats IEEE 754 bits": fields in a list of bytes, 0 past its end, and the bytes of a field.
use Rattle.std.specs.Prelude.{ℕ, ◌+◌, ◌*◌, ◌/◌, ◌%◌, List, [], ◌∷◌, ◌++◌, get_or, Float}
use Rattle.std.specs.Float.{binary32}
use Rattle.std.specs.Float.Ieee.{of_bits, to_bits}

-- the byte at index i, and the number that two, and four, bytes from there stand for
abbrev pub byte_at : List ℕ → ℕ → ℕ
byte_at s i = get_or s i 0

abbrev pub u16_at : List ℕ → ℕ → ℕ
u16_at s i = byte_at s i + 256 * byte_at s (i + 1)

abbrev pub u32_at : List ℕ → ℕ → ℕ
u32_at s i = u16_at s i + 65536 * u16_at s (i + 2)

-- the float of the four bytes from index i
abbrev pub f32_at : List ℕ → ℕ → Float
f32_at s i = of_bits binary32 (u32_at s i)

-- the bytes of a number below 2 ^ 16, and of one below 2 ^ 32
abbrev pub le16 : ℕ → List ℕ
le16 v = v % 256 ∷ v / 256 % 256 ∷ []

abbrev pub le32 : ℕ → List ℕ
le32 v = v % 256 ∷ v / 256 % 256 ∷ v / 65536 % 256 ∷ v / 16777216 % 256 ∷ []

-- the bytes of a float ("NaN is written 0x7FC00000"), and of floats one after the other
abbrev pub f32_bytes : Float → List ℕ
f32_bytes x = le32 (to_bits binary32 x)

unfoldable pub f32s_bytes : List Float → List ℕ
f32s_bytes [] = []
f32s_bytes (x ∷ xs) = f32_bytes x ++ f32s_bytes xs
