-- The ranges of fields in a list of bytes, and what stands past its end. Assumes nothing.
use Rattle.std.proofs.Common.{◌≡◌, List, ℕ, ◌+◌, ◌≤◌, ◌<◌, arith, length}
use lib.ListN.{get_or-eq_default}
use Rattle.spec_arithmetic.specs.Fields.{byte_at, u16_at, u32_at}

-- every element is a byte: what `shared-slice-known.given` says of a slice of u8
abbrev pub Bytes : List ℕ → Type 0
Bytes s = (i : ℕ) → byte_at s i < 256

pub byte_past : (s : List ℕ) (i : ℕ) → length s ≤ i → byte_at s i ≡ 0
byte_past s i h = get_or-eq_default s 0 h

pub u16_below : (s : List ℕ) → Bytes s → (i : ℕ) → u16_at s i < 65536
u16_below s b i = omega (arith, b i, b (i + 1))

pub u32_below : (s : List ℕ) → Bytes s → (i : ℕ) → u32_at s i < 4294967296
u32_below s b i = omega (arith, u16_below s b i, u16_below s b (i + 2))
