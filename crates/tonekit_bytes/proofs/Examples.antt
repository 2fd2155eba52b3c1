-- Worked examples of fields, by computing. -1,000,000 is the llr of document 01's bench record, "00 24 74 C9". Assumes nothing.
use Rattle.std.proofs.Common.{◌≡◌, refl, true, false, List, [], ◌∷◌, ℕ, pos, negsuc, Float}
use lib.Ieee.{nan, inf, fin, of_bits, to_bits}
use Rattle.spec_arithmetic.specs.Fields.{byte_at, u16_at, u32_at, f32_at, f32_bytes, f32s_bytes}

abbrev five : List ℕ
five = 1 ∷ 2 ∷ 3 ∷ 4 ∷ 5 ∷ []

abbrev million : Float
million = fin true 15625 (pos 6)

-- reads: within the bytes, across their end, past it
whole : (u16_at five 0 ≡ 513) × (u32_at five 1 ≡ 84148994)
whole = (refl, refl)

across : (u16_at five 4 ≡ 5) × (u32_at five 2 ≡ 328707) × (u32_at five 3 ≡ 1284)
across = (refl, refl, refl)

past : (byte_at five 5 ≡ 0) × (u32_at five 5 ≡ 0)
past = (refl, refl)

-- floats: the bench record's, both infinities' neighbour patterns, and what is written of a NaN
floats : (f32_at (0 ∷ 36 ∷ 116 ∷ 201 ∷ []) 0 ≡ million) × (f32_bytes million ≡ 0 ∷ 36 ∷ 116 ∷ 201 ∷ [])
unfolding of_bits to_bits
floats = (refl, refl)

nans : (f32_at (0 ∷ 0 ∷ 128 ∷ 127 ∷ []) 0 ≡ inf false) × (f32_at (1 ∷ 0 ∷ 128 ∷ 255 ∷ []) 0 ≡ nan) × (f32_bytes nan ≡ 0 ∷ 0 ∷ 192 ∷ 127 ∷ [])
unfolding of_bits to_bits
nans = (refl, refl, refl)

run : f32s_bytes (fin true 0 (pos 0) ∷ fin false 3 (negsuc 0) ∷ []) ≡ 0 ∷ 0 ∷ 0 ∷ 128 ∷ 0 ∷ 0 ∷ 192 ∷ 63 ∷ []
unfolding to_bits f32s_bytes
run = refl
