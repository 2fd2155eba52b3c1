-- Where a contour point lies: between the first frame or knot and the last, in f64 and small enough for an index.
use Rattle.std.proofs.Common.{ℕ, ◌^◌, ◌≤◌, zero-le, false, T, pos}
use lib.Ieee.{fin, binary64, div, lt, le, round, of_int, of_bits, fits}
use lib.Ieee.Fits.{mul-fits}
use Rattle.spec_arithmetic.specs.Bounds.{In}
use Rattle.tonekit_float.proofs.Monotone.{zero_f}
use Rattle.tonekit_float.proofs.Bounds.{in_div}
use Rattle.tonekit_float.proofs.Exact.{one_f, whole_le}
use Rattle.tonekit_float.proofs.Whole.{share_in, share_lt}
use Rattle.spec_arithmetic.specs.Position.{position}
use Rattle.spec_arithmetic.specs.Constants.{whole64}

ninth : (k : ℕ) → k ≤ 9 → In zero_f one_f (div binary64 (whole64 k) (of_bits binary64 0x4022_0000_0000_0000))
unfolding of_int div of_bits
ninth k h = in_div binary64 (whole64 9) tt tt (record { low = whole_le binary64 0 k zero-le; high = whole_le binary64 k 9 h })

pub whole_nonneg : (n : ℕ) → T (le zero_f (whole64 n))
unfolding of_int round
whole_nonneg n = whole_le binary64 0 n zero-le

pub position_in : (i last : ℕ) → i ≤ 9 → last ≤ 2 ^ 53 → In zero_f (whole64 last) (position i last)
unfolding position
position_in i last h k = share_in (div binary64 (whole64 i) (of_bits binary64 0x4022_0000_0000_0000)) last k (ninth i h)

pub position_fits : (i last : ℕ) → T (fits binary64 (position i last))
unfolding position
position_fits i last = mul-fits binary64 (div binary64 (whole64 i) (of_bits binary64 0x4022_0000_0000_0000)) (whole64 last)

-- below 2 ^ 53, as `floor_index` asks
pub position_lt : (i last : ℕ) → i ≤ 9 → last ≤ 1024 → T (lt (position i last) (fin false 1 (pos 53)))
unfolding position
position_lt i last h k = share_lt (div binary64 (whole64 i) (of_bits binary64 0x4022_0000_0000_0000)) (ninth i h) last k
