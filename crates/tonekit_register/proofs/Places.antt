-- A percentile of keys is that of the f32s in ascending order: its two ranks are places among the keys. Assumes nothing.
use Rattle.std.proofs.Common.{ℕ, ◌+◌, ◌-◌, ◌≤◌, ◌<◌, ◌≡◌, refl, T, false, pos, min, List, length, get_or, arith, Float}
use lib.Ieee.{nan, fin, binary64, add, sub, mul, lt, le, of_bits}
use Rattle.std.proofs.lemmas.List.{get_or-map, length-map}
use Rattle.spec_arithmetic.specs.Bounds.{In}
use Rattle.spec_arithmetic.specs.Constants.{zero64, one64, whole64}
use Rattle.spec_arithmetic.specs.Whole.{whole_part}
use Rattle.spec_shape.specs.Register.{percentile}
use Rattle.tonekit_float.proofs.Monotone.{zero_f}
use Rattle.tonekit_float.proofs.Exact.{one_f}
use Rattle.tonekit_float.proofs.Whole.{share_in, share_lt, share_part}
use Rattle.tonekit_rank.specs.Rank.{value_of, sorted}
use Rattle.tonekit_rank.proofs.Order.{length_sorted}
use Rattle.tonekit_register.specs.Keys.{ascending_values}

pub share : (p : Float) → In zero64 one64 p → In zero_f one_f p
unfolding of_bits
share p h = h

pub length_values : (keys : List ℕ) → length (ascending_values keys) ≡ length keys
length_values keys = omega (arith, length-map (sorted keys) value_of, length_sorted keys)

value_at : (keys : List ℕ) (k : ℕ) → k < length keys → get_or (ascending_values keys) k nan ≡ value_of (get_or (sorted keys) k 0)
value_at keys k h = get_or-map value_of (sorted keys) k 0 nan (omega (arith, length_sorted keys))

-- ---- the rank of percentile p
module _ (keys : List ℕ) (some : 0 < length keys) (few : length keys ≤ 1024) (p : Float) (h : In zero64 one64 p) where
  abbrev rank : Float
  rank = mul binary64 p (whole64 (length keys - 1))

  pub rank_low : T (le zero_f rank)
  rank_low = (share_in p (length keys - 1) (omega arith) (share p h)).low

  pub rank_lt : T (lt rank (fin false 1 (pos 53)))
  rank_lt = share_lt p (share p h) (length keys - 1) (omega arith)

  pub place_lt : whole_part rank < length keys
  place_lt = let e = share_part p (share p h) (length keys - 1) (omega arith) in omega arith

-- what the code computes from the values at two ranks
pub by_ranks : (keys : List ℕ) (p : Float) {lo hi : ℕ} {last at low high : Float} → last ≡ whole64 (length keys - 1) → lo ≡ whole_part (mul binary64 p last)
    → hi ≡ min (lo + 1) (length keys - 1) → at ≡ whole64 lo → lo < length keys → low ≡ value_of (get_or (sorted keys) lo 0) → high ≡ value_of (get_or (sorted keys) hi 0)
    → add binary64 low (mul binary64 (sub binary64 (mul binary64 p last) at) (sub binary64 high low)) ≡ percentile (ascending_values keys) p
unfolding percentile
by_ranks keys p {lo} {hi} last_is lo_is hi_is at_is h low_is high_is =
    let hi_lt : hi < length keys = omega arith in
    rw (length_values keys, ← last_is, ← lo_is, ← hi_is, ← at_is, value_at keys lo h, value_at keys hi hi_lt, ← low_is, ← high_is) refl
