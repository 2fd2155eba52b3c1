-- The code's loop: the key sought lies from the one found so far on, and before that one and the bits that are left. Assumes nothing.
use Rattle.std.proofs.Common.{ℕ, zero, suc, ◌+◌, ◌^◌, ◌≤◌, ◌<◌, ◌≡◌, sym, List, length, get_or, arith}
use lib.Dec.{lit≤}
use Rattle.tonekit_rank.specs.Rank.{sorted}
use Rattle.tonekit_rank.proofs.Order.{count_below, count_none, count_all, count_sorted, sorted_up, at_place}

pub record Sought (l : List ℕ) (k key bit : ℕ) : Type 0 where
  pub room : key + 2 ^ bit ≤ 2 ^ 32
  pub low : count_below l key ≤ k
  pub high : k < count_below l (key + 2 ^ bit)

pub sought_start : (l : List ℕ) (k : ℕ) → k < length l → ((i : ℕ) → get_or l i 0 < 2 ^ 32) → Sought l k 0 32
sought_start l k h fits = record { room = lit≤ tt; low = omega (arith, count_none l); high = omega (arith, count_all l (2 ^ 32) fits) }

-- no bit is left
pub found : (l : List ℕ) (k key bit : ℕ) → Sought l k key bit → bit ≤ 0 → key ≡ get_or (sorted l) k 0
found l k key zero s h = sym (at_place (sorted l) key (sorted_up l) k (omega (arith, s.low, count_sorted l key)) (omega (arith, s.high, count_sorted l (key + 1))))
found l k key (suc bit) s h = absurd (omega arith)
