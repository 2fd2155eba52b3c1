use Rattle.std.proofs.Common.{◌≡◌, ◌<◌, ◌+◌, ◌*◌, ℕ, length, get_or}
use lib.Ieee.{nan}
use Rattle.spec_arithmetic.specs.Fields.{f32_at}
use Rattle.tonekit_sheet_inventory.proofs.ten_at.Given as goal

abbrev pub invariant-loop-k : goal.invariant-loop-k
invariant-loop-k l = (length l.x-items ≡ 10) × ((i : ℕ) → i < l.k → get_or l.x-items i nan ≡ f32_at l.s (l.o + 4 * i))
