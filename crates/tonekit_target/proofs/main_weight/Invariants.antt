use Rattle.std.proofs.Common.{ℕ, ◌≡◌, ◌≤◌, List, Float}
use Rattle.std.specs.Float.{binary32}
use Rattle.std.specs.Float.Ieee.{add}
use Rattle.tonekit_core.specs.Loop.{range}
use Rattle.spec_query.specs.Query.{variant_weight}
use Rattle.spec_arithmetic.specs.Constants.{zero32}
use Rattle.tonekit_target.proofs.main_weight.Given as goal

abbrev sum_turn : List ℕ → ℕ → Float → Float
sum_turn s i t = add binary32 t (variant_weight s i)

abbrev pub invariant-loop-i : goal.invariant-loop-i
invariant-loop-i l =
    (l.i-end ≡ l.n) × (l.i ≤ l.i-end) × (range (sum_turn l.query) l.i l.i-end l.sum ≡ range (sum_turn l.query) 0 l.n zero32)
