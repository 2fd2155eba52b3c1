use Rattle.std.proofs.Common.{ℕ, ◌≡◌, ◌≤◌, List, Bool}
use Rattle.std.specs.Prelude.{◌&&◌}
use Rattle.tonekit_core.specs.Loop.{range}
use Rattle.spec_query.specs.Query.{variant_weight}
use Rattle.spec_judgement.specs.Target.{variant_weight_good, variant_weights_good}
use Rattle.tonekit_target.proofs.variant_weights_good.Given as goal

abbrev weight_turn : List ℕ → ℕ → Bool → Bool
weight_turn s i ok = ok && variant_weight_good (variant_weight s i)

abbrev pub invariant-loop-i : goal.invariant-loop-i
invariant-loop-i l =
    (l.i-end ≡ l.n) × (l.i ≤ l.i-end) × (range (weight_turn l.query) l.i l.i-end l.ok ≡ variant_weights_good l.query l.n)
