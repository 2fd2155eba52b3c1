-- `knots` meets its contract: each number stored is a knot. Assumes nothing.
use Rattle.std.proofs.Common.{◌≡◌, ℕ, ◌+◌, ◌<◌, List, length, get_or, set, ◌∙◌, arith, length-set, get_or-set_other, get_or-set_same, below_more, Float}
use lib.Ieee.{nan}
use Rattle.spec_lookup.specs.Knots.{Knot}
use Rattle.replay.proofs.functions.knots.Goals as goal

stored : (l : List Float) (i : ℕ) (x : Float) → i < 10 → (length l ≡ 10) × ((k : ℕ) → k < i → Knot (get_or l k nan)) → Knot x
    → (length (set l i x) ≡ 10) × ((k : ℕ) → k < i + 1 → Knot (get_or (set l i x) k nan))
stored l i x h p q = (
  length-set l i x ∙ p.0,
  below_more _ _
      (λ k b. let ne : k ≡ i → ⊥ = omega arith in rw (get_or-set_other l i k x nan ne) (p.1 k b))
      (let lt : i < length l = omega arith in rw (get_or-set_same l i x nan lt) q),
)

pub loop-i-preserved : goal.loop-i-preserved
loop-i-preserved c = stored c.loop-i.x-items c.loop-i.i c.knot.result (omega arith) c.loop-i.invariant c.knot.ensures
