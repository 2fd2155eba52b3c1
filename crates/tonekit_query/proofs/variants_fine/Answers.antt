use Rattle.std.proofs.Common.{ℕ, zero, suc, ◌+◌, ◌-◌, ◌≡◌, refl, sym, ◌∙◌, false, List, rules}
use Rattle.tonekit_core.specs.Loop.{range, turns}
use Rattle.tonekit_core.proofs.LoopLaws.{again, ended}
use Rattle.spec_query.specs.Query.{variants_fine}
use Rattle.tonekit_query.proofs.VariantTurn.{variant_turn}
use Rattle.tonekit_query.proofs.variants_fine.Goals as goal

-- one that is not fine decides
lost_on : (s : List ℕ) (k i : ℕ) → turns (variant_turn s) k i false ≡ false
unfolding turns
lost_on s zero i = refl
lost_on s (suc k) i = lost_on s k (i + 1)

lost : (s : List ℕ) (i hi : ℕ) → range (variant_turn s) i hi false ≡ false
unfolding range
lost s i hi = lost_on s (hi - i) i

pub loop-i-init : goal.loop-i-init
unfolding variants_fine
loop-i-init c = refl

pub returns-then-not-variant_fine : goal.returns-then-not-variant_fine
returns-then-not-variant_fine c =
    let s = c.args.query.now in
    sym (lost s (c.loop-i.i + 1) 4) ∙ again (variant_turn s) {t = false} c.loop-i.invariant (search rules) (sym c.variant_fine.ensures ∙ c.if-not-variant_fine.true)

pub loop-i-preserved : goal.loop-i-preserved
loop-i-preserved c =
    let s = c.args.query.now in
    again (variant_turn s) c.loop-i.invariant (search rules) (sym c.variant_fine.ensures ∙ c.if-not-variant_fine.false)

pub returns : goal.returns
returns c = ended (variant_turn c.args.query.now) c.loop-i.invariant (search rules)
