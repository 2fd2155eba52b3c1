use Rattle.std.proofs.Common.{◌≡◌, true}
use Rattle.tonekit_core.specs.Loop.{range}
use Rattle.spec_query.specs.Query.{variants_fine}
use Rattle.tonekit_query.proofs.VariantTurn.{variant_turn}
use Rattle.tonekit_query.proofs.variants_fine.Given as goal

abbrev pub invariant-loop-i : goal.invariant-loop-i
invariant-loop-i l = range (variant_turn l.query) l.i 4 true ≡ variants_fine l.query
