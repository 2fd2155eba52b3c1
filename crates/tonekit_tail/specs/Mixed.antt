-- `target_tail_loglik` where there are variants and a tail, apart from its test, and the turns of its loop.
use Rattle.std.specs.Prelude.{ℕ, length, Float}
use Rattle.tonekit_core.specs.Loop.{range}
use Rattle.spec_arithmetic.specs.Narrow.{narrowed}
use Rattle.spec_judgement.specs.Score.{empty, add_to, value_of}
use Rattle.spec_judgement.specs.Inventory.{Inventory, Targets, target_at}
use Rattle.spec_judgement.specs.Tail.{tail_term}
use Rattle.spec_judgement.specs.declared.LogSumExp.{LogSumExp}

abbrev pub tail_turn : Inventory → Targets → ℕ → ℕ → LogSumExp → LogSumExp
tail_turn i g issues k sum = add_to sum (tail_term i issues (target_at g k))

unfoldable pub mixed_tail : Inventory → Targets → ℕ → Float
mixed_tail i g issues =
    let variants = range (tail_turn i g issues) 1 (length g.items) empty in
    narrowed (value_of (add_to variants (tail_term i issues (target_at g 0))))
