-- The turns of a judgement's loops, by names. Assumes nothing.
use Rattle.std.proofs.Common.{ℕ, List, get_or, set, Float}
use Rattle.std.specs.Float.{nan, binary64}
use Rattle.std.specs.Float.Ieee.{neg, add}
use Rattle.spec_arithmetic.specs.Narrow.{narrowed}
use Rattle.spec_arithmetic.specs.Log.{ln_of}
use Rattle.spec_judgement.specs.Score.{million}
use Rattle.spec_judgement.specs.Inventory.{Inventory, Targets, entry_at, target_at}
use Rattle.spec_judgement.specs.Tail.{tail_loglik, with_tail}
use Rattle.spec_judgement.specs.Judge.{loglik_at, ranked, part_mixing}
use Rattle.tonekit_judge.specs.Terms.{count_at}
use Rattle.spec_judgement.specs.declared.Scoring.{Scoring}
use Rattle.spec_judgement.specs.declared.Component.{Component}
use Rattle.spec_judgement.specs.declared.Mixing.{Mixing}
use Rattle.spec_judgement.specs.declared.Ranking.{Ranking}

abbrev pub loglik_turn : Scoring → Inventory → (ℕ → ℕ → Component) → ℕ → ℕ → List Float → List Float
loglik_turn s i c issues t ll = set ll t (with_tail (loglik_at s c (count_at i t) t) (tail_loglik (entry_at i t) issues))

abbrev pub rank_turn : Inventory → List Float → ℕ → Ranking → Ranking
rank_turn i ll t r = ranked r t (add binary64 (ln_of (entry_at i t).prior) (get_or ll t nan))

abbrev pub target_turn : Scoring → Inventory → (ℕ → ℕ → Component) → Targets → ℕ → Mixing → Mixing
target_turn s i c g k m = part_mixing s c (count_at i (target_at g k).place) (target_at g k).place (target_at g k).weight m

abbrev pub lowest_turn : ℕ → List Float → List Float
lowest_turn t ll = set ll t (narrowed (neg million))
