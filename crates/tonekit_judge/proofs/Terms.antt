-- A turn of a mixture is its term mixed in, where that counts. Assumes nothing.
use Rattle.std.proofs.Common.{ℕ, ◌+◌, ◌*◌, ◌≡◌, refl, cond, Float}
use Rattle.std.proofs.Common.{Option, Some, None}
use Rattle.std.specs.Float.{binary32, binary64}
use Rattle.std.specs.Float.Ieee.{add, mul, le, lt}
use Rattle.spec_arithmetic.specs.Log.{ln_of}
use Rattle.spec_arithmetic.specs.Constants.{zero32}
use Rattle.spec_judgement.specs.Score.{log_of, mixed, mix_turn}
use Rattle.tonekit_score.specs.Terms.{term_of}
use Rattle.spec_judgement.specs.declared.Scoring.{Scoring}
use Rattle.spec_judgement.specs.declared.Mixing.{Mixing}
use Rattle.spec_judgement.specs.declared.Term.{Term}
use Rattle.spec_judgement.specs.declared.Component.{Component}
use Rattle.spec_judgement.specs.Judge.{weighed}
use Rattle.tonekit_judge.specs.Terms.{weighed_term, term_at, either_turn}
use Rattle.tonekit_judge.proofs.Cells.{by_bool}

abbrev pub mix_in : Mixing → ℕ → Option Term → Mixing
mix_in m i None = m
mix_in m i (Some term) = mixed m i term.score term.distance

module _ (s : Scoring) (m : Mixing) (i : ℕ) (w d2 : Float) where
  one : mix_in m i (term_of s w d2) ≡ mix_turn s m i w d2
  unfolding term_of mix_turn
  one =
      by_bool (λ b. mix_in m i (cond b None (Some (record { score = add binary64 (ln_of w) (log_of s d2); distance = d2 }))) ≡ cond b m (mixed m i (add binary64 (ln_of w) (log_of s d2)) d2))
      (le w zero32) refl refl

  one_weighed : mix_in m i (weighed_term s w d2) ≡ weighed s m i w d2
  unfolding weighed_term weighed
  one_weighed = by_bool (λ b. mix_in m i (cond b (term_of s w d2) None) ≡ cond b (mix_turn s m i w d2) m) (lt zero32 w) one refl

module _ (s : Scoring) (c : ℕ → ℕ → Component) (t j : ℕ) (m : Mixing) where
  pub one_term : (share : Option Float) → mix_in m (4 * t + j) (term_at s c t share j) ≡ either_turn s c t share j m
  unfolding term_at
  one_term None = one s m (4 * t + j) (c t j).weight (c t j).distance
  one_term (Some share) = one_weighed s m (4 * t + j) (mul binary32 (c t j).weight share) (c t j).distance
