-- A log-likelihood with a tail is a clamped number, or as it was. Assumes nothing.
use Rattle.std.proofs.Common.{Bool, true, false, cond, Float}
use Rattle.std.specs.Float.{binary64}
use Rattle.std.specs.Float.Ieee.{add, eq}
use Rattle.spec_arithmetic.specs.Constants.{zero32}
use Rattle.spec_judgement.specs.Score.{clamp_log}
use Rattle.spec_judgement.specs.Tail.{with_tail}

-- what holds of every clamped number and of a log-likelihood holds of that with a tail: bounds, for one
module _ (P : Float → Type 0) (clamped : (v : Float) → P (clamp_log v)) (ll : Float) (before : P ll) where
  either : (none : Bool) (v : Float) → P (cond none ll (clamp_log v))
  either true v = before
  either false v = clamped v

  pub with_tail_keeps : (tail : Float) → P (with_tail ll tail)
  unfolding with_tail
  with_tail_keeps tail = either (eq tail zero32) (add binary64 ll tail)
