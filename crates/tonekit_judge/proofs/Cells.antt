-- What holds of the best so far and of the next holds of the one that leads. Assumes nothing.
use Rattle.std.proofs.Common.{Bool, true, false, cond, IfSome}
use Rattle.std.proofs.Common.{Option, Some, None}
use Rattle.std.specs.Float.Ieee.{lt}
use Rattle.spec_judgement.specs.Score.{led}
use Rattle.spec_judgement.specs.declared.Lead.{Lead}

pub by_bool : (P : Bool → Type 0) (b : Bool) → P true → P false → P b
by_bool P true p q = p
by_bool P false p q = q

-- what holds of the best and of the next holds of the one that leads
pub led_keeps : (P : Lead → Type 0) (best : Option Lead) (next : Lead) → IfSome best P → P next → P (led best next)
led_keeps P None next h k = k
led_keeps P (Some best) next h k = by_bool (λ b. P (cond b next best)) (lt best.score next.score) k h
