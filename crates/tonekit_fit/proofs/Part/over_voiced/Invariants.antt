use Rattle.std.proofs.Common.{◌≡◌, ◌<◌, ◌^◌, ℕ, length, Float}
use Rattle.tonekit_core.specs.Loop.{range}
use Rattle.spec_shape.specs.Fit.{walk}
use Rattle.tonekit_fit.specs.Lent.{lent_part}
use Rattle.tonekit_fit.proofs.Pairs.{voiced_step}
use Rattle.tonekit_fit.proofs.Part.over_voiced.Given as goal

-- the walk from here on ends where the whole ends
abbrev pub invariant-loop-j : goal.invariant-loop-j
invariant-loop-j g l =
    goal.F-IsAlwaysCallable g l.step
    × ((f : _ → ℕ → Float → _) → ((s : _) (j : ℕ) (y : Float) (r : _) → j < 2 ^ 60 → goal.F-post g l.step s j y r → r ≡ f s j y) → range (voiced_step (lent_part l.self) f) l.j (length l.self.chao.now) l.state ≡ walk (lent_part l.self) f l.fn.start)
