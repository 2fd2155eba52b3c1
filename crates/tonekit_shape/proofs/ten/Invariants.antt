use Rattle.std.proofs.Common.{ℕ, ◌<◌, ◌≡◌, Float}
use Rattle.tonekit_shape.proofs.Fill.{Listed}
use Rattle.tonekit_shape.proofs.ten.Given as goal

abbrev pub invariant-loop-k : goal.invariant-loop-k
invariant-loop-k g l =
    (f : ℕ → Float) → ((k : ℕ) (x : Float) → k < 10 → goal.F-post g l.f k x → x ≡ f k) → Listed f l.initial.x-items l.k l.x-items
