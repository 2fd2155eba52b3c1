-- so many of the keys so far are below x, and no more than there are
use Rattle.std.proofs.Common.{◌≡◌, ◌≤◌, ltb, take}
use Rattle.std.specs.List.{count_by}
use Rattle.tonekit_rank.proofs.count_below.Given as goal

abbrev pub invariant-loop-key : goal.invariant-loop-key
invariant-loop-key l = (l.n ≤ l.key-index) × (l.n ≡ count_by (λ key. ltb key l.x) (take l.key-index l.keys))
