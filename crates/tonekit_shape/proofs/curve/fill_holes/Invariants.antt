use Rattle.std.proofs.Common.{◌≡◌, ◌<◌, length}
use Rattle.tonekit_core.specs.Loop.{range}
use Rattle.tonekit_shape.proofs.Turns.{hole_turn}
use Rattle.tonekit_shape.proofs.curve.fill_holes.Given as goal

abbrev pub invariant-loop-j : goal.invariant-loop-j
invariant-loop-j l =
    (l.prev < l.j)
    × (range (hole_turn l.frames.bytes.now l.frames.first) l.j (length l.initial.curve) (record { curve = l.curve; prev = l.prev }) ≡ range (hole_turn l.frames.bytes.now l.frames.first) 1 (length l.initial.curve) (record { curve = l.initial.curve; prev = 0 }))
