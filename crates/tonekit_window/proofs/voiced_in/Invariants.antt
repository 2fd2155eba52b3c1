use Rattle.std.proofs.Common.{◌≡◌, ◌+◌, ◌≤◌}
use Rattle.tonekit_core.specs.Loop.{range}
use Rattle.tonekit_window.specs.Promises.{voiced_in}
use Rattle.tonekit_window.proofs.Count.{count_turn}
use Rattle.tonekit_window.proofs.voiced_in.Given as goal

abbrev pub invariant-loop-j : goal.invariant-loop-j
invariant-loop-j l =
    (l.count ≤ l.j) × (range (count_turn l.frames.bytes.now l.frames.first) l.j (l.fn.within.to + 1) l.count ≡ voiced_in l.frames.bytes.now l.frames.first l.fn.within)
