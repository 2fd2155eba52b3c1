use Rattle.std.proofs.Common.{◌≡◌, ◌≤◌, length}
use Rattle.tonekit_core.specs.Loop.{range_to}
use Rattle.spec_arithmetic.specs.Places.{index_of}
use Rattle.tonekit_bytes.specs.Places.{stepped, index_turn}
use Rattle.std.specs.Prelude.{None}
use Rattle.tonekit_bytes.proofs.places.index_from.Given as goal

abbrev pub invariant-loop-i : goal.invariant-loop-i
invariant-loop-i l =
    let os = stepped l.o l.step l.count in
    (l.i ≤ l.count) × (range_to (index_turn l.s os l.n) (λ u. None) l.i (length os) 0 ≡ index_of l.s os l.n)
