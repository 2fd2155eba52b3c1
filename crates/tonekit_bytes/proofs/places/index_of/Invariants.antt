use Rattle.std.proofs.Common.{◌≡◌, length, None}
use Rattle.tonekit_core.specs.Loop.{range_to}
use Rattle.spec_arithmetic.specs.Places.{index_of}
use Rattle.tonekit_bytes.specs.Places.{index_turn}
use Rattle.tonekit_bytes.proofs.places.index_of.Given as goal

abbrev pub invariant-loop-i : goal.invariant-loop-i
invariant-loop-i l = range_to (index_turn l.s l.at l.n) (λ u. None) l.i (length l.at) 0 ≡ index_of l.s l.at l.n
