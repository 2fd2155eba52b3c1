-- What is left of the loop, from here, gives what the whole gives.
use Rattle.std.proofs.Common.{◌≡◌, true, false, map}
use Rattle.std.specs.Float.{inf}
use Rattle.tonekit_core.specs.Loop.{range}
use Rattle.tonekit_contour.proofs.Turns.{lesser_turn, greater_turn}
use Rattle.tonekit_contour.proofs.range_of.Given as goal

abbrev pub invariant-loop-x : goal.invariant-loop-x
invariant-loop-x g l =
    let f = g.F.AnyFloat.float in
    (range (lesser_turn (map f l.ten)) l.x-index 10 (f l.low) ≡ range (lesser_turn (map f l.ten)) 0 10 (inf false))
    × (range (greater_turn (map f l.ten)) l.x-index 10 (f l.high) ≡ range (greater_turn (map f l.ten)) 0 10 (inf true))
