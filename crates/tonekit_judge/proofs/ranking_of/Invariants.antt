-- What is left of the loop, from here, gives what the whole gives, and the top is one of the tones.
use Rattle.std.proofs.Common.{◌≡◌, ◌<◌, IfSome, length}
use Rattle.tonekit_core.specs.Loop.{range}
use Rattle.tonekit_judge.proofs.Turns.{rank_turn}
use Rattle.spec_judgement.specs.Judge.{ranking_of}
use Rattle.tonekit_judge.proofs.ranking_of.Given as goal

abbrev pub invariant-loop-t : goal.invariant-loop-t
invariant-loop-t l = record {
  left : range (rank_turn l.inventory l.ll) l.t (length l.inventory.items) l.r ≡ ranking_of l.inventory l.ll;
  below : IfSome l.r.top (λ top. top.index < length l.inventory.items);
}
