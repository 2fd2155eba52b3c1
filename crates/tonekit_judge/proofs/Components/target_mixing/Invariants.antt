-- What is left of the loop, from here, gives what the whole gives.
use Rattle.std.proofs.Common.{◌≡◌, length}
use Rattle.tonekit_core.specs.Loop.{range}
use Rattle.spec_judgement.specs.Score.{no_mixing}
use Rattle.tonekit_judge.specs.Terms.{cell}
use Rattle.tonekit_judge.proofs.Turns.{target_turn}
use Rattle.tonekit_judge.proofs.Components.target_mixing.Given as goal

abbrev pub invariant-loop-target : goal.invariant-loop-target
invariant-loop-target l =
    range (target_turn l.self.scoring l.inventory (cell l.self.list) l.g) l.target-index (length l.g.items) l.m
    ≡ range (target_turn l.self.scoring l.inventory (cell l.self.list) l.g) 0 (length l.g.items) no_mixing
