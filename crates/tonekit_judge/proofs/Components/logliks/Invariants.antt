-- What is left of the loop, from here, gives what the whole gives.
use Rattle.std.proofs.Common.{◌≡◌, length}
use Rattle.tonekit_core.specs.Loop.{range}
use Rattle.tonekit_judge.specs.Terms.{cell}
use Rattle.tonekit_judge.proofs.Turns.{loglik_turn}
use Rattle.spec_judgement.specs.Judge.{logliks}
use Rattle.tonekit_judge.proofs.Components.logliks.Given as goal

abbrev pub invariant-loop-t : goal.invariant-loop-t
invariant-loop-t l =
    (length l.ll ≡ 8) × (range (loglik_turn l.self.scoring l.inventory (cell l.self.list) l.issues) l.t (length l.inventory.items) l.ll ≡ logliks l.self.scoring l.inventory (cell l.self.list) l.issues)
