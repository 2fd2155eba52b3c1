-- What is left of the loop, from here, gives what the whole gives, and the targets so far are placed.
use Rattle.std.proofs.Common.{◌≡◌, ◌+◌, ◌≤◌, Ok, length}
use Rattle.tonekit_core.specs.Loop.{range_to}
use Rattle.spec_judgement.specs.Asked.{TargetsHeld}
use Rattle.spec_judgement.specs.Target.{main_weight, targets_of}
use Rattle.tonekit_target.proofs.Places.{aim_turn}
use Rattle.tonekit_target.proofs.targets_of.Given as goal

abbrev pub invariant-loop-i : goal.invariant-loop-i
invariant-loop-i l = record {
  few : l.i ≤ l.variants;
  so_many : length l.g.items ≡ l.i + 1;
  placed : TargetsHeld (length l.inventory.items) l.g;
  left : range_to (aim_turn l.inventory l.query l.tone (main_weight l.query l.variants)) Ok (l.i + 1) (l.variants + 1) l.g ≡ targets_of l.inventory l.query l.tone l.variants;
}
