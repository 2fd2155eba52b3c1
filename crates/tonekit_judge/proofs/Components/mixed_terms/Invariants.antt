-- What is left of the loop, from here, gives what the whole gives.
use Rattle.std.proofs.Common.{◌≡◌}
use Rattle.tonekit_core.specs.Loop.{range}
use Rattle.tonekit_judge.specs.Terms.{cell}
use Rattle.tonekit_judge.specs.Terms.{either_turn, mixed_terms}
use Rattle.tonekit_judge.proofs.Components.mixed_terms.Given as goal

abbrev pub invariant-loop-j : goal.invariant-loop-j
invariant-loop-j l =
    range (either_turn l.self.scoring (cell l.self.list) l.t l.share) l.j l.n l.m
    ≡ mixed_terms l.self.scoring (cell l.self.list) l.t l.share l.n l.fn.before
