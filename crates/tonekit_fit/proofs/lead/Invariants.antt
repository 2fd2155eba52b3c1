use Rattle.std.proofs.Common.{◌≡◌}
use Rattle.tonekit_core.specs.Loop.{range_to}
use Rattle.spec_shape.specs.Fit.{first_unknown, lead_of}
use Rattle.tonekit_fit.proofs.Turns.{column_turn}
use Rattle.tonekit_fit.proofs.lead.Given as goal

abbrev pub invariant-loop-col : goal.invariant-loop-col
invariant-loop-col l = range_to column_turn first_unknown l.col 3 l.m ≡ lead_of l.initial.m
