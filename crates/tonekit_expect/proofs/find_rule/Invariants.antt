use Rattle.std.proofs.Common.{◌<◌, ◌-◌, ◌≡◌}
use Rattle.tonekit_core.specs.Loop.{loop_to}
use Rattle.tonekit_pack.specs.Held.{records_of}
use Rattle.std.specs.Prelude.{None}
use Rattle.spec_lookup.specs.Lookup.{climb_turn, find_rule}
use Rattle.tonekit_expect.proofs.find_rule.Given as goal

abbrev pub invariant-loop : goal.invariant-loop
invariant-loop l = record {
  inside : l.a < l.v.pack.accents.count;
  rest : loop_to (climb_turn l.v.bytes.now (records_of l.v.pack) l.c) None (l.v.pack.accents.count - l.counter) l.a ≡ find_rule l.v.bytes.now (records_of l.v.pack) l.c l.i;
}
