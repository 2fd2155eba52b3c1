-- The slots below the next one have the components that are there.
use Rattle.std.proofs.Common.{◌≡◌, ◌+◌, ◌*◌, ◌≤◌, length}
use Rattle.tonekit_judge.specs.Terms.{Filled}
use Rattle.spec_judgement.specs.Judge.{component_at}
use Rattle.tonekit_judge.proofs.fill.Given as goal

abbrev pub invariant-loop-j : goal.invariant-loop-j
invariant-loop-j l = record {
  few : l.j ≤ l.j-end;
  room : length l.list ≡ 32;
  filled : Filled (component_at l.x l.s l.inventory l.slots) l.inventory (4 * l.t + l.j) l.list;
}

abbrev pub invariant-loop-t : goal.invariant-loop-t
invariant-loop-t l = record {
  room : length l.list ≡ 32;
  filled : Filled (component_at l.x l.s l.inventory l.slots) l.inventory (4 * l.t) l.list;
}
