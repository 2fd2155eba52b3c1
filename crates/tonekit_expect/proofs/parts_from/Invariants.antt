use Rattle.std.proofs.Common.{◌+◌, ◌-◌, ◌*◌, ◌≤◌, ◌≡◌}
use Rattle.spec_pack.specs.Pack.{parts_from}
use Rattle.tonekit_expect.proofs.parts_from.Given as goal

abbrev pub invariant-loop-n : goal.invariant-loop-n
invariant-loop-n l = (l.n ≤ 4) × (l.n + parts_from (4 - l.n) l.s (l.o + 46 * l.n) ≡ parts_from 4 l.s l.o)
