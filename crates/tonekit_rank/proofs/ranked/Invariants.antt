-- the key sought has the bits found so far
use Rattle.tonekit_rank.proofs.Halving.{Sought}
use Rattle.tonekit_rank.proofs.ranked.Given as goal

abbrev pub invariant-loop-bit : goal.invariant-loop-bit
invariant-loop-bit l = Sought l.keys l.k l.key l.bit
