-- the first n keys are those of the voiced frames so far
use Rattle.tonekit_register.proofs.KeyLists.{Filled}
use Rattle.tonekit_register.proofs.voiced_percentiles.Given as goal

abbrev pub invariant-loop-i : goal.invariant-loop-i
invariant-loop-i l = Filled l.frames l.keys l.n l.i
