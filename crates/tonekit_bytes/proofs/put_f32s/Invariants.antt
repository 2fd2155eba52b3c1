use Rattle.std.proofs.Common.{◌≡◌, length, take}
use Rattle.std.proofs.lemmas.List.Edits.{sets}
use Rattle.spec_arithmetic.specs.Fields.{f32s_bytes}
use Rattle.tonekit_bytes.proofs.put_f32s.Given as goal

abbrev pub invariant-loop-i : goal.invariant-loop-i
invariant-loop-i l = record {
  size : length l.out ≡ length l.initial.out;
  written : l.out ≡ sets l.initial.out l.at (f32s_bytes (take l.i l.xs));
}
