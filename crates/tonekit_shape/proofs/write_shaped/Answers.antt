-- Fewer than 3 voiced frames are refused.
use Rattle.tonekit_core.proofs.Calls.{delivers_refused}
use Rattle.spec_shape.specs.Register.{in_register}
use Rattle.tonekit_shape.proofs.Outcomes.{few_voiced}
use Rattle.tonekit_shape.proofs.write_shaped.Goals as goal

pub returns-then-e-lt3 : goal.returns-then-e-lt3
returns-then-e-lt3 c =
    let v = c.voiced_frames-e in
    rw c.at.ensures (delivers_refused _ _ _ _ (few_voiced _ c.args.q (in_register c.args.frames.now c.args.q) v.result v.ensures.is c.if-e-lt3.true))
