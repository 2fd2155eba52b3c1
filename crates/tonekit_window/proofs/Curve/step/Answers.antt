use Rattle.std.proofs.Common.{sym, ◌∙◌, ap, arith}
use Rattle.spec_arithmetic.specs.Whole.{whole_part}
use Rattle.tonekit_float.proofs.Whole.{part_whole}
use Rattle.tonekit_window.proofs.Walk.{step_whole}
use Rattle.tonekit_window.proofs.Curve.step.Goals as goal

pub between-requires : goal.between-requires
between-requires c = sym (ap whole_part c.requires.0 ∙ part_whole c.args.frame (omega arith))

pub returns : goal.returns
returns c =
    c.moved-2.ensures ∙ step_whole _ _ _ _ c.args.frame c.requires.0 c.requires.1 c.if-b-next.false c.between.ensures
