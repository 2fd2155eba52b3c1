use Rattle.std.proofs.Common.{rules, arith, ◌≡◌, length}
use Rattle.spec_lookup.specs.Source.{carried}
use Rattle.tonekit_sheet_write.proofs.Bytes.{bits_floats}
use Rattle.tonekit_sheet_write.proofs.records.put_component.Goals as goal
use Rattle.tonekit_sheet_write.proofs.records.put_component.Goals.{Start}

-- the points' length, which owning the component tells
ten : (c : Start) → length c.args.c.points ≡ 10
ten c = search rules

pub put_f32s-requires : goal.put_f32s-requires
put_f32s-requires c = omega (arith, ten (goal.at.put_f32s-requires c).Start)

pub returns : goal.returns
unfolding carried
returns c =
    cc (bits_floats c.args.c.points)
