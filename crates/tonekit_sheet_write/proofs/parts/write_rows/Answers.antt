use Rattle.std.proofs.Common.{◌<◌, arith}
use Rattle.tonekit_sheet.proofs.Gather.{write_begun, write_room, write_next, write_ended}
use Rattle.spec_sheet.specs.Sheet.{row_count}
use Rattle.tonekit_sheet_write.proofs.parts.write_rows.Goals as goal
use Rattle.tonekit_sheet_write.proofs.parts.write_rows.Goals.{In-loop-i}

pub loop-i-init : goal.loop-i-init
loop-i-init c = (c.row_count-i-end.ensures.0, write_begun _ _ _ _ _ (omega arith))

-- one of the rows
inside : (c : In-loop-i) → let d = c.args.d.now.rows in c.loop-i.i < row_count d.accents.count d.view.pack.tones.count
inside c = omega (arith, c.loop-i.invariant.0, c.loop-i-test.true)

pub write_row-o-requires : goal.write_row-o-requires
write_row-o-requires c =
    omega (arith, write_room _ c.loop-i.invariant.1 (inside (goal.at.write_row-o-requires c).In-loop-i) c.requires)

pub loop-i-preserved : goal.loop-i-preserved
loop-i-preserved c =
    (c.loop-i.invariant.0, write_next _ c.loop-i.invariant.1 (inside (goal.at.loop-i-preserved c).In-loop-i) c.write_row-o.ensures)

pub shape_of-out : goal.shape_of-out
shape_of-out c = c.loop-i.invariant.1.size

pub returns : goal.returns
returns c = write_ended _ c.loop-i.invariant.1 (omega (arith, c.loop-i.invariant.0, c.loop-i-test.false))
