use Rattle.std.proofs.Common.{rules, ◌<◌, arith}
use Rattle.tonekit_sheet.proofs.Gather.{write_begun, write_room, write_next, write_ended}
use Rattle.tonekit_sheet_write.proofs.Bytes.{component_length}
use Rattle.tonekit_sheet_write.proofs.parts.write_components.Goals as goal
use Rattle.tonekit_sheet_write.proofs.parts.write_components.Goals.{In-loop-j}

pub loop-j-init : goal.loop-j-init
loop-j-init c = (search rules, write_begun _ _ _ _ _ (omega arith))

-- one of the listing's components
inside : (c : In-loop-j) → c.loop-j.j < c.args.c.listing.count
inside c = omega (arith, c.loop-j.invariant.0, c.loop-j-test.true)

pub write_component-o-requires : goal.write_component-o-requires
write_component-o-requires c =
    (inside (goal.at.write_component-o-requires c).In-loop-j, omega (arith, component_length c.args.c.bytes.now c.args.c.listing c.loop-j.j, write_room _ c.loop-j.invariant.1 (inside (goal.at.write_component-o-requires c).In-loop-j) c.requires))

pub loop-j-preserved : goal.loop-j-preserved
loop-j-preserved c =
    (c.loop-j.invariant.0, write_next _ c.loop-j.invariant.1 (inside (goal.at.loop-j-preserved c).In-loop-j) c.write_component-o.ensures)

pub shape_of-out : goal.shape_of-out
shape_of-out c = c.loop-j.invariant.1.size

pub returns : goal.returns
returns c = write_ended _ c.loop-j.invariant.1 (omega (arith, c.loop-j.invariant.0, c.loop-j-test.false))
