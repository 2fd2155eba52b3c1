use Rattle.std.proofs.Common.{ap}
use Rattle.tonekit_sheet.proofs.Gather.{write_room, write_next, write_ended}
use Rattle.tonekit_sheet_write.proofs.Bytes.{wrote_as}
use Rattle.tonekit_sheet_write.proofs.parts.write_records.Goals as goal

pub write_record-next-requires : goal.write_record-next-requires
write_record-next-requires g c = rw c.from.ensures (write_room _ c.loop-o.invariant c.loop-o-test.true c.requires)

pub loop-o-preserved : goal.loop-o-preserved
loop-o-preserved g c =
    write_next _ c.loop-o.invariant c.loop-o-test.true (wrote_as (ap (g.R.Record.made c.args.s.now) c.from.ensures) c.write_record-next.ensures)

pub returns : goal.returns
returns g c = write_ended _ c.loop-o.invariant c.loop-o-test.false
