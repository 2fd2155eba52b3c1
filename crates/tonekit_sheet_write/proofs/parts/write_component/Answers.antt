use Rattle.std.proofs.Common.{arith}
use Rattle.tonekit_sheet_write.proofs.Bytes.{wrote_part, wrote_as, component_is, component_size}
use Rattle.tonekit_sheet_write.proofs.parts.write_component.Goals as goal

pub returns : goal.returns
returns c =
    let a = c.args.c in
    let n = component_size a.bytes.now a.listing c.args.j c.component.ensures in
    wrote_as (component_is a.bytes.now a.listing c.args.j c.component.ensures) (wrote_part _ _ _ _ _ (omega (arith, n, c.requires.1)) (omega (arith, n)) c.put_component.ensures)
