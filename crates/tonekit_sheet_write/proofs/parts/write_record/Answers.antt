use Rattle.std.proofs.Common.{refl}
use Rattle.tonekit_sheet_write.proofs.Bytes.{wrote_part}
use Rattle.tonekit_sheet_write.proofs.parts.write_record.Goals as goal

pub returns : goal.returns
returns g c = wrote_part _ _ _ _ _ c.requires (rw c.put.ensures.size refl) c.put.ensures.front
