use Rattle.std.proofs.Common.{refl}
use Rattle.tonekit_sheet_write.proofs.Bytes.{wrote_part}
use Rattle.tonekit_sheet_write.proofs.parts.write_head.Goals as goal

pub returns : goal.returns
returns c = wrote_part _ _ _ _ _ c.requires.2 refl c.put_head.ensures
