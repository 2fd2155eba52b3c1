-- `put_delta` meets its contract: the calls' stores are the definition's.
use Rattle.tonekit_record.proofs.Parts.{delta_fields_parts}
use Rattle.tonekit_record.proofs.put_delta.Goals as goal

pub returns : goal.returns
returns c = delta_fields_parts c.args.out.now c.args.at c.args.d c.kind_of.ensures c.put_u8.ensures c.put_f32.ensures
