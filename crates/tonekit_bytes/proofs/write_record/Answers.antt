use Rattle.std.proofs.Common.{refl, rules, length}
use Rattle.tonekit_bytes.proofs.Write.{wrote, refused_short}
use Rattle.tonekit_bytes.proofs.write_record.Goals as goal

pub returns-then-out-bytes : goal.returns-then-out-bytes
returns-then-out-bytes c =
    let a = c.args in
    rw c.at.ensures (refused_short a.bytes.now a.out.now (length a.bytes.now) refl (search rules))

pub returns : goal.returns
returns c =
    let a = c.args in
    wrote a.bytes.now a.out.now _ (length a.bytes.now) refl (search rules) c.put_bytes.ensures
