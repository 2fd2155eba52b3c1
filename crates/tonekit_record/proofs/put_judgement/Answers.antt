-- `put_judgement` meets its contract: the calls' stores are the definition's.
use Rattle.std.proofs.Common.{◌≡◌, rules, arith, length}
use Rattle.tonekit_record.proofs.Parts.{fields_parts}
use Rattle.tonekit_record.proofs.put_judgement.Goals as goal
use Rattle.tonekit_record.proofs.put_judgement.Goals.{Start}

-- the array's length, which owning the record tells
eight : (c : Start) → length c.args.j.loglik ≡ 8
eight c = search rules

pub returns : goal.returns
returns c =
    fields_parts c.args.expected c.args.tones c.args.j (eight (goal.at.returns c).Start) c.args.out.now
    c.put_head.ensures c.put_f32s.ensures c.put_scores.ensures c.put_deltas.ensures c.put_tail.ensures

pub put_f32s-requires : goal.put_f32s-requires
put_f32s-requires c = omega (arith, eight (goal.at.put_f32s-requires c).Start)
