-- `judgement_record` meets its contract, call by call.
use Rattle.std.proofs.Common.{◌≡◌, ◌∙◌, rules, length}
use Rattle.tonekit_record.specs.Fields.{fields_bytes}
use Rattle.tonekit_record.proofs.Parts.{fields_length, whole}
use Rattle.tonekit_record.proofs.judgement_record.Goals as goal

pub returns : goal.returns
returns c =
    let n : length c.args.j.loglik ≡ 8 = search rules in
    c.put_judgement.ensures
    ∙ whole (fields_bytes c.args.expected c.args.tones c.args.j) _ (fields_length c.args.expected c.args.tones c.args.j n)
