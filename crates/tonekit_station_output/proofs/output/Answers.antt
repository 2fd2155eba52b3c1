-- `output` meets its contract.
use Rattle.std.proofs.Common.{rules, ◌≡◌, length}
use Rattle.tonekit_core.specs.declared.layout.TheConstants.{JUDGEMENT_SIZE}
use Rattle.tonekit_report.proofs.Told.{tells}
use Rattle.tonekit_station_output.proofs.Rooms.{judgement_fits}
use Rattle.tonekit_station_output.proofs.output.Goals as goal

pub returns : goal.returns
returns g c =
    let held = c.args.out.now in
    let room : length held ≡ JUDGEMENT_SIZE = search rules in
    tells JUDGEMENT_SIZE _ held _ _ _ _ room (search rules) (judgement_fits _ _) c.judge_parts-answer.ensures c.tell.ensures.0 c.tell.ensures.1
