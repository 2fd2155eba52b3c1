-- `judge_sheet` meets its contract: what a sheet holds is judged.
use Rattle.tonekit_core.proofs.Calls.{delivers_same}
use Rattle.tonekit_station.proofs.Ways.{sheet_held}
use Rattle.tonekit_station.proofs.judge_sheet.Goals as goal

pub returns : goal.returns
returns c = delivers_same _ _ _ _ _ (sheet_held c.args.sheet.now c.args.query.now) c.judge_held.ensures
