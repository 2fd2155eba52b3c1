-- `judge` meets its contract: what a pack holds is judged.
use Rattle.tonekit_core.proofs.Calls.{delivers_same}
use Rattle.tonekit_station.proofs.Ways.{pack_held}
use Rattle.tonekit_station.proofs.judge.Goals as goal

pub returns : goal.returns
returns c = delivers_same _ _ _ _ _ (pack_held c.args.pack.now c.args.query.now) c.judge_held.ensures
