-- `judge_sheet_input` meets its contract: what a sheet holds is judged.
use Rattle.tonekit_core.proofs.Calls.{delivers_same}
use Rattle.spec_judgement.specs.Input.{held_of, query_of}
use Rattle.tonekit_station.proofs.Ways.{sheet_held}
use Rattle.tonekit_station.proofs.judge_sheet_input.Goals as goal

pub returns : goal.returns
returns c = let s = c.args.input.now in delivers_same _ _ _ _ _ (sheet_held (held_of s) (query_of s)) c.judge_parts.ensures
