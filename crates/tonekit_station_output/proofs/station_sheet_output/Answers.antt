-- `station_sheet_output` meets its contract: what a sheet holds is judged.
use Rattle.spec_judgement.specs.Input.{held_of, query_of}
use Rattle.tonekit_station.proofs.Ways.{sheet_held}
use Rattle.tonekit_station_output.proofs.Rooms.{told_same}
use Rattle.tonekit_station_output.proofs.station_sheet_output.Goals as goal

pub returns : goal.returns
returns c = let s = c.args.input.now in told_same _ _ _ _ _ (sheet_held (held_of s) (query_of s)) c.output.ensures
