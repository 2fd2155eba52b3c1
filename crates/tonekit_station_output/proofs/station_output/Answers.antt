-- `station_output` meets its contract: what a pack holds is judged.
use Rattle.spec_judgement.specs.Input.{held_of, query_of}
use Rattle.tonekit_station.proofs.Ways.{pack_held}
use Rattle.tonekit_station_output.proofs.Rooms.{told_same}
use Rattle.tonekit_station_output.proofs.station_output.Goals as goal

pub returns : goal.returns
returns c = let s = c.args.input.now in told_same _ _ _ _ _ (pack_held (held_of s) (query_of s)) c.output.ensures
