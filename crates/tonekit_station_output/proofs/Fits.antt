-- What `station_output` and `station_sheet_output` write has room in what the programs lend: 64 bytes. Assumes nothing.
use Rattle.std.proofs.Common.{ℕ, List, subst}
use Rattle.tonekit_core.specs.declared.layout.TheConstants.{JUDGEMENT_SIZE}
use Rattle.tonekit_report.proofs.Told.{HasRoom}
use Rattle.spec_judgement.specs.Input.{held_of, query_of}
use Rattle.spec_judgement.specs.Judgement.{station_outcome}
use Rattle.spec_sheet.specs.JudgeSheet.{station_sheet_outcome}
use Rattle.tonekit_station.proofs.Ways.{pack_held, sheet_held}
use Rattle.tonekit_station_output.proofs.Rooms.{judgement_fits}

pub station_fits : (s : List ℕ) → HasRoom JUDGEMENT_SIZE (station_outcome s)
station_fits s = subst (HasRoom JUDGEMENT_SIZE) (pack_held (held_of s) (query_of s)) (judgement_fits _ (query_of s))

pub station_sheet_fits : (s : List ℕ) → HasRoom JUDGEMENT_SIZE (station_sheet_outcome s)
station_sheet_fits s = subst (HasRoom JUDGEMENT_SIZE) (sheet_held (held_of s) (query_of s)) (judgement_fits _ (query_of s))
