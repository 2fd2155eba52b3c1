-- Document 01's Judgement with a sheet in the pack's place: the call `judge_sheet`, and the program `station_sheet`.
use Rattle.std.specs.Prelude.{ℕ, List}
use Rattle.tonekit_core.specs.Calls.{Outcome, refused}
use Rattle.spec_arithmetic.specs.Files as files
use Rattle.spec_judgement.specs.Input.{held_of, query_of}
use Rattle.spec_judgement.specs.Judgement.{judgement}
use Rattle.spec_sheet.specs.Reader.{load_sheet}
use Rattle.spec_sheet.specs.Reader as sheet
use Rattle.spec_sheet.specs.FromSheet.{source_of_sheet}

-- of a sheet's bytes
abbrev pub on_sheet : List ℕ → List ℕ → files.Out sheet.SheetRead → Outcome
on_sheet p s (files.refused r place) = refused r place
on_sheet p s (files.loaded st e) = judgement (source_of_sheet p st) s

-- the call `judge_sheet`: what a sheet's and a query's bytes are turned into
unfoldable pub judge_sheet_outcome : List ℕ → List ℕ → Outcome
judge_sheet_outcome p s = on_sheet p s (load_sheet p)

-- what the program `station_sheet` makes of its input
abbrev pub station_sheet_outcome : List ℕ → Outcome
station_sheet_outcome s = judge_sheet_outcome (held_of s) (query_of s)
