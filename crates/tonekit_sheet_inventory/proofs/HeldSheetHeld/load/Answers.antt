-- What the reader handed back was read from the bytes.
use Rattle.std.proofs.Common.{◌≡◌, sym, ap, ◌∙◌}
use Rattle.spec_arithmetic.specs.Files.{loaded}
use Rattle.spec_sheet.specs.Reader.{load_sheet}
use Rattle.tonekit_sheet.proofs.Turns.{loads_alone}
use Rattle.tonekit_sheet_read.specs.Held.{records_of, answered}
use Rattle.tonekit_sheet_inventory.specs.Look.{sheet_in}
use Rattle.tonekit_sheet_inventory.proofs.HeldSheetHeld.load.Goals as goal
use Rattle.tonekit_sheet_inventory.proofs.HeldSheetHeld.load.Goals.{In_ok-loaded}

loads : (c : In_ok-loaded) → load_sheet c.args.bytes.now ≡ loaded (records_of c.in_ok-loaded.loaded.held) c.in_ok-loaded.loaded.end
loads c = sym c.load_sheet.ensures ∙ ap answered c.in_ok-loaded.was

pub invariant_of-result : goal.invariant_of-result
invariant_of-result c = record { read = ap sheet_in (loads_alone _ _ _ (loads (goal.at.invariant_of-result c).In_ok-loaded)).0 }

pub returns : goal.returns
returns c = record { held = rw (loads (goal.at.returns c).In_ok-loaded); refused = tt }
