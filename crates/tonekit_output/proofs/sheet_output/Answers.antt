-- `sheet_output` meets its contract. Assumes nothing.
use Rattle.std.proofs.Common.{◌≡◌, length, rules}
use Rattle.tonekit_core.specs.declared.layout.TheConstants.{SHEET_MOST}
use Rattle.tonekit_report.proofs.Told.{tells}
use Rattle.tonekit_output.proofs.Rooms.{sheet_fits}
use Rattle.tonekit_output.proofs.sheet_output.Goals as goal

pub returns : goal.returns
returns c =
    let held = c.args.out.now in
    let room : length held ≡ SHEET_MOST = search rules in
    tells SHEET_MOST _ held _ _ _ _ room (search rules) (sheet_fits c.args.pack.now) c.write_sheet-a.ensures c.tell.ensures.0 c.tell.ensures.1
