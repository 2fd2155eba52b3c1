-- `shape_output` meets its contract. Assumes nothing.
use Rattle.std.proofs.Common.{◌≡◌, length, rules}
use Rattle.tonekit_core.specs.declared.layout.TheConstants.{SHAPE_SIZE}
use Rattle.tonekit_report.proofs.Told.{tells}
use Rattle.tonekit_output.proofs.Rooms.{shape_fits}
use Rattle.tonekit_output.proofs.shape_output.Goals as goal

pub returns : goal.returns
returns c =
    let held = c.args.out.now in
    let room : length held ≡ SHAPE_SIZE = search rules in
    tells SHAPE_SIZE _ held _ _ _ _ room (search rules) (shape_fits c.args.query.now) c.write_shape-a.ensures c.tell.ensures.0 c.tell.ensures.1
