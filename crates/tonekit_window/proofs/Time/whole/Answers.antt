use Rattle.std.proofs.Common.{arith}
use Rattle.tonekit_window.proofs.Within.{frame_lt}
use Rattle.tonekit_window.proofs.Walk.{part_small}
use Rattle.tonekit_window.proofs.Time.whole.Goals as goal

pub floor_index-requires : goal.floor_index-requires
floor_index-requires c = let p = c.args.self.inside in record { low = p.low; high = frame_lt _ p }

pub returns : goal.returns
returns c =
    let e = c.floor_index.ensures in
    let s = part_small _ c.args.self.inside in
    (e, omega arith)
