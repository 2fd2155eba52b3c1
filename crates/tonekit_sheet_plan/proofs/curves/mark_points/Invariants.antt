use Rattle.std.proofs.Common.{◌≤◌, ◌≡◌, map, length, to_bits}
use lib.Ieee.{binary32}
use Rattle.tonekit_core.specs.Loop.{fold}
use Rattle.tonekit_sheet.specs.Marks.{mixed}
use Rattle.tonekit_sheet_plan.proofs.Marks.{left}
use Rattle.tonekit_sheet_plan.proofs.curves.mark_points.Given as goal

abbrev pub invariant-loop-x : goal.invariant-loop-x
invariant-loop-x l = (l.x-index ≤ 10) × (length l.points ≡ 10) × (fold mixed l.mark (left l.points l.x-index) ≡ fold mixed l.m (map (to_bits binary32) l.points))
