use Rattle.std.proofs.Common.{rules, length}
use Rattle.tonekit_window.proofs.Within.{frame}
use Rattle.tonekit_window.proofs.contour_at.Goals as goal

pub invariant_of-low : goal.invariant_of-low
invariant_of-low c = record { inside = frame (length c.args.values.now) (search rules) c.span-span.ensures.low_in }

pub invariant_of-high : goal.invariant_of-high
invariant_of-high c = record { inside = frame (length c.args.values.now) (search rules) c.span-span.ensures.high_in }
