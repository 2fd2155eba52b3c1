-- `digits_root` meets its contract: each turn takes one more digit of the root.
use Rattle.std.proofs.Common.{◌≡◌, ◌+◌, ◌-◌, ◌*◌, arith}
use Rattle.tonekit_root.proofs.Squares.{same_digit, one_more, rounds_up, stays, moved, ended}
use Rattle.tonekit_root.proofs.digits_root.Goals as goal
use Rattle.tonekit_root.proofs.digits_root.Goals.{then-r-left, else-r-left}

pub loop-preserved : goal.loop-preserved
loop-preserved c =
    let at = c.loop in
    let a = c.args.a in
    let s = at.invariant.1 in (
      omega arith,
      elim c.if-r-left.branch [ then-r-left w ↦ moved a (2 * at.r + 1) (4 * at.left - (2 * (2 * at.r) + 1)) (at.counter + 1) c.if-r-left.r c.if-r-left.left (one_more a at.r at.left at.counter s (omega arith)) (omega arith) (omega arith) | else-r-left w ↦ moved a (2 * at.r) (4 * at.left) (at.counter + 1) c.if-r-left.r c.if-r-left.left (same_digit a at.r at.left at.counter s (omega arith)) (omega arith) (omega arith) ],
    )

pub returns-then-r-left-2 : goal.returns-then-r-left-2
returns-then-r-left-2 c =
    let at = c.loop in
    let done : at.counter ≡ 26 = omega arith in
    let s = ended c.args.a at.r at.left at.counter at.invariant.1 done in
    (rounds_up c.args.a at.r at.left s c.if-r-left-2.true, s.short)

pub returns-else-r-left-2 : goal.returns-else-r-left-2
returns-else-r-left-2 c =
    let at = c.loop in
    let done : at.counter ≡ 26 = omega arith in
    let s = ended c.args.a at.r at.left at.counter at.invariant.1 done in
    let k = s.short in
    (stays c.args.a at.r at.left c.requires.0 s c.if-r-left-2.false, omega arith)
