use Rattle.std.proofs.Common.{◌≡◌, ◌<◌, arith, rules}
use Rattle.tonekit_decimal.proofs.Turns.{digit_in, part_size, count_start, count_found, count_on}
use Rattle.tonekit_decimal.proofs.Digits.whole_count.Goals as goal
use Rattle.tonekit_decimal.proofs.Digits.whole_count.Goals.{then-digit-ne0, else-digit-ne0}

pub loop-k-init : goal.loop-k-init
loop-k-init c = (count_start c.args.self.now.places, omega arith)

pub loop-k-preserved : goal.loop-k-preserved
loop-k-preserved c =
    let l = c.loop-k in
    let ds = c.args.self.now.places in
    let h : l.k < 39 = search rules in
    let e = digit_in ds l.k h in
    elim c.if-digit-ne0.branch [
      | then-digit-ne0 w ↦ rw w.count-is (count_found ds l.k (rw e at w.if-digit-ne0.true), omega arith)
      | else-digit-ne0 w ↦ rw w.count-is (count_on ds l.k l.count (rw e at w.if-digit-ne0.false) l.invariant.0, l.invariant.1)
    ]

pub returns : goal.returns
returns c =
    let l = c.loop-k in
    let n = part_size c.args.self.now.places c.args.self.now.size in
    let e : l.k ≡ 39 = omega arith in
    (rw e at l.invariant.0, l.invariant.1)
