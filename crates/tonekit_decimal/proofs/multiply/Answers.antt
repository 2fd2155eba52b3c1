use Rattle.std.proofs.Common.{◌≡◌, ◌*◌, ◌≤◌, get_or, arith, rules}
use Rattle.tonekit_decimal.proofs.Turns.{multiply_turn, multiply_end, product_fits}
use Rattle.tonekit_decimal.proofs.multiply.Goals as goal

pub loop-digit-preserved : goal.loop-digit-preserved
loop-digit-preserved c =
    let l = c.loop-digit in
    let f : c.args.k * c.from.result ≤ 34225520640 = product_fits (search rules) (search rules) in
    let d : c.from.result ≡ get_or l.digits l.digit-index 0 = search rules in
    (omega arith, rw d (multiply_turn c.args.k l.carry l.digits l.digit-index _ (search rules) l.invariant.1))

pub returns : goal.returns
returns c =
    let l = c.loop-digit in
    multiply_end c.args.k l.carry l.digits l.digit-index _ (search rules) l.invariant.1
