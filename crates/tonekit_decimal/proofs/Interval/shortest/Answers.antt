use Rattle.std.proofs.Common.{◌-◌, sym, arith}
use Rattle.tonekit_decimal.proofs.Turns.{search_found, search_on, search_end}
use Rattle.tonekit_decimal.proofs.Interval.shortest.Goals as goal

pub returns-in-Some : goal.returns-in-Some
returns-in-Some c =
    let s = c.args.self.now in
    search_found s.low.places s.value.places s.high.places s.odd (c.loop-p.p - 1) _ _ (omega arith) (sym (c.in-Some.ensures)) c.loop-p.invariant

pub loop-p-preserved : goal.loop-p-preserved
loop-p-preserved c =
    let s = c.args.self.now in
    search_on s.low.places s.value.places s.high.places s.odd (c.loop-p.p - 1) _ (omega arith) (sym (c.in_default.ensures)) c.loop-p.invariant

pub returns : goal.returns
returns c =
    let s = c.args.self.now in
    search_end s.low.places s.value.places s.high.places s.odd (c.loop-p.p - 1) _ (omega arith) c.loop-p.invariant
