use Rattle.std.proofs.Common.{arith}
use Rattle.tonekit_decimal.proofs.Turns.{add_some, add_none}
use Rattle.tonekit_decimal.proofs.Digits.add_to.Goals as goal

pub returns-in-Some : goal.returns-in-Some
returns-in-Some c =
    add_some c.args.text.now.bytes c.args.self.now.places c.add_figures.new.text.bytes c.push.new.self.bytes _ c.whole_count.result c.in-Some.low
    c.whole_count.ensures.0 c.in-Some.ensures.value c.add_figures.ensures.bytes (c.push.ensures.ascii (omega arith)) c.add_figures-in-Some.ensures.bytes

pub returns-in_default : goal.returns-in_default
returns-in_default c =
    add_none c.args.text.now.bytes c.args.self.now.places _ c.whole_count.result c.whole_count.ensures.0 c.in_default.ensures.value c.add_figures.ensures.bytes
