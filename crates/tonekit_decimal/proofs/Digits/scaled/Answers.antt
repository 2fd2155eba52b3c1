use Rattle.tonekit_decimal.proofs.Turns.{scaled_is}
use Rattle.tonekit_decimal.proofs.Digits.scaled.Goals as goal

pub returns : goal.returns
returns c =
    let a = c.args in
    scaled_is a.k a.p a.c a.self.now.places c.fill.new.self c.multiply.new.digits a.self.now.size c.requires.1 (c.fill.ensures.after (λ y e. e)) c.multiply.ensures
