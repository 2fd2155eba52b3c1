use Rattle.tonekit_decimal.proofs.Nearest.{one_in}
use Rattle.tonekit_decimal.proofs.Digits.one.Goals as goal

pub returns : goal.returns
returns c = one_in
