use Rattle.std.proofs.Common.{◌≡◌, ◌-◌, ◌∙◌, ap, rules}
use Rattle.tonekit_decimal.specs.Digits.{digits, times_all}
use Rattle.tonekit_decimal.specs.Decimal.{quarter}
use Rattle.tonekit_decimal.proofs.Nearest.{quarter_in, nearest_in}
use Rattle.tonekit_decimal.proofs.shortest.Goals as goal

pub returns : goal.returns
returns c =
    let a = c.args in
    let u : c.times-quarter.result.places ≡ digits 190 (quarter a.e) =
    c.times-quarter.ensures ∙ ap (times_all 5 151) (c.times.ensures ∙ ap (times_all 2 (a.e - 1)) c.one.ensures) ∙ quarter_in a.e in
    c.shortest.ensures
    ∙ rw (c.scaled-3.ensures, c.scaled-2.ensures, c.scaled.ensures, c.saturating_sub.ensures)
    (nearest_in a.m a.e a.below c.times-quarter.result.places (search rules) (search rules) u)
