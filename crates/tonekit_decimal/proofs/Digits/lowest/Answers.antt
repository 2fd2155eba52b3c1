use Rattle.std.proofs.Common.{◌≡◌, take, length-take-le, arith, rules, tests}
use Rattle.std.proofs.lemmas.Iterator.{IsFirst-from_position, YieldsList-from_slice}
use Rattle.tonekit_decimal.proofs.Turns.{low_first}
use Rattle.tonekit_decimal.proofs.Digits.lowest.Goals as goal

pub returns-clause-value : goal.returns-clause-value
returns-clause-value c =
    let ds = c.args.self.now.places in
    let first = IsFirst-from_position _ _ c.position.result (λ x. x ≡ 0 → ⊥) (λ x. x ≡ 0) c.position.ensures.ran (YieldsList-from_slice (take 151 ds) (cc)) (λ x q k. search (rules, tests)) (λ x q k. search (rules, tests)) in
    low_first ds (length-take-le 151 ds (omega (arith, c.args.self.now.size))) c.position.result first
