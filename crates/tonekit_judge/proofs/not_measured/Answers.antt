-- `not_measured` meets its contract: as many log-likelihoods as there are tones are filled, which is what the definition's turns come to.
use Rattle.std.proofs.Common.{ℕ, zero, suc, ◌≡◌, refl, ◌≤◌, ◌++◌, drop, replicate, arith, length-take-le}
use Rattle.std.specs.Float.Ieee.{neg}
use Rattle.tonekit_core.specs.Loop.{range, turns}
use Rattle.spec_arithmetic.specs.Narrow.{narrowed}
use Rattle.spec_arithmetic.specs.Constants.{zero32}
use Rattle.spec_judgement.specs.Score.{million}
use Rattle.tonekit_judge.proofs.Turns.{lowest_turn}
use Rattle.spec_judgement.specs.Judge.{not_measured}
use Rattle.tonekit_judge.proofs.not_measured.Goals as goal

filled : (tones : ℕ) → tones ≤ 8 → range lowest_turn 0 tones (replicate 8 zero32) ≡ replicate tones (narrowed (neg million)) ++ drop tones (replicate 8 zero32)
unfolding range turns
filled zero h = refl
filled (suc zero) h = refl
filled (suc (suc zero)) h = refl
filled (suc (suc (suc zero))) h = refl
filled (suc (suc (suc (suc zero)))) h = refl
filled (suc (suc (suc (suc (suc zero))))) h = refl
filled (suc (suc (suc (suc (suc (suc zero)))))) h = refl
filled (suc (suc (suc (suc (suc (suc (suc zero))))))) h = refl
filled (suc (suc (suc (suc (suc (suc (suc (suc zero)))))))) h = refl
filled (suc (suc (suc (suc (suc (suc (suc (suc (suc n))))))))) h = absurd (omega arith)

pub returns : goal.returns
unfolding not_measured
returns c =
    let n = length-take-le c.args.tones (replicate 8 zero32) c.requires in
    rw (filled c.args.tones c.requires, c.fill.ensures.after (λ y e. e), n, c.narrow.ensures, c.no_deltas.ensures, c.from.ensures)
