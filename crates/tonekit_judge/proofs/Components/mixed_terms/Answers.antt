-- `mixed_terms` meets its contract: a turn of the loop is a turn of the mixture, whether its term counts or not.
use Rattle.std.proofs.Common.{rules, ◌+◌, ◌*◌, Option, refl, sym, ap, ◌∙◌}
use Rattle.tonekit_core.proofs.LoopLaws.{again, ended}
use Rattle.spec_judgement.specs.Score.{mixed}
use Rattle.spec_judgement.specs.declared.Term.{Term}
use Rattle.tonekit_judge.specs.Terms.{cell}
use Rattle.tonekit_judge.specs.Terms.{either_turn, mixed_terms}
use Rattle.tonekit_judge.proofs.Terms.{mix_in, one_term}
use Rattle.tonekit_judge.proofs.Components.mixed_terms.Goals as goal
use Rattle.tonekit_judge.proofs.Components.mixed_terms.Goals.{in-Some, in_default}

pub loop-j-init : goal.loop-j-init
unfolding mixed_terms
loop-j-init c = refl

pub loop-j-preserved : goal.loop-j-preserved
unfolding mixed
loop-j-preserved c =
    let a = c.args in
    let l = c.loop-j in
    let s = a.self.now.scoring in
    let d = cell a.self.now.list in
    let turn = either_turn s d a.t a.share in
    let mix = λ (term : Option Term). mix_in l.m (4 * a.t + l.j) term in
    let is = sym (one_term s d a.t l.j l.m a.share) ∙ ap mix (sym c.term_at.ensures) in
    elim c.match-term_at.branch [
      | in-Some w ↦ rw (w.m-is, w.add_to.ensures, w.led.ensures) (again turn l.invariant c.loop-j-test.true (is ∙ ap mix w.in-Some.is))
      | in_default w ↦ rw w.m-is (again turn l.invariant c.loop-j-test.true (is ∙ ap mix w.in_default.is))
    ]

pub returns : goal.returns
returns c =
    let a = c.args in
    ended (either_turn a.self.now.scoring (cell a.self.now.list) a.t a.share) c.loop-j.invariant (search rules)
