-- `over_voiced` meets its contract, for each function that the step computes.
use Rattle.std.proofs.Common.{refl, sym, ◌∙◌, arith, rules}
use Rattle.tonekit_core.proofs.LoopLaws.{again, ended}
use Rattle.tonekit_fit.proofs.Part.over_voiced.Goals as goal
use Rattle.tonekit_fit.proofs.Part.over_voiced.Goals.{else-voiced, then-voiced}

pub loop-j-init : goal.loop-j-init
loop-j-init g c = (search rules, λ f h. refl)

pub loop-j-preserved : goal.loop-j-preserved
loop-j-preserved g c = (
  search rules,
  λ f h. again _ (c.loop-j.invariant.1 f h) (search rules)
      (elim c.if-voiced.branch [ then-voiced w ↦ rw (← c.voiced.ensures, w.if-voiced.true) (sym (w.state-is ∙ h _ _ _ _ (omega arith) w.step-state.ensures)) | else-voiced w ↦ rw (← c.voiced.ensures, w.if-voiced.false) (sym w.state-is) ]),
)

pub returns : goal.returns
returns g c = λ f h. ended _ (c.loop-j.invariant.1 f h) (search rules)
