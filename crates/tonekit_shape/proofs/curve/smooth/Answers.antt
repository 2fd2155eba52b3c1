use Rattle.std.proofs.Common.{◌≡◌, sym, ◌∙◌, ap, ◌+◌, ◌-◌, arith, rules, get_or}
use lib.Ieee.{nan}
use Rattle.tonekit_shape.proofs.Fill.{listed_more, listed_rest}
use Rattle.tonekit_shape.proofs.Smooth.{smooth_turn}
use Rattle.tonekit_shape.proofs.curve.smooth.Goals as goal

pub loop-j-preserved : goal.loop-j-preserved
loop-j-preserved c =
    let l = c.loop-j in
    let curve = c.args.curve.now in
    let p : l.j + 1 - 1 ≡ l.j = omega arith in (
      search rules,
      search rules,
      search rules,
      (λ h. listed_rest _ curve _ l.j l.j (omega arith) l.invariant.4 ∙ ap (λ i. get_or curve i nan) (sym p)),
      listed_more _ curve _ l.j _ (search rules) l.invariant.4 (c.mean_with.ensures ∙ smooth_turn curve _ l.j _ (search rules) l.invariant.4 l.invariant.3),
    )
