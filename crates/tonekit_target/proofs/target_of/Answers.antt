-- `target_of` meets its contract: the tone is held or it is not.
use Rattle.std.proofs.Common.{refl, arith}
use Rattle.spec_judgement.specs.Target.{target_of}
use Rattle.tonekit_target.proofs.target_of.Goals as goal

pub returns-in_err-place : goal.returns-in_err-place
unfolding target_of
returns-in_err-place c = rw (c.from_residual.ensures, ← c.place_of.ensures.0, c.in_err-place.was) (refl, tt)

pub overflow_cast-result : goal.overflow_cast-result
overflow_cast-result c =
    let inside = rw c.in_ok-place.was at c.place_of.ensures.1 in
    omega (arith, inside.1)

pub returns : goal.returns
unfolding target_of
returns c =
    let inside = rw c.in_ok-place.was at c.place_of.ensures.1 in
    (rw (← c.place_of.ensures.0, c.in_ok-place.was), inside.0)
