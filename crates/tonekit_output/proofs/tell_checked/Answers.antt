-- `tell_checked` meets its contract. Assumes nothing.
use Rattle.std.proofs.Common.{◌≡◌, refl, length, rules}
use Rattle.tonekit_core.specs.Calls.{refused}
use Rattle.tonekit_core.specs.declared.layout.TheConstants.{REFUSAL_SIZE}
use Rattle.tonekit_core.proofs.Calls.{delivers_refused}
use Rattle.tonekit_report.proofs.Told.{tells}
use Rattle.tonekit_output.specs.Check.{check_outcome}
use Rattle.tonekit_output.proofs.tell_checked.Goals as goal

pub returns-in-Ok : goal.returns-in-Ok
unfolding check_outcome
returns-in-Ok c = rw c.in-Ok.is (record { count = refl; buffer = refl; same = refl })

pub returns-in-Err : goal.returns-in-Err
unfolding check_outcome
returns-in-Err c =
    let held = c.args.out.now in
    let room : length held ≡ REFUSAL_SIZE = search rules in
    rw c.in-Err.is
    (tells REFUSAL_SIZE (refused _ _) held held _ _ _ room (search rules) tt (delivers_refused held _ _ (refused _ _) refl) c.tell.ensures.0
    c.tell.ensures.1)
