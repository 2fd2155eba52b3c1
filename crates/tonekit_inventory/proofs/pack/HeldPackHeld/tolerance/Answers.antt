-- A search finds the accent that is held, with its tolerances.
use Rattle.std.proofs.Common.{sym, ◌∙◌, arith, ◌<◌}
use Rattle.tonekit_inventory.proofs.Search.{graded_found, graded_none, inside}
use Rattle.tonekit_inventory.proofs.pack.HeldPackHeld.tolerance.Goals as goal
use Rattle.tonekit_inventory.proofs.pack.HeldPackHeld.tolerance.Goals.{In_ok-a}

few : (c : In_ok-a) → c.in_ok-a.a < c.args.self.now.view.pack.accents.count
few c = let x = c.args in inside x.self.now.view.bytes.now x.self.now.view.pack x.number _ (sym c.accent_index.ensures ∙ c.in_ok-a.was)

pub offset_bounds-self-a : goal.offset_bounds-self-a
offset_bounds-self-a c = record { fits = omega (arith, few (goal.at.offset_bounds-self-a c).In_ok-a, c.args.self.now.view.pack.accents.few) }

pub bounds-self-a : goal.bounds-self-a
bounds-self-a c = omega (arith, few (goal.at.bounds-self-a c).In_ok-a, c.args.self.now.view.pack.accents.few)

pub returns : goal.returns
returns c =
    let x = c.args in
    graded_found x.self.now.view.bytes.now x.self.now.view.pack x.number _ (few (goal.at.returns c).In_ok-a) (sym c.accent_index.ensures ∙ c.in_ok-a.was) _ (rw c.from-o.ensures at c.tolerance_at.ensures)

pub returns-in_err-a : goal.returns-in_err-a
returns-in_err-a c = let x = c.args in rw c.from_residual.ensures (graded_none x.self.now.view.bytes.now x.self.now.view.pack x.number (sym c.accent_index.ensures ∙ c.in_err-a.was))
