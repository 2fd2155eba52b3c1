-- A search finds the accent that is held, with its tolerances.
use Rattle.std.proofs.Common.{sym, ◌∙◌, arith, ◌<◌}
use Rattle.tonekit_sheet_inventory.proofs.Lookup.{accent_held}
use Rattle.tonekit_sheet_inventory.proofs.Search.{graded_found, graded_none}
use Rattle.tonekit_sheet_inventory.proofs.HeldSheetHeld.tolerance.Goals as goal
use Rattle.tonekit_sheet_inventory.proofs.HeldSheetHeld.tolerance.Goals.{In_ok-a}

few : (c : In_ok-a) → c.in_ok-a.a < c.args.self.now.view.sheet.accents
few c = let x = c.args in accent_held x.self.now.view.bytes.now x.self.now.view.sheet x.number _ (sym c.accent_index.ensures ∙ c.in_ok-a.was)

pub sheet_accent_at-o-requires : goal.sheet_accent_at-o-requires
sheet_accent_at-o-requires c =
    let x = c.args.self.now.view.sheet in
    (x.few_tones, omega (arith, few (goal.at.sheet_accent_at-o-requires c).In_ok-a, x.few_accents))

pub overflow_add-o : goal.overflow_add-o
overflow_add-o c =
    let x = c.args.self.now.view.sheet in
    record { fits = omega (arith, c.sheet_accent_at-o.ensures, few (goal.at.overflow_add-o c).In_ok-a, x.few_accents, x.few_tones) }

pub returns : goal.returns
returns c =
    let x = c.args in
    graded_found x.self.now.view.bytes.now x.self.now.view.sheet x.number _ (few (goal.at.returns c).In_ok-a) (sym c.accent_index.ensures ∙ c.in_ok-a.was) c.sheet_accent_at-o.result c.sheet_accent_at-o.ensures _ c.tolerance_at.ensures

pub returns-in_err-a : goal.returns-in_err-a
returns-in_err-a c = let x = c.args in rw c.from_residual.ensures (graded_none x.self.now.view.bytes.now x.self.now.view.sheet x.number (sym c.accent_index.ensures ∙ c.in_err-a.was))
