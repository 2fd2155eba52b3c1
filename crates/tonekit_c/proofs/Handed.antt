-- What is handed over of a check: no bytes of what loads, else the refusal. Assumes nothing.
use Rattle.std.proofs.Common.{ℕ, ◌≡◌, refl, ◌∙◌}
use Rattle.std.specs.Prelude.{Result, Ok, Err}
use Rattle.std.specs.Result.{result_and}
use Rattle.tonekit_core.specs.declared.Rejection.{Rejection}
use Rattle.tonekit_c.specs.Export.{checked_place, answer_number, answer_place}

checked : (c : Result (Unit {0}) Rejection) → (answer_number {A = ℕ} (result_and c (Ok 0)) ≡ answer_number c) × (answer_place (result_and c (Ok 0)) ≡ checked_place c)
checked (Ok u) = (refl, refl)
checked (Err e) = (refl, refl)

pub handed : (c : Result (Unit {0}) Rejection) (n place : ℕ) → (n ≡ answer_number {A = ℕ} (result_and c (Ok 0))) × (place ≡ answer_place (result_and c (Ok 0)))
    → (n ≡ answer_number c) × (place ≡ checked_place c)
handed c n place h = (h.0 ∙ (checked c).0, h.1 ∙ (checked c).1)
