-- `gather` meets its contract: each field is what the definition gathers.
use Rattle.std.proofs.Common.{◌≡◌, ◌∙◌, ◌||◌, eqb, eq-eqb, ne_eqb}
use Rattle.spec_lookup.specs.Source.{tone_in}
use Rattle.spec_judgement.specs.Gather.{gathered}
use Rattle.tonekit_inventory.proofs.gather.Goals as goal
use Rattle.tonekit_inventory.proofs.gather.Goals.{then-c-eq0, else-c-eq0}

pub returns : goal.returns
unfolding gathered
returns g c =
    let a = c.args in
    let prev : c.if-c-eq0.result ≡ (eqb a.c.prev 0 || tone_in (g.H.Held.source a.held.now).tones a.c.prev) = elim c.if-c-eq0.branch [
      | then-c-eq0 w ↦ w.result-is ∙ rw (eq-eqb _ _ w.if-c-eq0.true)
      | else-c-eq0 w ↦ rw (ne_eqb _ _ w.if-c-eq0.false, ← w.holds_tone.ensures) w.result-is
    ] in
    record { is = rw (prev, c.settings.ensures, c.tolerance.ensures, c.listings.ensures.is); counted = c.listings.ensures.counted }
