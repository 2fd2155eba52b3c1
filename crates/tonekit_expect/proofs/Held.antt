-- A tone of a list is held by its number. Assumes nothing.
use Rattle.std.proofs.Common.{ℕ, zero, suc, ◌<◌, ◌≡◌, refl, true, List, [], ◌∷◌, arith, eqb, length, get_or, eq-eqb}
use Rattle.tonekit_core.proofs.Split.{split}
use Rattle.spec_lookup.specs.Source.{Tone, tone_in}

pub tone_found : (tones : List Tone) (i : ℕ) (d : Tone) → i < length tones → tone_in tones (get_or tones i d).number ≡ true
unfolding tone_in
tone_found [] i d h = absurd (omega arith)
tone_found (t ∷ tones) zero d h = rw (eq-eqb t.number t.number refl)
tone_found (t ∷ tones) (suc i) d h = split (eqb t.number (get_or tones i d).number) (λ e. rw e) (λ e. rw e (tone_found tones i d (omega arith)))
