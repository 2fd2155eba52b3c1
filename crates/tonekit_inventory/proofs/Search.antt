-- A search by number among a pack's or a sheet's records finds what a station holds under that number. Assumes nothing.
use Rattle.std.specs.Prelude.{Option}
use Rattle.std.proofs.Common.{ℕ, ◌+◌, ◌<◌, ◌≡◌, refl, ◌∙◌, ap, is_some, true, false, List, map, arith, eqb, get_or}
use Rattle.std.specs.Prelude.{Some, None}
use mathlib.Core.Option.{none, some}
use Rattle.spec_arithmetic.specs.Places.{number_at, index_of}
use Rattle.tonekit_pack.specs.declared.Pack.{Pack}
use Rattle.tonekit_pack.specs.Held.{records_of}
use Rattle.tonekit_core.proofs.Split.{or_cond}
use Rattle.tonekit_bytes.proofs.InOrder.{order_length, order_get}
use Rattle.tonekit_bytes.proofs.Searched.{pick, searched}
use Rattle.spec_lookup.specs.Source.{Tone, Accent, accent_at, accent_in, tone_in, source_of_pack}
use Rattle.tonekit_bytes.proofs.Searched.{index_found}
use Rattle.spec_judgement.specs.declared.Tolerance.{Tolerance}
use Rattle.tonekit_inventory.specs.Fields.{tolerance_at}
use Rattle.spec_judgement.specs.Gather.{graded_of}
use Rattle.tonekit_inventory.specs.Fields.{tolerance_of}

-- accents and tones that are held by their records' offsets, under the numbers there
module _ (s os : List ℕ) (n : ℕ) (accent_of : ℕ → Accent) (number : (o : ℕ) → (accent_of o).number ≡ number_at s o) where
  accents : accent_in (map accent_of os) n ≡ pick (λ o. some (accent_of o)) none os (index_of s os n)
  unfolding accent_in
  accents = searched s n (λ o. some (accent_of o)) none (λ l. accent_in (map accent_of l) n) refl (λ o l. rw (number o)) os

  pub accent_found : (i : ℕ) → index_of s os n ≡ Some i → accent_in (map accent_of os) n ≡ some (accent_of (get_or os i 0))
  accent_found i e = accents ∙ rw e

  pub accent_none : index_of s os n ≡ None → accent_in (map accent_of os) n ≡ none
  accent_none e = accents ∙ rw e

module _ (s os : List ℕ) (n : ℕ) (tone_of : ℕ → Tone) (number : (o : ℕ) → (tone_of o).number ≡ number_at s o) where
  tones : tone_in (map tone_of os) n ≡ pick (λ o. true) false os (index_of s os n)
  unfolding tone_in
  tones = searched s n (λ o. true) false (λ l. tone_in (map tone_of l) n) refl (λ o l. rw (number o) (or_cond (eqb (number_at s o) n) (tone_in (map tone_of l) n))) os

  either : (f : Option ℕ) → pick (λ o. true) false os f ≡ is_some f
  either None = refl
  either (Some i) = refl

  pub tone_held : tone_in (map tone_of os) n ≡ is_some (index_of s os n)
  tone_held = tones ∙ either (index_of s os n)

-- the tolerances stand behind an accent's kind, number and parent
pub tolerance : (s : List ℕ) (o : ℕ) → tolerance_at s (o + 3) ≡ tolerance_of (accent_at 3 s o)
unfolding tolerance_at
tolerance s o =
    let onset : o + 3 + 4 ≡ o + 7 = omega arith in
    let offset : o + 3 + 8 ≡ o + 11 = omega arith in
    let turning : o + 3 + 12 ≡ o + 15 = omega arith in
    rw (onset, offset, turning)

-- the accent that a search in a pack finds, with its tolerances
module _ (s : List ℕ) (p : Pack) (n : ℕ) where
  pub graded_found : (i : ℕ) → i < p.accents.count → index_of s (records_of p).accents n ≡ Some i → (t : Tolerance) → t ≡ tolerance_at s (get_or p.accents.at i 0 + 3)
      → Some t ≡ graded_of (accent_in (source_of_pack s (records_of p)).accents n)
  unfolding source_of_pack
  graded_found i h e t q =
      rw (accent_found s (records_of p).accents n (accent_at 3 s) (λ o. refl) i e, order_get p.accents.at p.accents.count i h)
      (ap Some (q ∙ tolerance s (get_or p.accents.at i 0)))

  pub graded_none : index_of s (records_of p).accents n ≡ None → None ≡ graded_of (accent_in (source_of_pack s (records_of p)).accents n)
  unfolding source_of_pack
  graded_none e = rw (accent_none s (records_of p).accents n (accent_at 3 s) (λ o. refl) e)

  pub inside : (i : ℕ) → index_of s (records_of p).accents n ≡ Some i → i < p.accents.count
  inside i e = omega (arith, (index_found s (records_of p).accents n i e).inside, order_length p.accents.at p.accents.count)
