-- The rows of a sheet ask only contexts that are held: held accent, held tone, prev a held tone or 0. Assumes nothing.
use Rattle.std.proofs.Common.{ℕ, zero, suc, ◌≤◌, ◌<◌, ◌≡◌, refl, ◌⊎◌, inl, inr, Bool, true, List, [], ◌∷◌, arith, eqb, length, get_or, eqb-true}
use Rattle.tonekit_core.proofs.Split.{split, absurd_bool}
use Rattle.spec_lookup.specs.Source.{Tone, Source, tone_in, absent_tone}
use Rattle.spec_sheet.specs.Sheet.{absent_accent, row_count, accent_place, tone_place, prev_place, prev_number, row_context, ascending, view_of, rows_of}
use Rattle.spec_sheet.specs.Agree.{Held}
use Rattle.tonekit_sheet_laws.proofs.Ascending.{ascending_held}
use Rattle.tonekit_sheet.proofs.RowPlaces.{row_places}
use Rattle.tonekit_expect.proofs.Held.{tone_found}

-- a held tone is one of them
pub tone_at_lem : (tones : List Tone) (n : ℕ) → tone_in tones n ≡ true → (i : ℕ) × (i < length tones) × ((get_or tones i absent_tone).number ≡ n)
unfolding tone_in
tone_at_lem [] n h = absurd_bool h
tone_at_lem (t ∷ tones) n h =
    split (eqb t.number n)
    (λ e. (0, omega arith, eqb-true t.number n e))
    (λ e. let r = tone_at_lem tones n (rw e at h) in (suc r.0, omega (arith, r.1), r.2))

prev_held : (tones : List Tone) (p : ℕ) → p ≤ length tones → (prev_number tones p ≡ 0) ⊎ (tone_in tones (prev_number tones p) ≡ true)
prev_held tones zero h = inl refl
prev_held tones (suc p) h = inr (tone_found tones p absent_tone h)

-- what a row of a source's view asks
pub row_asks : (src : Source) (r : ℕ) (last : Bool) → (view_of src).row r last ≡ src.look (row_context src.tones (ascending src.accents) r last)
unfolding view_of
row_asks src r last = refl

module _ (src : Source) (some_tones : 1 ≤ length src.tones) where
  asked : (r : ℕ) (last : Bool) → r < row_count (length (ascending src.accents)) (length src.tones)
      → Held src (row_context src.tones (ascending src.accents) r last)
  unfolding row_context
  asked r last h =
      let t = length src.tones in
      let p = row_places (length (ascending src.accents)) t r some_tones h in
      record {
        accent = (get_or (ascending src.accents) (accent_place t r) absent_accent, ascending_held src.accents (accent_place t r) p.accent);
        tone = tone_found src.tones (tone_place t r) absent_tone p.tone;
        prev = prev_held src.tones (prev_place t r) p.prev;
      }

  pub row_held_lem : (r : ℕ) (last : Bool) → r < rows_of (view_of src) → Held src (row_context src.tones (ascending src.accents) r last)
  unfolding view_of
  row_held_lem r last h = asked r last h
