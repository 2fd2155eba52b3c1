-- A lookup by row: in the source that a sheet holds, a row's context gives the lists that the row names. Assumes nothing.
use Rattle.std.proofs.lemmas.List.{get_or-map}
use Rattle.std.proofs.Common.{ℕ, zero, suc, ◌+◌, ◌≤◌, ◌<◌, ◌≡◌, refl, sym, ap, ◌∙◌, cond, Bool, List, map, arith, add-one, length, get_or, eq-eqb, ne_eqb, Some, None}
use lib.ListN.{length-map}
use Rattle.tonekit_core.specs.Loop.{range_to}
use Rattle.tonekit_core.proofs.LoopLaws.{to_again, to_stop}
use Rattle.spec_arithmetic.specs.Fields.{byte_at}
use Rattle.spec_arithmetic.specs.Places.{number_at, index_of}
use Rattle.tonekit_bytes.specs.Places.{index_turn}
use Rattle.spec_lookup.specs.Source.{Tone, tone_at, accent_at, absent_tone}
use Rattle.spec_lookup.specs.declared.Context.{Context}
use Rattle.spec_sheet.specs.Sheet.{absent_accent, accent_place, tone_place, prev_place, prev_number, row_context}
use Rattle.spec_sheet.specs.Reader.{SheetRead, rows_due, row_at, prev_due}
use Rattle.spec_sheet.specs.FromSheet.{list_numbered, prev_found, look_sheet}
use Rattle.tonekit_sheet.proofs.RowPlaces.{Places, some_tone, row_places}
use Rattle.tonekit_sheet_inverse.proofs.Loads.{Loads}
use Rattle.tonekit_sheet_inverse.proofs.Order.{accent_number_of, Ordered}
use Rattle.tonekit_sheet.proofs.RowPlaces.{row_back}

-- ---- the place of a number that no record before it has
module _ (s os : List ℕ) (n i : ℕ) (b : i < length os) (e : number_at s (get_or os i 0) ≡ n) (new : (j : ℕ) → j < i → number_at s (get_or os j 0) ≡ n → ⊥) where
  searched : (k j : ℕ) → j + k ≡ i → range_to (index_turn s os n) (λ u. None) j (length os) 0 ≡ Some i
  searched zero j q =
      let z : j ≡ i = omega arith in
      rw z (sym (to_stop (index_turn s os n) (λ u. None) {a = Some i} refl b (rw (eq-eqb (number_at s (get_or os i 0)) n e))))
  searched (suc k) j q =
      sym (to_again (index_turn s os n) (λ u. None) {t = 0} refl (omega arith) (rw (ne_eqb (number_at s (get_or os j 0)) n (new j (omega arith)))))
      ∙ searched k (j + 1) (omega arith)

  pub index_at : index_of s os n ≡ Some i
  unfolding index_of
  index_at = searched i 0 (omega arith)

-- the context of row r, by the records that are due there
abbrev pub context_at : List ℕ → SheetRead → ℕ → Bool → Context
context_at s st r last = record {
  accent = accent_number_of s st (accent_place (length st.tones) r);
  tone = number_at s (get_or st.tones (tone_place (length st.tones) r) 0);
  prev = prev_due s st (prev_place (length st.tones) r);
  last = last;
}

module _ (s : List ℕ) (st : SheetRead) (e : ℕ) (l : Loads s st e) (o : Ordered s st) where
  accent_at_lem : (i : ℕ) → i < length st.accents → index_of s st.accents (accent_number_of s st i) ≡ Some i
  accent_at_lem i b = index_at s st.accents (accent_number_of s st i) i b refl (λ j c q. omega (arith, o.accents_up j i c b))

  tone_at_lem : (i : ℕ) → i < length st.tones → index_of s st.tones (number_at s (get_or st.tones i 0)) ≡ Some i
  tone_at_lem i b = index_at s st.tones (number_at s (get_or st.tones i 0)) i b refl (λ j c q. l.tones_once j i c b q)

  prev_at : (p : ℕ) → p ≤ length st.tones → prev_found s st (prev_due s st p) ≡ Some p
  prev_at zero b = refl
  prev_at (suc p) b =
      let n = number_at s (get_or st.tones p 0) in
      let z : n ≡ 0 → ⊥ = λ q. omega (arith, (l.tones p (omega arith)).least) in
      rw (ne_eqb n 0 z, tone_at_lem p (omega arith), add-one)

  prev_number_lem : (p : ℕ) → p ≤ length st.tones → prev_number (map (tone_at 6 24 s) st.tones) p ≡ prev_due s st p
  prev_number_lem zero b = refl
  prev_number_lem (suc p) b = ap (λ (t : Tone). t.number) (get_or-map (tone_at 6 24 s) st.tones p 0 absent_tone (omega arith))

  places : (r : ℕ) → r < st.rows → Places (length st.accents) (length st.tones) r
  places r b =
      let h : r < rows_due st = omega (arith, l.all_rows) in
      row_places (length st.accents) (length st.tones) r (some_tone (length st.accents) (length st.tones) r h) h

  pub row_context_lem : (r : ℕ) (last : Bool) → r < st.rows → row_context (map (tone_at 6 24 s) st.tones) (map (accent_at 2 s) st.accents) r last ≡ context_at s st r last
  unfolding row_context
  row_context_lem r last b =
      let p = places r b in
      rw (length-map st.tones (tone_at 6 24 s), get_or-map (accent_at 2 s) st.accents (accent_place (length st.tones) r) 0 absent_accent p.accent, get_or-map (tone_at 6 24 s) st.tones (tone_place (length st.tones) r) 0 absent_tone p.tone, prev_number_lem (prev_place (length st.tones) r) p.prev)

  look_placed_lem : (r : ℕ) (last : Bool) → r < st.rows → look_sheet s st (context_at s st r last) ≡ list_numbered s st (byte_at s (row_at st r + cond last 5 4))
  unfolding look_sheet
  look_placed_lem r last b =
      let p = places r b in
      rw (accent_at_lem (accent_place (length st.tones) r) p.accent, tone_at_lem (tone_place (length st.tones) r) p.tone, prev_at (prev_place (length st.tones) r) p.prev, row_back (length st.tones) r)

  pub look_row : (r : ℕ) (last : Bool) → r < st.rows
      → look_sheet s st (row_context (map (tone_at 6 24 s) st.tones) (map (accent_at 2 s) st.accents) r last) ≡ list_numbered s st (byte_at s (row_at st r + cond last 5 4))
  look_row r last b = ap (look_sheet s st) (row_context_lem r last b) ∙ look_placed_lem r last b
