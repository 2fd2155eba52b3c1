-- The reader goes through the rows of a sheet. Assumes nothing.
use Rattle.std.proofs.Common.{ℕ, zero, suc, ◌+◌, ◌≤◌, ◌<◌, ◌≡◌, refl, sym, ◌∙◌, true, false, List, arith, add-one, length, get_or, ne_eqb, lt-ltb}
use Rattle.spec_arithmetic.specs.Fields.{byte_at}
use Rattle.spec_arithmetic.specs.Files.{Out}
use Rattle.spec_pack.specs.Pack.{zero_or_held}
use Rattle.spec_lookup.specs.Source.{Source, absent_tone}
use Rattle.spec_lookup.specs.declared.Context.{Context}
use Rattle.spec_sheet.specs.Number.{number_in}
use Rattle.spec_sheet.specs.Sheet.{View, absent_accent, accent_place, tone_place, prev_place, prev_number, row_context, rows_of, lists_of}
use Rattle.spec_sheet.specs.Reader.{SheetRead, size_of, due_next, rows_due, row_verdict, body_verdict, added}
use Rattle.tonekit_sheet_laws.proofs.Place.{up_to, tone_at, accent_at, row_at, read_to, last_of}
use Rattle.tonekit_sheet.specs.Parts.{row_fine, row_held}
use Rattle.tonekit_sheet_laws.proofs.Offsets.{up_to_length, holds_one, zero_or_one, zero_or_zero}
use Rattle.tonekit_sheet_laws.proofs.Records.{RowThere, row_there}
use Rattle.tonekit_sheet_laws.proofs.Laid.{Laid}
use Rattle.tonekit_sheet.proofs.RowPlaces.{Places, row_places}
use Rattle.tonekit_sheet_laws.proofs.Sheetables.{ViewSheetable}
use Rattle.tonekit_sheet_laws.proofs.Turns.{all_pass, Passes, Reach, stay, then, one_to}
use Rattle.tonekit_sheet_laws.proofs.Tones.{tone_read}
use Rattle.tonekit_sheet_laws.proofs.Accents.{accent_read}

module _ (s : List ℕ) (d : Out SheetRead) (src : Source) (v : View) (sheetable : ViewSheetable src v) (laid : Laid s v (lists_of v)) where
  -- the context of row r
  abbrev pub asks : ℕ → Context
  asks r = row_context v.tones v.accents r false

  pub row_read : (r : ℕ) → r < rows_of v → RowThere s (row_at v r) (asks r) (number_in (lists_of v) (v.row r false)) (number_in (lists_of v) (v.row r true))
  row_read r h = row_there s (row_at v r) (asks r) (number_in (lists_of v) (v.row r false)) (number_in (lists_of v) (v.row r true)) (laid.row r h)

  pub places : (r : ℕ) → r < rows_of v → Places (length v.accents) (length v.tones) r
  places r h = row_places (length v.accents) (length v.tones) r sheetable.some_tones h

  -- what a row has at its place
  pub asks_accent : (r : ℕ) → (asks r).accent ≡ (get_or v.accents (accent_place (length v.tones) r) absent_accent).number
  unfolding row_context
  asks_accent r = refl

  pub asks_tone : (r : ℕ) → (asks r).tone ≡ (get_or v.tones (tone_place (length v.tones) r) absent_tone).number
  unfolding row_context
  asks_tone r = refl

  pub asks_prev : (r : ℕ) → (asks r).prev ≡ prev_number v.tones (prev_place (length v.tones) r)
  unfolding row_context
  asks_prev r = refl

  -- after all tones, all accents and r rows
  abbrev after : ℕ → SheetRead
  after r = read_to v (lists_of v) (last_of 19 20 r) (length v.tones) (length v.accents) r 0 0 0

  pub rows_due_lem : (last r l due total : ℕ) → rows_due (read_to v (lists_of v) last (length v.tones) (length v.accents) r l due total) ≡ rows_of v
  rows_due_lem last r l due total = rw (up_to_length (accent_at v) (length v.accents), up_to_length tone_at (length v.tones))

  due_row : (r : ℕ) → r < rows_of v → due_next (after r) 20 ≡ true
  unfolding due_next
  due_row zero h = rw (rows_due_lem 19 0 0 0 0) (lt-ltb 0 (rows_of v) h)
  due_row (suc r) h = rw (rows_due_lem 20 (suc r) 0 0 0) (lt-ltb (suc r) (rows_of v) h)

  row_fine_lem : (r : ℕ) → r < rows_of v → row_fine s (row_at v r) ≡ true
  row_fine_lem r h =
      let w = row_read r h in
      let p = places r h in
      let a = (sheetable.accents (accent_place (length v.tones) r) p.accent).least in
      let t = (sheetable.tones (tone_place (length v.tones) r) p.tone).least in
      rw (w.accent, w.tone, ne_eqb (asks r).accent 0 (λ e. omega (arith, asks_accent r)), ne_eqb (asks r).tone 0 (λ e. omega (arith, asks_tone r)))

  prev_held : (x p : ℕ) → p ≤ length v.tones → x ≡ prev_number v.tones p → zero_or_held s (up_to tone_at (length v.tones)) x ≡ true
  prev_held x zero h e = zero_or_zero s tone_at (length v.tones) x e
  prev_held x (suc p) h e = zero_or_one s tone_at (length v.tones) x p h ((tone_read s d src v sheetable laid p h).number ∙ sym e)

  row_held_lem : (r : ℕ) → r < rows_of v → row_held s (row_at v r) (after r) ≡ true
  row_held_lem r h =
      let w = row_read r h in
      let p = places r h in
      let a = accent_place (length v.tones) r in
      let t = tone_place (length v.tones) r in
      rw (
        holds_one s (accent_at v) (length v.accents) (byte_at s (row_at v r + 1)) a p.accent ((accent_read s d src v sheetable laid a p.accent).number ∙ sym (asks_accent r) ∙ sym w.accent),
        holds_one s tone_at (length v.tones) (byte_at s (row_at v r + 2)) t p.tone ((tone_read s d src v sheetable laid t p.tone).number ∙ sym (asks_tone r) ∙ sym w.tone),
      )
      (prev_held (byte_at s (row_at v r + 3)) (prev_place (length v.tones) r) p.prev (w.prev ∙ asks_prev r))

  row_pass : (r : ℕ) → r < rows_of v → Passes s (row_at v r) (after r) 20 6
  unfolding size_of body_verdict row_verdict
  row_pass r h =
      let w = row_read r h in
      record {
        kind = w.kind;
        sized = refl;
        some = omega arith;
        whole = w.whole;
        due = due_row r h;
        body = all_pass false (row_fine s (row_at v r)) true (row_held s (row_at v r) (after r)) refl (row_fine_lem r h) refl (row_held_lem r h);
      }

  row_on : (r : ℕ) → r < rows_of v → Reach s d (row_at v r) (after r) (row_at v (suc r)) (after (suc r))
  unfolding added
  row_on r h = one_to d (row_at v (suc r)) (after (suc r)) (row_pass r h) (λ e. omega arith) (omega arith) (rw add-one)

  rows_on : (n : ℕ) → n ≤ rows_of v → Reach s d (row_at v 0) (after 0) (row_at v n) (after n)
  rows_on zero h = stay s d (row_at v 0) (after 0)
  rows_on (suc n) h = then (rows_on n (omega arith)) (row_on n h)

  last_some : (n : ℕ) → 1 ≤ n → last_of 19 20 n ≡ 20
  last_some zero h = absurd (omega arith)
  last_some (suc n) h = refl

  -- all of them
  pub through_rows : 1 ≤ rows_of v → Reach s d (row_at v 0) (after 0) (row_at v (rows_of v)) (read_to v (lists_of v) 20 (length v.tones) (length v.accents) (rows_of v) 0 0 0)
  through_rows h = rw (last_some (rows_of v) h) at (rows_on (rows_of v) (omega arith))
