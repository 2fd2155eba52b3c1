-- The reader goes through the accents of a sheet. Assumes nothing.
use Rattle.std.proofs.Common.{ℕ, zero, suc, ◌+◌, ◌≤◌, ◌<◌, ◌≡◌, refl, sym, ◌∙◌, true, not, List, arith, leb, length, get_or, ne_eqb}
use borrow.Author.Tests.{lt-leb}
use Rattle.spec_pack.specs.Ranges.{tolerances_fine}
use Rattle.spec_arithmetic.specs.Places.{number_at}
use Rattle.spec_arithmetic.specs.Files.{Out}
use Rattle.spec_pack.specs.Pack.{holds, accent_fine}
use Rattle.spec_lookup.specs.Source.{Accent, Source}
use Rattle.spec_sheet.specs.Sheet.{View, absent_accent, lists_of}
use Rattle.spec_sheet.specs.Reader.{SheetRead, size_of, due_next, accent_verdict, body_verdict, added}
use Rattle.tonekit_sheet.specs.Sheetable.{AccentSheetable}
use Rattle.tonekit_sheet_laws.proofs.Place.{up_to, accent_at, read_to, last_of}
use Rattle.tonekit_sheet_laws.proofs.Offsets.{up_to_length, holds_none}
use Rattle.tonekit_sheet_laws.proofs.Records.{AccentThere, accent_there}
use Rattle.tonekit_sheet_laws.proofs.Laid.{Laid}
use Rattle.tonekit_sheet_laws.proofs.Sheetables.{ViewSheetable}
use Rattle.tonekit_sheet_laws.proofs.Turns.{all_pass, Passes, Reach, stay, then, one_to}

-- ---- one accent
tolerances_there : (s : List ℕ) (o : ℕ) (a : Accent) → AccentThere s o a → AccentSheetable a → tolerances_fine s (o + 2) ≡ true
unfolding tolerances_fine
tolerances_there s o a w f =
    let p : o + 2 + 4 ≡ o + 6 = omega arith in
    let q : o + 2 + 8 ≡ o + 10 = omega arith in
    let r : o + 2 + 12 ≡ o + 14 = omega arith in
    rw (p, q, r, w.contour, w.onset, w.offset, w.turning, f.contour, f.onset, f.offset, f.turning)

accent_fine_lem : (s : List ℕ) (o : ℕ) (a : Accent) → AccentThere s o a → AccentSheetable a → accent_fine 2 s o ≡ true
accent_fine_lem s o a w f = rw (w.number, ne_eqb a.number 0 (λ e. omega (arith, f.least))) (tolerances_there s o a w f)

module _ (s : List ℕ) (d : Out SheetRead) (src : Source) (v : View) (sheetable : ViewSheetable src v) (laid : Laid s v (lists_of v)) where
  pub accent_read : (i : ℕ) → i < length v.accents → AccentThere s (accent_at v i) (get_or v.accents i absent_accent)
  accent_read i h =
      let f = sheetable.accents i h in
      accent_there s (accent_at v i) (get_or v.accents i absent_accent) f.contour_bits f.onset_bits f.offset_bits f.turning_bits (laid.accent i h)

  -- after all tones and i accents
  abbrev after : ℕ → SheetRead
  after i = read_to v (lists_of v) (last_of 24 19 i) (length v.tones) i 0 0 0 0

  due_accent : (i : ℕ) → due_next (after i) 19 ≡ true
  unfolding due_next
  due_accent zero = refl
  due_accent (suc i) = refl

  accent_new : (i : ℕ) → i < length v.accents → not (holds s (up_to (accent_at v) i) (number_at s (accent_at v i))) ≡ true
  accent_new i h =
      rw (holds_none s (accent_at v) i (number_at s (accent_at v i))
      (λ j l e. omega (arith, sheetable.rising j i l h, sym (accent_read j (omega arith)).number ∙ e ∙ (accent_read i h).number)))

  accent_pass : (i : ℕ) → i < length v.accents → Passes s (accent_at v i) (after i) 19 18
  unfolding size_of body_verdict accent_verdict
  accent_pass i h =
      let w = accent_read i h in
      record {
        kind = w.kind;
        sized = refl;
        some = omega arith;
        whole = w.whole;
        due = due_accent i;
        body =
            all_pass (leb 8 (length (up_to (accent_at v) i))) (accent_fine 2 s (accent_at v i)) (not (holds s (up_to (accent_at v) i) (number_at s (accent_at v i)))) true
            (lt-leb 8 (length (up_to (accent_at v) i)) (omega (arith, up_to_length (accent_at v) i, sheetable.few_accents)))
            (accent_fine_lem s (accent_at v i) (get_or v.accents i absent_accent) w (sheetable.accents i h)) (accent_new i h) refl;
      }

  accent_on : (i : ℕ) → i < length v.accents → Reach s d (accent_at v i) (after i) (accent_at v (suc i)) (after (suc i))
  unfolding added up_to
  accent_on i h = one_to d (accent_at v (suc i)) (after (suc i)) (accent_pass i h) (λ e. omega arith) (omega arith) refl

  accents_on : (n : ℕ) → n ≤ length v.accents → Reach s d (accent_at v 0) (after 0) (accent_at v n) (after n)
  accents_on zero h = stay s d (accent_at v 0) (after 0)
  accents_on (suc n) h = then (accents_on n (omega arith)) (accent_on n h)

  last_some : (n : ℕ) → 1 ≤ n → last_of 24 19 n ≡ 19
  last_some zero h = absurd (omega arith)
  last_some (suc n) h = refl

  -- all of them
  pub through_accents : Reach s d (accent_at v 0) (after 0) (accent_at v (length v.accents)) (read_to v (lists_of v) 19 (length v.tones) (length v.accents) 0 0 0 0)
  through_accents = rw (last_some (length v.accents) sheetable.some_accents) at (accents_on (length v.accents) (omega arith))
