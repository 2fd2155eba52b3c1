-- The reader goes through the settings and the tones of a sheet, each with its tail. Assumes nothing.
use Rattle.std.proofs.Common.{ℕ, zero, suc, ◌+◌, ◌≤◌, ◌<◌, ◌≡◌, refl, sym, ◌∙◌, true, false, not, List, arith, leb, length, get_or, ne_eqb}
use borrow.Author.Tests.{lt-leb}
use Rattle.spec_pack.specs.Ranges.{region_fine, tails_fine}
use Rattle.spec_arithmetic.specs.Places.{number_at}
use Rattle.spec_arithmetic.specs.Files.{Out}
use Rattle.spec_pack.specs.Pack.{holds, settings_verdict, tail_verdict}
use Rattle.spec_lookup.specs.Source.{Tone, Source, absent_tone}
use Rattle.spec_sheet.specs.Sheet.{View, lists_of}
use Rattle.spec_sheet.specs.Reader.{SheetRead, size_of, due_next, tone_fine, tone_verdict, body_verdict, added, sheet_reader}
use Rattle.tonekit_sheet.specs.Sheetable.{ToneSheetable, region_sheetable}
use Rattle.tonekit_sheet_laws.proofs.Place.{up_to, tone_at, read_to, last_of}
use Rattle.tonekit_sheet_laws.proofs.Offsets.{up_to_length, holds_none}
use Rattle.tonekit_sheet_laws.proofs.Records.{SettingsThere, settings_there, ToneThere, tone_there}
use Rattle.tonekit_sheet_laws.proofs.Laid.{Laid}
use Rattle.tonekit_sheet_laws.proofs.Sheetables.{ViewSheetable}
use Rattle.tonekit_sheet_laws.proofs.Turns.{all_pass, Passes, Reach, stay, then, one_to}

-- ---- one tone
region_there : (s : List ℕ) (o : ℕ) (t : Tone) → ToneThere s o t → region_fine s (o + 6) ≡ region_sheetable t
unfolding region_fine
region_there s o t w =
    let a : o + 6 + 1 ≡ o + 7 = omega arith in
    let b : o + 6 + 5 ≡ o + 11 = omega arith in
    rw (a, b, w.flag, w.from, w.to)

tone_fine_lem : (s : List ℕ) (o : ℕ) (t : Tone) → ToneThere s o t → ToneSheetable t → tone_fine s o ≡ true
tone_fine_lem s o t w f =
    rw (region_there s o t w, w.number, w.prior, ne_eqb t.number 0 (λ e. omega (arith, f.least)), f.prior) f.region

tails_there : (s : List ℕ) (o : ℕ) (t : Tone) → ToneThere s o t → ToneSheetable t → tails_fine s (o + 15) ≡ true
unfolding tails_fine
tails_there s o t w f = rw (w.final, w.elsewhere, f.tail_final) f.tail_elsewhere

module _ (s : List ℕ) (d : Out SheetRead) (src : Source) (v : View) (sheetable : ViewSheetable src v) (laid : Laid s v (lists_of v)) where
  pub settings_read : SettingsThere s 0 v.settings
  settings_read = settings_there s 0 v.settings sheetable.settings.temperature_bits sheetable.settings.threshold_bits laid.settings

  pub tone_read : (i : ℕ) → i < length v.tones → ToneThere s (tone_at i) (get_or v.tones i absent_tone)
  tone_read i h =
      let f = sheetable.tones i h in
      tone_there s (tone_at i) (get_or v.tones i absent_tone) f.prior_bits f.from_bits f.to_bits f.tail_final_bits f.tail_elsewhere_bits (laid.tone i h)

  -- after i tones and their tails, and before the tail of the last of i
  abbrev after : ℕ → SheetRead
  after i = read_to v (lists_of v) (last_of 17 24 i) i 0 0 0 0 0

  abbrev between : ℕ → SheetRead
  between i = read_to v (lists_of v) 18 i 0 0 0 0 0

  settings_pass : Passes s 0 sheet_reader.start.st 17 9
  unfolding size_of due_next body_verdict settings_verdict
  settings_pass =
      let w = settings_read in
      record {
        kind = w.kind;
        sized = refl;
        some = omega arith;
        whole = w.whole;
        due = refl;
        body = rw (w.temperature, w.threshold, sheetable.settings.temperature, sheetable.settings.threshold);
      }

  settings_on : Reach s d 0 sheet_reader.start.st 9 (after 0)
  unfolding added up_to
  settings_on = one_to d 9 (after 0) settings_pass (λ e. omega arith) refl refl

  due_tone : (i : ℕ) → due_next (after i) 18 ≡ true
  unfolding due_next
  due_tone zero = refl
  due_tone (suc i) = refl

  tone_new : (i : ℕ) → i < length v.tones → not (holds s (up_to tone_at i) (number_at s (tone_at i))) ≡ true
  tone_new i h =
      rw (holds_none s tone_at i (number_at s (tone_at i))
      (λ j l e. let q : j ≡ i = sheetable.tones_once j i (omega arith) h (sym (tone_read j (omega arith)).number ∙ e ∙ (tone_read i h).number) in omega arith))

  tone_pass : (i : ℕ) → i < length v.tones → Passes s (tone_at i) (after i) 18 15
  unfolding size_of body_verdict tone_verdict
  tone_pass i h =
      let w = tone_read i h in
      record {
        kind = w.kind;
        sized = refl;
        some = omega arith;
        whole = omega (arith, w.whole);
        due = due_tone i;
        body =
            all_pass (leb 8 (length (up_to tone_at i))) (tone_fine s (tone_at i)) (not (holds s (up_to tone_at i) (number_at s (tone_at i)))) true
            (lt-leb 8 (length (up_to tone_at i)) (omega (arith, up_to_length tone_at i, sheetable.few_tones)))
            (tone_fine_lem s (tone_at i) (get_or v.tones i absent_tone) w (sheetable.tones i h)) (tone_new i h) refl;
      }

  tail_pass : (i : ℕ) → i < length v.tones → Passes s (tone_at i + 15) (between (suc i)) 24 9
  unfolding size_of due_next body_verdict tail_verdict
  tail_pass i h =
      let w = tone_read i h in
      record {
        kind = w.tail;
        sized = refl;
        some = omega arith;
        whole = omega (arith, w.whole);
        due = refl;
        body = all_pass false (tails_fine s (tone_at i + 15)) true true refl (tails_there s (tone_at i) (get_or v.tones i absent_tone) w (sheetable.tones i h)) refl refl;
      }

  tone_on : (i : ℕ) → i < length v.tones → Reach s d (tone_at i) (after i) (tone_at (suc i)) (after (suc i))
  unfolding added up_to
  tone_on i h =
      then (one_to d (tone_at i + 15) (between (suc i)) (tone_pass i h) (λ e. omega arith) refl refl)
      (one_to d (tone_at (suc i)) (after (suc i)) (tail_pass i h) (λ e. omega arith) (omega arith) refl)

  tones_on : (n : ℕ) → n ≤ length v.tones → Reach s d 9 (after 0) (tone_at n) (after n)
  tones_on zero h = stay s d 9 (after 0)
  tones_on (suc n) h = then (tones_on n (omega arith)) (tone_on n h)

  last_some : (n : ℕ) → 1 ≤ n → last_of 17 24 n ≡ 24
  last_some zero h = absurd (omega arith)
  last_some (suc n) h = refl

  -- all of them
  pub through_tones : Reach s d 0 sheet_reader.start.st (tone_at (length v.tones)) (read_to v (lists_of v) 24 (length v.tones) 0 0 0 0 0)
  through_tones = then settings_on (rw (last_some (length v.tones) sheetable.some_tones) at (tones_on (length v.tones) (omega arith)))
