-- The sheets of two sources that have one are equal in every bit exactly when settings, tones, accents and the lookups of all held contexts agree. Assumes nothing.
use Rattle.std.proofs.Common.{ℕ, zero, suc, ◌<◌, ◌≡◌, refl, sym, ap, ap₂, ◌∙◌, subst, ◌⊎◌, ◌↔◌, Bool, true, false, cond, List, [], arith, length, get_or}
use mathlib.Core.Option.{Option}
use Rattle.spec_lookup.specs.Source.{Tone, Accent, Carried, Source, accent_in, tone_in, absent_tone}
use Rattle.spec_lookup.specs.declared.Context.{Context}
use Rattle.spec_sheet.specs.Number.{noted, number_in}
use Rattle.spec_sheet.specs.Pieces.{piecewise}
use Rattle.spec_sheet.specs.Sheet.{or_skip, asc_from, ascending, View, row_context, row_bytes, view_of, rows_of, lists_of, bytes_with, sheet}
use Rattle.spec_arithmetic.specs.Files.{loaded}
use Rattle.spec_sheet.specs.Reader.{SheetRead, load_sheet}
use Rattle.tonekit_sheet.specs.Parts.{bytes_of, note_turn, row_piece}
use Rattle.spec_sheet.specs.FromSheet.{source_of_sheet}
use Rattle.spec_sheet.specs.Agree.{Held, Agree}
use Rattle.tonekit_sheet.specs.Sheetable.{Sheetable}
use Rattle.tonekit_sheet_laws.proofs.Place.{st_of}
use Rattle.tonekit_core.proofs.LoopLaws.{range_same}
use Rattle.tonekit_sheet_laws.proofs.Bytes.{gather_same}
use Rattle.tonekit_sheet.proofs.RowPlaces.{some_tone}
use Rattle.tonekit_sheet_laws.proofs.Asked.{row_held_lem}
use Rattle.tonekit_sheet_laws.proofs.Round.{round}
use Rattle.tonekit_sheet_laws.proofs.Back.{read_back, settings_back, tones_back, accents_back, lookups_back}

-- ---- a sheet is a function of what is held, whether that is within its limits or not
asc_same : (a b : List Accent) → ((n : ℕ) → accent_in a n ≡ accent_in b n) → (k n : ℕ) → asc_from k n a ≡ asc_from k n b
unfolding asc_from
asc_same a b h zero n = refl
asc_same a b h (suc k) n = ap₂ or_skip (h n) (asc_same a b h k (suc n))

-- views that differ in their rows alone, and those give the same
module _ (v w : View) (settings : v.settings ≡ w.settings) (tones : v.tones ≡ w.tones) (accents : v.accents ≡ w.accents)
    (same : (r : ℕ) (last : Bool) → r < rows_of v → v.row r last ≡ w.row r last) where
  mixed : View
  mixed = record { settings = v.settings; tones = v.tones; accents = v.accents; row = w.row }

  mixed_is : mixed ≡ w
  unfolding mixed
  mixed_is = λ i. record { settings = settings i; tones = tones i; accents = accents i; row = w.row }

  lists_same : lists_of v ≡ lists_of mixed
  unfolding mixed lists_of
  lists_same =
      range_same (note_turn v) (note_turn mixed) 0 (rows_of v) [] (omega arith)
      (λ r l h. ap₂ (λ (x y : Option (List Carried)). noted (noted l x) y) (same r false h) (same r true h))

  rows_same : (lists : List (List Carried)) → piecewise (row_piece v lists) 0 (rows_of v) ≡ piecewise (row_piece mixed lists) 0 (rows_of v)
  unfolding mixed
  rows_same lists =
      gather_same (row_piece v lists) (row_piece mixed lists) (rows_of v)
      (λ r h. ap₂ (λ (x y : Option (List Carried)). row_bytes (row_context v.tones v.accents r false) (number_in lists x) (number_in lists y)) (same r false h) (same r true h))

  pub views_same : bytes_of v ≡ bytes_of w
  unfolding mixed bytes_with
  views_same = rw (lists_same, rows_same (lists_of mixed)) (ap bytes_of mixed_is)

-- the rows only ask what is held, and there what agrees gives the same
module _ (a b : Source) (agree : Agree a b) where
  accents_same : ascending a.accents ≡ ascending b.accents
  unfolding ascending
  accents_same = asc_same a.accents b.accents agree.accents 255 1

  row_same : (r : ℕ) (last : Bool) → r < rows_of (view_of a) → (view_of a).row r last ≡ (view_of b).row r last
  unfolding view_of
  row_same r last h =
      agree.lookups (row_context a.tones (ascending a.accents) r last) (row_held_lem a (some_tone (length (ascending a.accents)) (length a.tones) r h) r last h)
      ∙ ap₂ (λ (x : List Tone) (y : List Accent). b.look (row_context x y r last)) agree.tones accents_same

  pub agree_same : sheet a ≡ sheet b
  unfolding sheet view_of
  agree_same = views_same (view_of a) (view_of b) agree.settings agree.tones accents_same row_same

-- ---- and what is held can be read from it
pub loaded_same : (x y : SheetRead) (m n : ℕ) → loaded x m ≡ loaded y n → x ≡ y
loaded_same x y m n h = cc

module _ (a b : Source) (fa : Sheetable a) (fb : Sheetable b) (e : sheet a ≡ sheet b) where
  read_same : read_back a ≡ read_back b
  read_same = ap₂ source_of_sheet e (loaded_same (st_of a) (st_of b) _ _ (sym (round a fa) ∙ ap load_sheet e ∙ round b fb))

  tones_agree : a.tones ≡ b.tones
  tones_agree = sym (tones_back a fa) ∙ ap (λ (x : Source). x.tones) read_same ∙ tones_back b fb

  numbers_agree : (n : ℕ) → accent_in a.accents n ≡ accent_in b.accents n
  numbers_agree n = sym (accents_back a fa n) ∙ ap (λ (x : Source). accent_in x.accents n) read_same ∙ accents_back b fb n

  held_too : (c : Context) → Held a c → Held b c
  held_too c h = record {
    accent = (h.accent.0, sym (numbers_agree c.accent) ∙ h.accent.1);
    tone = subst (λ (l : List Tone). tone_in l c.tone ≡ true) tones_agree h.tone;
    prev = subst (λ (l : List Tone). (c.prev ≡ 0) ⊎ (tone_in l c.prev ≡ true)) tones_agree h.prev;
  }

  agrees : Agree a b
  agrees = record {
    settings = sym (settings_back a fa) ∙ ap (λ (x : Source). x.settings) read_same ∙ settings_back b fb;
    tones = tones_agree;
    accents = numbers_agree;
    lookups = λ c h. sym (lookups_back a fa c h) ∙ ap (λ (x : Source). x.look c) read_same ∙ lookups_back b fb c (held_too c h);
  }

pub exactly : (a b : Source) → Sheetable a → Sheetable b → (sheet a ≡ sheet b) ↔ Agree a b
exactly a b fa fb = (agrees a b fa fb, agree_same a b)

-- the tail value of tone i, at a phrase's end or elsewhere
abbrev pub tail_in : List Tone → ℕ → Bool → ℕ
tail_in tones i last = cond last (get_or tones i absent_tone).tail_final (get_or tones i absent_tone).tail_elsewhere

-- so a tail is told: sources of which some tone has another tail value, if only in a bit, have different sheets
pub tails_told : (a b : Source) → Sheetable a → Sheetable b → (i : ℕ) (last : Bool) → (tail_in a.tones i last ≡ tail_in b.tones i last → ⊥) → sheet a ≡ sheet b → ⊥
tails_told a b fa fb i last differ e = differ (ap (λ (tones : List Tone). tail_in tones i last) (tones_agree a b fa fb e))
