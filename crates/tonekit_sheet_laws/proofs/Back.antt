-- A station that was read from the sheet of a source holds what the source holds: settings, tones, accents, and every lookup of a held context. Assumes nothing.
use Rattle.std.proofs.lemmas.List.{get_or-map}
use Rattle.std.proofs.Common.{ℕ, suc, ◌+◌, ◌≤◌, ◌<◌, ◌≡◌, ap, ◌∙◌, ⊎_elim, List, map, Bool, true, arith, length, get_or, ext_get_or}
use mathlib.Core.Option.{some}
use lib.ListN.{length-map}
use Rattle.spec_lookup.specs.Source.{Accent, Source, settings_at, accent_in, tone_in, tone_at as tone_is_read, tail_at, accent_at as accent_is_read, absent_tone}
use Rattle.spec_arithmetic.specs.Places.{index_of}
use Rattle.spec_lookup.specs.declared.Context.{Context}
use Rattle.spec_sheet.specs.Sheet.{View, absent_accent, prev_number, row_context, ascending, view_of, rows_of, lists_of, sheet}
use Rattle.spec_arithmetic.specs.Files.{Out, refused}
use Rattle.spec_sheet.specs.Reader.{SheetRead}
use Rattle.spec_sheet.specs.FromSheet.{prev_found, look_sheet, source_of_sheet}
use Rattle.spec_sheet.specs.Agree.{Held}
use Rattle.tonekit_sheet.specs.Sheetable.{Sheetable, components_in}
use Rattle.tonekit_core.specs.declared.Refusal.TheVariants.{CutShort}
use Rattle.tonekit_sheet_laws.proofs.Place.{up_to, tone_at, accent_at, read_to, last_of, st_of_view, st_of}
use Rattle.tonekit_sheet_laws.proofs.Offsets.{up_to_length, up_to_get}
use Rattle.tonekit_sheet_laws.proofs.Ascending.{accent_at_lem}
use Rattle.tonekit_sheet.proofs.RowPlaces.{place, accent_back, tone_back, prev_back}
use Rattle.tonekit_sheet_laws.proofs.Asked.{tone_at_lem}
use Rattle.tonekit_sheet_laws.proofs.Laid.{Laid}
use Rattle.tonekit_sheet_laws.proofs.Sheetables.{ViewSheetable, view_sheetable, held_in_order}
use Rattle.tonekit_sheet_laws.proofs.Tones.{settings_read, tone_read}
use Rattle.tonekit_sheet_laws.proofs.Accents.{accent_read}
use Rattle.tonekit_sheet_laws.proofs.Lookups.{FoundAt, accent_place_lem, tone_place_lem, prev_none, prev_tone, look_back}
use Rattle.tonekit_sheet_laws.proofs.Round.{sheet_laid}

-- ---- records read at offsets in order
all_read : {A : Type 0} (f : ℕ → A) (g : ℕ → ℕ) (l : List A) (d : A) → ((i : ℕ) → i < length l → f (g i) ≡ get_or l i d) → map f (up_to g (length l)) ≡ l
all_read f g l d h =
    let n : length (map f (up_to g (length l))) ≡ length l = length-map (up_to g (length l)) f ∙ up_to_length g (length l) in
    ext_get_or d (map f (up_to g (length l))) l n
    (λ i b. let c : i < length l = omega (arith, n) in
    get_or-map f (up_to g (length l)) i 0 d (rw (up_to_length g (length l)) c) ∙ ap f (up_to_get g (length l) i c) ∙ h i c)

module _ (s : List ℕ) (d : Out SheetRead) (src : Source) (v : View) (sheetable : ViewSheetable src v) (laid : Laid s v (lists_of v)) where
  settings_same : settings_at s 0 ≡ v.settings
  settings_same =
      let w = settings_read s d src v sheetable laid in
      λ i. record { temperature = w.temperature i; threshold = w.threshold i }

  tones_same : map (tone_is_read 6 24 s) (up_to tone_at (length v.tones)) ≡ v.tones
  tones_same =
      all_read (tone_is_read 6 24 s) tone_at v.tones absent_tone
      (λ k h. let w = tone_read s d src v sheetable laid k h in
      let f : tail_at 24 1 s (tone_at k + 15) ≡ (get_or v.tones k absent_tone).tail_final = rw w.tail w.final in
      let e : tail_at 24 5 s (tone_at k + 15) ≡ (get_or v.tones k absent_tone).tail_elsewhere = rw w.tail w.elsewhere in
      λ i. record { number = w.number i; prior = w.prior i; flag = w.flag i; from = w.from i; to = w.to i; tail_final = f i; tail_elsewhere = e i })

  accents_same : map (accent_is_read 2 s) (up_to (accent_at v) (length v.accents)) ≡ v.accents
  accents_same =
      all_read (accent_is_read 2 s) (accent_at v) v.accents absent_accent
      (λ k h. let w = accent_read s d src v sheetable laid k h in
      λ i. record { number = w.number i; contour = w.contour i; onset = w.onset i; offset = w.offset i; turning = w.turning i })

  -- a context whose numbers are held is looked up in its own row
  record Looked (st : SheetRead) (c : Context) : Type 0 where
    row : ℕ
    look : look_sheet s st c ≡ v.row row c.last
    context : row_context v.tones v.accents row c.last ≡ c

  looked : (last total : ℕ) (c : Context)
      → FoundAt (index_of s (up_to (accent_at v) (length v.accents)) c.accent) (length v.accents) (λ i. (get_or v.accents i absent_accent).number) c.accent
      → FoundAt (index_of s (up_to tone_at (length v.tones)) c.tone) (length v.tones) (λ i. (get_or v.tones i absent_tone).number) c.tone
      → FoundAt (prev_found s (read_to v (lists_of v) last (length v.tones) (length v.accents) (rows_of v) (length (lists_of v)) 0 total) c.prev) (suc (length v.tones)) (prev_number v.tones) c.prev
      → Looked (read_to v (lists_of v) last (length v.tones) (length v.accents) (rows_of v) (length (lists_of v)) 0 total) c
  unfolding look_sheet row_context
  looked last total c a t p =
      let m = length v.accents in
      let n = length v.tones in
      let lp : p.at ≤ n = omega (arith, p.there) in
      record {
        row = place m n a.at t.at p.at a.there t.there lp;
        look = rw (a.is, t.is, p.is) (look_back s d src v sheetable laid last total c a.at t.at p.at a.there t.there lp);
        context = λ i. record {
          accent = (ap (λ (k : ℕ). (get_or v.accents k absent_accent).number) (accent_back m n a.at t.at p.at a.there t.there lp) ∙ a.same) i;
          tone = (ap (λ (k : ℕ). (get_or v.tones k absent_tone).number) (tone_back m n a.at t.at p.at a.there t.there lp) ∙ t.same) i;
          prev = (ap (prev_number v.tones) (prev_back m n a.at t.at p.at a.there t.there lp) ∙ p.same) i;
          last = c.last;
        };
      }

-- ---- what is read from a source's own sheet
abbrev pub read_back : Source → Source
read_back src = source_of_sheet (sheet src) (st_of src)

module _ (src : Source) (sheetable : Sheetable src) where
  abbrev d : Out SheetRead
  d = refused CutShort 0

  pub settings_back : (read_back src).settings ≡ src.settings
  unfolding source_of_sheet view_of
  settings_back = settings_same (sheet src) d src (view_of src) (view_sheetable src sheetable) (sheet_laid src sheetable)

  pub tones_back : (read_back src).tones ≡ src.tones
  unfolding source_of_sheet st_of st_of_view view_of
  tones_back = tones_same (sheet src) d src (view_of src) (view_sheetable src sheetable) (sheet_laid src sheetable)

  in_order_back : (read_back src).accents ≡ ascending src.accents
  unfolding source_of_sheet st_of st_of_view view_of
  in_order_back = accents_same (sheet src) d src (view_of src) (view_sheetable src sheetable) (sheet_laid src sheetable)

  pub accents_back : (n : ℕ) → accent_in (read_back src).accents n ≡ accent_in src.accents n
  accents_back n = ap (λ (l : List Accent). accent_in l n) in_order_back ∙ held_in_order src sheetable n

  -- the places of a held context's numbers
  accent_of_lem : (n : ℕ) (a : Accent) → accent_in src.accents n ≡ some a → (m : ℕ) × (m < length (view_of src).accents) × ((get_or (view_of src).accents m absent_accent).number ≡ n)
  unfolding view_of
  accent_of_lem n a h =
      let r = accent_at_lem (ascending src.accents) n a (held_in_order src sheetable n ∙ h) in
      (r.place, r.there, ap (λ (x : Accent). x.number) r.same ∙ r.number)

  tone_of : (n : ℕ) → tone_in src.tones n ≡ true → (m : ℕ) × (m < length (view_of src).tones) × ((get_or (view_of src).tones m absent_tone).number ≡ n)
  unfolding view_of
  tone_of n h = tone_at_lem src.tones n h

  row_look : (row : ℕ) (last : Bool) (c : Context) → row_context (view_of src).tones (view_of src).accents row last ≡ c → (view_of src).row row last ≡ src.look c
  unfolding view_of
  row_look row last c e = ap src.look e

  pub lookups_back : (c : Context) → Held src c → (read_back src).look c ≡ src.look c
  unfolding source_of_sheet st_of st_of_view
  lookups_back c h =
      let s = sheet src in
      let v = view_of src in
      let f = view_sheetable src sheetable in
      let l = sheet_laid src sheetable in
      let last = last_of 20 22 (length (lists_of v)) in
      let total = components_in (lists_of v) in
      let a = accent_of_lem c.accent h.accent.0 h.accent.1 in
      let t = tone_of c.tone h.tone in
      let r =
      looked s d src v f l last total c (accent_place_lem s d src v f l last total c.accent a.0 a.1 a.2) (tone_place_lem s d src v f l last total c.tone t.0 t.1 t.2)
      (⊎_elim (λ e. prev_none s d src v f l last total c.prev e) (λ e. let p = tone_of c.prev e in prev_tone s d src v f l last total c.prev p.0 p.1 p.2) h.prev) in
      r.look ∙ row_look r.row c.last c r.context
