-- A sheet that loads is the sheet of what it holds: reading and writing are inverse. Assumes nothing.
use Rattle.std.proofs.lemmas.List.{get_or-map}
use Rattle.std.proofs.Common.{ℕ, ◌+◌, ◌*◌, ◌<◌, ◌≡◌, refl, sym, ap, ◌∙◌, true, false, List, map, arith, add-one, length, get_or}
use lib.ListN.{length-map}
use Rattle.spec_arithmetic.specs.Fields.{byte_at}
use Rattle.spec_arithmetic.specs.Places.{number_at}
use Rattle.tonekit_core.proofs.Split.{absurd_bool}
use Rattle.spec_lookup.specs.Source.{Tone, Accent, settings_at, tone_at, accent_at, absent_tone}
use Rattle.spec_sheet.specs.Agree.{Bytes}
use Rattle.spec_sheet.specs.Pieces.{piecewise}
use Rattle.spec_sheet.specs.Number.{number_in}
use Rattle.spec_sheet.specs.Sheet.{ascending, absent_accent, row_context, View, view_of, rows_of, lists_of, tone_bytes, accent_bytes, list_bytes, bytes_with, sheet}
use Rattle.spec_sheet.specs.Reader.{SheetRead, row_at, list_size, load_sheet}
use Rattle.spec_arithmetic.specs.Files.{loaded}
use Rattle.spec_sheet.specs.FromSheet.{look_sheet, source_of_sheet}
use Rattle.tonekit_sheet_inverse.proofs.Place.{rows_from, list_place, lists_from}
use Rattle.tonekit_sheet.specs.Parts.{bytes_of, tone_piece, accent_piece, row_piece, list_piece}
use Rattle.tonekit_sheet_inverse.proofs.Spans.{Spans, one_spans, joined, gather_spans, spans_all}
use Rattle.tonekit_sheet_inverse.proofs.Loads.{Loads, loads_whole}
use Rattle.tonekit_sheet_inverse.proofs.Order.{accent_number_of, first_list, final_list, Ordered, ordered}
use Rattle.tonekit_sheet_inverse.proofs.Ascending.{number_of, ascending_up}
use Rattle.tonekit_sheet_inverse.proofs.Look.{context_at, row_context_lem, look_row}
use Rattle.tonekit_sheet_inverse.proofs.Pieces.{ListIs, settings_spans, tone_spans, accent_spans, row_spans, list_spans, alike}
use Rattle.tonekit_sheet_inverse.proofs.FirstUse.{content, contents, contents_length, contents_get, number_is, lists_are}

-- what the sheet of a source is made of, where the source is what a sheet holds: its accents stand in order already
abbrev tones_of : List ℕ → SheetRead → List Tone
tones_of s st = map (tone_at 6 24 s) st.tones

abbrev accents_of : List ℕ → SheetRead → List Accent
accents_of s st = map (accent_at 2 s) st.accents

abbrev view_at : List ℕ → SheetRead → View
view_at s st = record { settings = settings_at s 0; tones = tones_of s st; accents = accents_of s st; row = λ r last. look_sheet s st (row_context (tones_of s st) (accents_of s st) r last) }

module _ (s : List ℕ) (b : Bytes s) (st : SheetRead) (e : ℕ) (l : Loads s st e) (o : Ordered s st) where
  -- ---- the view
  accent_number : (i : ℕ) → i < length st.accents → number_of (accents_of s st) i ≡ accent_number_of s st i
  accent_number i h = ap (λ (a : Accent). a.number) (get_or-map (accent_at 2 s) st.accents i 0 absent_accent h)

  accents_stand : ascending (accents_of s st) ≡ accents_of s st
  accents_stand =
      let n : length (accents_of s st) ≡ length st.accents = length-map st.accents (accent_at 2 s) in
      ascending_up (accents_of s st)
      (λ i h. let q = accent_number i (omega arith) in (rw q (o.accents_least i (omega arith)), rw q (b _)))
      (λ i j h g. rw (accent_number i (omega arith), accent_number j (omega arith)) (o.accents_up i j h (omega arith)))

  view_is : view_of (source_of_sheet s st) ≡ view_at s st
  unfolding view_of source_of_sheet
  view_is = rw accents_stand

  rows_are : rows_of (view_at s st) ≡ st.rows
  rows_are = rw (length-map st.tones (tone_at 6 24 s), length-map st.accents (accent_at 2 s)) (sym l.all_rows)

  -- ---- its lists
  list_is : (i : ℕ) → i < length st.lists → ListIs s (get_or st.lists i 0)
  list_is i h =
      let t = l.lists i h in
      record { kind = t.kind; some = t.some; parts = rw t.place (λ j g. l.parts i j h g) }

  different : (i j : ℕ) → j < i → i < length st.lists → content s st i ≡ content s st j → ⊥
  different i j g h c =
      absurd_bool (sym ((o.lists i h).different j g) ∙ alike s b (get_or st.lists i 0) (get_or st.lists j 0) (list_is i h) (list_is j (omega arith)) c)

  lists_same : lists_of (view_at s st) ≡ contents s st (length st.lists)
  unfolding lists_of
  lists_same = rw rows_are (lists_are s st different o (view_at s st).row (λ r h. look_row s st e l o r false h) (λ r h. look_row s st e l o r true h))

  -- ---- its pieces
  tail_there : (i : ℕ) → i < length st.tones → byte_at s (get_or st.tones i 0 + 15) ≡ 24
  tail_there i h = rw (l.tones i h).place (l.tails i h)

  tones_span : Spans s 9 (9 + 24 * length st.tones) (piecewise (tone_piece (view_at s st)) 0 (length (tones_of s st)))
  tones_span =
      rw (length-map st.tones (tone_at 6 24 s))
      (gather_spans s (tone_piece (view_at s st)) (λ i. 9 + 24 * i) (length st.tones)
      (λ i h. let t = l.tones i h in
      let x : Spans s (get_or st.tones i 0) (9 + 24 * (i + 1)) (tone_bytes (tone_at 6 24 s (get_or st.tones i 0))) = tone_spans s b (get_or st.tones i 0) (9 + 24 * (i + 1)) (omega (arith, t.place)) t.kind (tail_there i h) in
      rw (get_or-map (tone_at 6 24 s) st.tones i 0 absent_tone h, ← t.place) x)
      9 (9 + 24 * length st.tones) refl refl)

  accents_span : Spans s (9 + 24 * length st.tones) (rows_from st) (piecewise (accent_piece (view_at s st)) 0 (length (accents_of s st)))
  accents_span =
      let t = length st.tones in
      rw (length-map st.accents (accent_at 2 s))
      (gather_spans s (accent_piece (view_at s st)) (λ i. 9 + 24 * t + 18 * i) (length st.accents)
      (λ i h. let a = l.accents i h in
      let x : Spans s (get_or st.accents i 0) (9 + 24 * t + 18 * (i + 1)) (accent_bytes (accent_at 2 s (get_or st.accents i 0))) =
      accent_spans s b (get_or st.accents i 0) (9 + 24 * t + 18 * (i + 1)) (omega (arith, a.place)) a.kind in
      rw (get_or-map (accent_at 2 s) st.accents i 0 absent_accent h, ← a.place) x)
      (9 + 24 * t) (rows_from st) (omega arith) refl)

  row_span : (r : ℕ) → r < st.rows → Spans s (row_at st r) (row_at st (r + 1)) (row_piece (view_at s st) (contents s st (length st.lists)) r)
  row_span r h =
      let q = o.rows r h in
      let n : number_in (contents s st (length st.lists)) ((view_at s st).row r false) ≡ first_list s st r = rw (look_row s st e l o r false h) (number_is s st different (first_list s st r) q.first_held) in
      let m : number_in (contents s st (length st.lists)) ((view_at s st).row r true) ≡ final_list s st r = rw (look_row s st e l o r true h) (number_is s st different (final_list s st r) q.final_held) in
      rw (n, m, row_context_lem s st e l o r false h) (row_spans s b (row_at st r) (row_at st (r + 1)) (context_at s st r false) (omega arith) (l.rows r h) q.accent q.tone q.prev)

  rows_span : Spans s (rows_from st) (lists_from st) (piecewise (row_piece (view_at s st) (contents s st (length st.lists))) 0 (rows_of (view_at s st)))
  rows_span = rw rows_are (gather_spans s (row_piece (view_at s st) (contents s st (length st.lists))) (row_at st) st.rows row_span (rows_from st) (lists_from st) (omega arith) refl)

  list_span : (i : ℕ) → i < length st.lists → Spans s (list_place s (lists_from st) i) (list_place s (lists_from st) (i + 1)) (list_piece (contents s st (length st.lists)) i)
  list_span i h =
      let t = l.lists i h in
      let x : Spans s (get_or st.lists i 0) (get_or st.lists i 0 + list_size s (get_or st.lists i 0)) (list_bytes (number_at s (get_or st.lists i 0)) (content s st i)) =
      list_spans s b (get_or st.lists i 0) (get_or st.lists i 0 + list_size s (get_or st.lists i 0)) refl (list_is i h) in
      let q : list_place s (lists_from st) (i + 1) ≡ get_or st.lists i 0 + list_size s (get_or st.lists i 0) =
      ap (list_place s (lists_from st)) (add-one i) ∙ ap (λ (n : ℕ). n + list_size s n) (sym t.place) in
      rw (contents_get s st (length st.lists) i h, q, ← t.place, ← (o.lists i h).number) x

  lists_span : Spans s (lists_from st) (list_place s (lists_from st) (length st.lists)) (piecewise (list_piece (contents s st (length st.lists))) 0 (length (contents s st (length st.lists))))
  lists_span =
      let n = length st.lists in
      rw (contents_length s st n) (gather_spans s (list_piece (contents s st n)) (list_place s (lists_from st)) n list_span (lists_from st) (list_place s (lists_from st) n) refl refl)

  all_span : Spans s 0 e (bytes_with (view_at s st) (contents s st (length st.lists)))
  unfolding bytes_with
  all_span =
      let n = length st.lists in
      joined (settings_spans s b l.begins)
      (joined tones_span (joined accents_span (joined rows_span (joined lists_span (one_spans s (list_place s (lists_from st) n) e 23 l.ends l.closing)))))

  bytes_are : e ≡ length s → sheet (source_of_sheet s st) ≡ s
  unfolding sheet
  bytes_are q = ap bytes_of view_is ∙ ap (bytes_with (view_at s st)) lists_same ∙ spans_all s e _ q all_span

pub inverse : (s : List ℕ) → Bytes s → (st : SheetRead) (e : ℕ) → load_sheet s ≡ loaded st e → sheet (source_of_sheet s st) ≡ s
inverse s b st e h =
    let w = loads_whole s st e h in
    bytes_are s b st e w.loads (ordered s st e e w.loads.fine) w.ends
