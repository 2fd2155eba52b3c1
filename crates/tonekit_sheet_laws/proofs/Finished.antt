-- What is judged at a sheet's end finds nothing in the sheet of a source that has one: no loose row, nothing out of order. Assumes nothing.
use Rattle.std.proofs.Common.{ℕ, zero, suc, ◌+◌, ◌*◌, ◌≤◌, ◌<◌, ◌≡◌, refl, sym, ap, ◌∙◌, Bool, true, false, ◌||◌, List, arith, add-one, eqb, length, get_or, eq-eqb, eqb-true, le-leb, lt-ltb, None}
use Rattle.tonekit_core.specs.Loop.{next}
use Rattle.spec_arithmetic.specs.Fields.{byte_at}
use Rattle.spec_arithmetic.specs.Places.{number_at}
use Rattle.spec_pack.specs.Pack.{zero_or_held}
use Rattle.tonekit_core.proofs.Split.{split}
use Rattle.spec_lookup.specs.Source.{Carried, Source, absent_tone}
use Rattle.spec_sheet.specs.Number.{number_in}
use Rattle.spec_sheet.specs.Sheet.{View, absent_accent, accent_place, tone_place, prev_place, prev_number, rows_of, lists_of}
use Rattle.spec_arithmetic.specs.Files.{Out, loaded}
use Rattle.spec_sheet.specs.Reader.{SheetRead, loose_row, accent_down, prev_due, row_due, row_names, row_wrong, named, list_size, same_lists, repeated, list_wrong, finished}
use Rattle.tonekit_sheet.specs.Parts.{loose_turn, accent_turn, row_turn, list_turn}
use Rattle.spec_sheet.specs.Reader.{row_at as row_in}
use Rattle.spec_sheet.specs.FromSheet.{carried_from}
use Rattle.tonekit_sheet_laws.proofs.Place.{up_to, tone_at, accent_at, row_at, list_at, read_to}
use Rattle.tonekit_sheet_laws.proofs.Loops.{range_each, range_any, range_none, to_through}
use Rattle.tonekit_sheet_laws.proofs.FirstUse.{so_far, half, so_none, row_numbers, lists_once, list_used, used_number, listed_first, listed_final}
use Rattle.tonekit_sheet_laws.proofs.Offsets.{up_to_length, up_to_get, zero_or_one, zero_or_zero}
use Rattle.tonekit_sheet_laws.proofs.Laid.{Laid}
use Rattle.tonekit_sheet_laws.proofs.Sheetables.{ViewSheetable}
use Rattle.tonekit_sheet_laws.proofs.Tones.{tone_read}
use Rattle.tonekit_sheet_laws.proofs.Accents.{accent_read}
use Rattle.tonekit_sheet_laws.proofs.Rows.{row_read, places, asks_accent, asks_tone, asks_prev}
use Rattle.tonekit_sheet_laws.proofs.Lists.{list_head}
use Rattle.tonekit_sheet_laws.proofs.Content.{list_back, content_same}

or_right : (a b : Bool) → b ≡ true → (a || b) ≡ true
or_right true b h = refl
or_right false b h = h

or_left : (a b : Bool) → a ≡ true → (a || b) ≡ true
or_left a b h = rw h

module _ (s : List ℕ) (d : Out SheetRead) (src : Source) (v : View) (sheetable : ViewSheetable src v) (laid : Laid s v (lists_of v)) (last total : ℕ) where
  abbrev lists : List (List Carried)
  lists = lists_of v

  abbrev st : SheetRead
  st = read_to v lists last (length v.tones) (length v.accents) (rows_of v) (length lists) 0 total

  -- row r, where the reader looks for it
  pub row_in_lem : (r : ℕ) → row_in st r ≡ row_at v r
  row_in_lem r = rw (up_to_length tone_at (length v.tones), up_to_length (accent_at v) (length v.accents))

  -- its two list numbers
  pub first_number : (r : ℕ) → r < rows_of v → byte_at s (row_in st r + 4) ≡ number_in lists (v.row r false)
  first_number r h = ap (λ (o : ℕ). byte_at s (o + 4)) (row_in_lem r) ∙ (row_read s d src v sheetable laid r h).first

  pub final_number : (r : ℕ) → r < rows_of v → byte_at s (row_in st r + 5) ≡ number_in lists (v.row r true)
  final_number r h = ap (λ (o : ℕ). byte_at s (o + 5)) (row_in_lem r) ∙ (row_read s d src v sheetable laid r h).final

  -- ---- no row is loose
  number_there : (x n : ℕ) → x ≡ n → n ≤ length lists → zero_or_held s (up_to (list_at v lists) (length lists)) x ≡ true
  number_there x zero e h = zero_or_zero s (list_at v lists) (length lists) x e
  number_there x (suc i) e h = zero_or_one s (list_at v lists) (length lists) x i h ((list_head s d src v sheetable laid i h).number ∙ add-one i ∙ sym e)

  pub none_loose : loose_row s st ≡ None
  unfolding loose_row
  none_loose =
      to_through (loose_turn s st) (λ u. None) (λ r. 0) (rows_of v)
      (λ r h. rw (
        number_there (byte_at s (row_in st r + 4)) (number_in lists (v.row r false)) (first_number r h) (listed_first v r h).below,
        number_there (byte_at s (row_in st r + 5)) (number_in lists (v.row r true)) (final_number r h) (listed_final v r h).below,
      ))

  -- ---- accents ascend
  accent_number : (i : ℕ) → i < length v.accents → number_at s (get_or (up_to (accent_at v) (length v.accents)) i 0) ≡ (get_or v.accents i absent_accent).number
  accent_number i h = ap (number_at s) (up_to_get (accent_at v) (length v.accents) i h) ∙ (accent_read s d src v sheetable laid i h).number

  abbrev before : ℕ → ℕ
  before zero = 0
  before (suc i) = (get_or v.accents i absent_accent).number

  above : (i : ℕ) → i < length v.accents → before i < (get_or v.accents i absent_accent).number
  above zero h = (sheetable.accents 0 h).least
  above (suc i) h = sheetable.rising i (suc i) (omega arith) h

  pub none_down : accent_down s st ≡ None
  unfolding accent_down
  none_down =
      rw (up_to_length (accent_at v) (length v.accents))
      (to_through (accent_turn s st) (λ n. None) before (length v.accents)
      (λ i h. rw (accent_number i h, lt-ltb (before i) (get_or v.accents i absent_accent).number (above i h), add-one)))

  -- ---- each row is the one due, and its numbers are in order
  tone_number : (i : ℕ) → i < length v.tones → number_at s (get_or (up_to tone_at (length v.tones)) i 0) ≡ (get_or v.tones i absent_tone).number
  tone_number i h = ap (number_at s) (up_to_get tone_at (length v.tones) i h) ∙ (tone_read s d src v sheetable laid i h).number

  prev_number_lem : (p : ℕ) → p ≤ length v.tones → prev_due s st p ≡ prev_number v.tones p
  prev_number_lem zero h = refl
  prev_number_lem (suc p) h = tone_number p h

  row_due_lem : (r : ℕ) → r < rows_of v → row_due s st r ≡ true
  unfolding row_due
  row_due_lem r h =
      let w = row_read s d src v sheetable laid r h in
      let p = places s d src v sheetable laid r h in
      let t = length v.tones in
      rw (
        up_to_length tone_at t,
        up_to_length (accent_at v) (length v.accents),
        w.accent,
        w.tone,
        w.prev,
        accent_number (accent_place t r) p.accent,
        tone_number (tone_place t r) p.tone,
        prev_number_lem (prev_place t r) p.prev,
      )
      (rw (eq-eqb _ _ (asks_accent s d src v sheetable laid r), eq-eqb _ _ (asks_tone s d src v sheetable laid r)) (eq-eqb _ _ (asks_prev s d src v sheetable laid r)))

  row_names_lem : (r : ℕ) → r < rows_of v → row_names s st r (length (so_far v r)) ≡ true
  unfolding row_names
  row_names_lem r h =
      let n = row_numbers v r h in
      rw (first_number r h, final_number r h, n.first_most, le-leb (number_in lists (v.row r false)) (length (so_far v r) + 1) n.first)
      (le-leb (number_in lists (v.row r true)) (length (half v r) + 1) n.final)

  row_turn_lem : (r : ℕ) → r < rows_of v → row_turn s st r (length (so_far v r)) ≡ next (length (so_far v (r + 1)))
  row_turn_lem r h =
      let n = row_numbers v r h in
      rw (row_due_lem r h, row_names_lem r h) (ap next (rw (first_number r h, final_number r h, n.first_most) n.final_most))

  pub none_wrong : row_wrong s st ≡ None
  unfolding row_wrong
  none_wrong =
      rw (ap length (so_none v)) at (to_through (row_turn s st) (λ m. None) (λ r. length (so_far v r)) (rows_of v) row_turn_lem)

  -- ---- every list has its place as its number, is named, and is equal to none before it
  last_number : (r : ℕ) (last : Bool) (n : ℕ) → r < rows_of v → number_in lists (v.row r last) ≡ n → (eqb (byte_at s (row_in st r + 4)) n || eqb (byte_at s (row_in st r + 5)) n) ≡ true
  last_number r false n h e = or_left (eqb (byte_at s (row_in st r + 4)) n) (eqb (byte_at s (row_in st r + 5)) n) (eq-eqb (byte_at s (row_in st r + 4)) n (first_number r h ∙ e))
  last_number r true n h e = or_right (eqb (byte_at s (row_in st r + 4)) n) (eqb (byte_at s (row_in st r + 5)) n) (eq-eqb (byte_at s (row_in st r + 5)) n (final_number r h ∙ e))

  list_named : (i : ℕ) → i < length lists → named s st (i + 1) ≡ true
  unfolding named
  list_named i h =
      let u = list_used v i h in
      range_any (λ r. eqb (byte_at s (row_in st r + 4)) (i + 1) || eqb (byte_at s (row_in st r + 5)) (i + 1)) (rows_of v) u.row u.there (last_number u.row u.last (i + 1) u.there (used_number v i h))

  equal_bytes : (a b : ℕ) → same_lists s a b ≡ true → (k : ℕ) → 2 ≤ k → k < 7 + 45 * byte_at s (a + 6) → byte_at s (a + k) ≡ byte_at s (b + k)
  unfolding same_lists
  equal_bytes a b e k l h = eqb-true (byte_at s (a + k)) (byte_at s (b + k)) (range_each (λ k. eqb (byte_at s (a + k)) (byte_at s (b + k))) 2 (list_size s a) (omega arith) e k l h)

  equal_lists : (i j : ℕ) → i < length lists → j < length lists → same_lists s (list_at v lists i) (list_at v lists j) ≡ true → i ≡ j
  equal_lists i j h l e =
      let a = list_at v lists i in
      let b = list_at v lists j in
      let same = equal_bytes a b e in
      lists_once v i j h l
      (sym (list_back s d src v sheetable laid i h) ∙ content_same s a b (byte_at s (a + 6)) same
      ∙ ap (carried_from s b) (same 6 (omega arith) (omega arith)) ∙ list_back s d src v sheetable laid j l)

  none_repeated : (i : ℕ) → i < length lists → repeated s (up_to (list_at v lists) (length lists)) i (list_at v lists i) ≡ false
  unfolding repeated
  none_repeated i h =
      range_none (λ j. same_lists s (list_at v lists i) (get_or (up_to (list_at v lists) (length lists)) j 0)) i
      (λ j l. rw (up_to_get (list_at v lists) (length lists) j (omega arith))
      (split (same_lists s (list_at v lists i) (list_at v lists j)) (λ t. let q : i ≡ j = equal_lists i j h (omega arith) t in absurd (omega arith)) (λ t. t)))

  pub none_unordered : list_wrong s st ≡ None
  unfolding list_wrong
  none_unordered =
      rw (up_to_length (list_at v lists) (length lists))
      (to_through (list_turn s st) (λ u. None) (λ i. 0) (length lists)
      (λ i h. rw (up_to_get (list_at v lists) (length lists) i h, eq-eqb _ _ (list_head s d src v sheetable laid i h).number, list_named i h, none_repeated i h)))

  pub nothing_found : (e : ℕ) → finished s st e ≡ loaded st e
  unfolding finished
  nothing_found e = rw (none_loose, none_down, none_wrong, none_unordered)
