-- Where each record of a sheet's bytes stands. Assumes nothing.
use Rattle.std.proofs.Common.{ℕ, zero, suc, ◌+◌, ◌-◌, ◌*◌, ◌≤◌, ◌<◌, ◌≡◌, refl, ap, subst, List, [], ◌∷◌, ◌++◌, arith, add-one, length, get_or, length-append}
use Rattle.spec_lookup.specs.Source.{Carried}
use Rattle.spec_sheet.specs.Pieces.{piecewise}
use Rattle.tonekit_sheet.proofs.Gather.{gather_done, gather_length}
use Rattle.spec_sheet.specs.Sheet.{View, rows_of, settings_bytes, bytes_with}
use Rattle.tonekit_sheet_laws.proofs.Place.{components_before, tone_at, accent_at, row_at, list_at}
use Rattle.tonekit_sheet.specs.Parts.{tone_piece, accent_piece, row_piece, list_piece}
use Rattle.tonekit_bytes.proofs.Stands.{Stands, stands_at, stands_whole, stands_first, stands_then}
use Rattle.tonekit_sheet_laws.proofs.Bytes.{piece_stands, even_stands, gather_next}
use Rattle.tonekit_sheet_laws.proofs.Offsets.{before_none}
use Rattle.tonekit_sheet_laws.proofs.Records.{Ten, list_length}

-- s has the records of this view, with these lists, in order
pub record Laid (s : List ℕ) (v : View) (lists : List (List Carried)) : Type 0 where
  pub settings : Stands s 0 (settings_bytes v.settings)
  pub tone : (i : ℕ) → i < length v.tones → Stands s (tone_at i) (tone_piece v i)
  pub accent : (i : ℕ) → i < length v.accents → Stands s (accent_at v i) (accent_piece v i)
  pub row : (r : ℕ) → r < rows_of v → Stands s (row_at v r) (row_piece v lists r)
  pub list : (i : ℕ) → i < length lists → Stands s (list_at v lists i) (list_piece lists i)
  pub finish : Stands s (list_at v lists (length lists)) (23 ∷ [])
  pub size : length s ≡ list_at v lists (length lists) + 1

module _ (lists : List (List Carried)) (ten : (i : ℕ) → i < length lists → Ten (get_or lists i [])) where
  -- the bytes of the first lists
  lists_length : (i : ℕ) → i ≤ length lists → length (piecewise (list_piece lists) 0 i) ≡ 7 * i + 45 * components_before lists i
  unfolding components_before
  lists_length zero h = ap length (gather_done (list_piece lists) 0 0 (omega arith))
  lists_length (suc i) h =
      let a : length (piecewise (list_piece lists) 0 (suc i)) ≡ length (piecewise (list_piece lists) 0 i) + length (list_piece lists i) = rw add-one at (gather_next (list_piece lists) i) in
      omega (arith, a, lists_length i (omega arith), list_length (i + 1) (get_or lists i []) (ten i h))

even : (f : ℕ → List ℕ) (m n : ℕ) → ((j : ℕ) → length (f j) ≡ m) → length (piecewise f 0 n) ≡ m * n
even f m n h = let e : n - 0 ≡ n = omega arith in rw e at (gather_length f m h 0 n)

module _ (v : View) (lists : List (List Carried)) (ten : (i : ℕ) → i < length lists → Ten (get_or lists i [])) where
  abbrev tones : List ℕ
  tones = piecewise (tone_piece v) 0 (length v.tones)

  abbrev accents : List ℕ
  accents = piecewise (accent_piece v) 0 (length v.accents)

  abbrev rows : List ℕ
  rows = piecewise (row_piece v lists) 0 (rows_of v)

  abbrev listed : List ℕ
  listed = piecewise (list_piece lists) 0 (length lists)

  tones_size : length tones ≡ 24 * length v.tones
  tones_size = even (tone_piece v) 24 (length v.tones) (λ j. refl)

  accents_size : length accents ≡ 18 * length v.accents
  accents_size = even (accent_piece v) 18 (length v.accents) (λ j. refl)

  rows_size : length rows ≡ 6 * rows_of v
  rows_size = even (row_piece v lists) 6 (rows_of v) (λ j. refl)

  listed_size : length listed ≡ 7 * length lists + 45 * components_before lists (length lists)
  listed_size = lists_length lists ten (length lists) (omega arith)

  laid_in : (s : List ℕ) → s ≡ settings_bytes v.settings ++ (tones ++ (accents ++ (rows ++ (listed ++ (23 ∷ []))))) → Laid s v lists
  laid_in s e =
      let at-tones : Stands s 9 (tones ++ (accents ++ (rows ++ (listed ++ (23 ∷ []))))) =
      stands_then (settings_bytes v.settings) _ 9 refl (subst (λ (x : List ℕ). Stands s 0 x) e (stands_whole s)) in
      let at-accents : Stands s (accent_at v 0) (accents ++ (rows ++ (listed ++ (23 ∷ [])))) = stands_then tones _ (accent_at v 0) (omega (arith, tones_size)) at-tones in
      let at_rows : Stands s (row_at v 0) (rows ++ (listed ++ (23 ∷ []))) = stands_then accents _ (row_at v 0) (omega (arith, accents_size)) at-accents in
      let at-lists : Stands s (list_at v lists 0) (listed ++ (23 ∷ [])) = stands_then rows _ (list_at v lists 0) (omega (arith, rows_size, before_none lists)) at_rows in
      record {
        settings = stands_first (settings_bytes v.settings) _ (subst (λ (x : List ℕ). Stands s 0 x) e (stands_whole s));
        tone = λ i h. even_stands (tone_piece v) 24 (length v.tones) i (λ j. refl) h (stands_first tones _ at-tones);
        accent = λ i h. stands_at _ (even_stands (accent_piece v) 18 (length v.accents) i (λ j. refl) h (stands_first accents _ at-accents)) (omega arith);
        row = λ r h. stands_at _ (even_stands (row_piece v lists) 6 (rows_of v) r (λ j. refl) h (stands_first rows _ at_rows)) (omega arith);
        list = λ i h. piece_stands (list_piece lists) (length lists) i (list_at v lists i) h (omega (arith, lists_length lists ten i (omega arith), before_none lists)) (stands_first listed _ at-lists);
        finish = stands_then listed (23 ∷ []) (list_at v lists (length lists)) (omega (arith, listed_size, before_none lists)) at-lists;
        size = omega (arith, ap length e, length-append tones (accents ++ (rows ++ (listed ++ (23 ∷ [])))), length-append accents (rows ++ (listed ++ (23 ∷ []))), length-append rows (listed ++ (23 ∷ [])), length-append listed (23 ∷ []), tones_size, accents_size, rows_size, listed_size);
      }

  pub laid : Laid (bytes_with v lists) v lists
  unfolding bytes_with
  laid = laid_in (bytes_with v lists) refl
