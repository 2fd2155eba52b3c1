-- What a pack's sheet is made of, and the room that its lists need on the way. Assumes nothing.
use Rattle.std.proofs.Common.{ℕ, zero, suc, ◌+◌, ◌-◌, ◌≤◌, ◌<◌, ◌≡◌, refl, sym, ◌∙◌, ap, Bool, true, false, List, [], ◌∷◌, map, arith, length, length-append}
use mathlib.Core.Option.{Option, none, some}
use lib.ListN.{length-map}
use Rattle.tonekit_core.specs.Loop.{turns, range}
use Rattle.tonekit_core.proofs.LoopLaws.{range_step}
use Rattle.spec_pack.specs.Pack.{PackRead, read_pack}
use Rattle.tonekit_pack.specs.Held.{records_of}
use Rattle.tonekit_pack.specs.declared.Pack.{Pack}
use Rattle.tonekit_core.proofs.Split.{split}
use Rattle.tonekit_bytes.proofs.InOrder.{order_length}
use Rattle.tonekit_pack.proofs.Loads.{loads, some_tones}
use Rattle.spec_lookup.specs.Lookup.{look_up}
use Rattle.spec_lookup.specs.Source.{Carried, carried_of, accent_at, tone_at, source_of_pack}
use Rattle.spec_sheet.specs.Number.{seen_in, noted}
use Rattle.spec_sheet.specs.Sheet.{View, view_of, ascending, row_context, row_count, rows_of, lists_of}
use Rattle.tonekit_sheet.specs.Parts.{note_turn}
use Rattle.tonekit_sheet_plan.specs.Rows.{pack_view, tones_of, accents_at, Ordered, end_of, Reads}

-- ---- the parts of a pack's view
module _ (s : List ℕ) (st : PackRead) where
  pub view_tones : (pack_view s st).tones ≡ tones_of s st
  unfolding view_of source_of_pack
  view_tones = refl

  pub view_accents : (pack_view s st).accents ≡ ascending (map (accent_at 3 s) st.accents)
  unfolding view_of source_of_pack
  view_accents = refl

  view_look : (r : ℕ) (last : Bool) → (pack_view s st).row r last ≡ carried_of s (look_up s st (row_context (tones_of s st) (ascending (map (accent_at 3 s) st.accents)) r last))
  unfolding view_of source_of_pack
  view_look r last = refl

  module _ (os : List ℕ) (o : Ordered s st os) where
    -- by the accents that are sorted
    pub view_sorted : (pack_view s st).accents ≡ accents_at s os
    view_sorted = view_accents ∙ sym o.same

    pub view_row : (r : ℕ) (last : Bool) → carried_of s (look_up s st (row_context (tones_of s st) (accents_at s os) r last)) ≡ (pack_view s st).row r last
    view_row r last = rw o.same (sym (view_look r last))

    accent_count : length (pack_view s st).accents ≡ length os
    accent_count = ap length view_sorted ∙ length-map os (accent_at 3 s)

    tone_count : length (pack_view s st).tones ≡ length st.tones
    tone_count = ap length view_tones ∙ length-map st.tones (tone_at 47 7 s)

    pub view_rows : rows_of (pack_view s st) ≡ row_count (length os) (length st.tones)
    view_rows = rw (accent_count, tone_count)

-- ---- no turn makes the lists fewer
noted_grows : (lists : List (List Carried)) (o : Option (List Carried)) → length lists ≤ length (noted lists o)
unfolding noted
noted_grows lists none = omega arith
noted_grows lists (some v) =
    split (seen_in v lists) (λ e. rw e (omega arith)) (λ e. rw e (omega (arith, length-append lists (v ∷ []))))

module _ (v : View) where
  pub first_room : (r n : ℕ) (lists : List (List Carried)) → length (note_turn v r lists) ≤ n → length (noted lists (v.row r false)) ≤ n
  first_room r n lists h = omega (arith, h, noted_grows (noted lists (v.row r false)) (v.row r true))

  turn_grows : (r : ℕ) (lists : List (List Carried)) → length lists ≤ length (note_turn v r lists)
  turn_grows r lists = omega (arith, noted_grows lists (v.row r false), noted_grows (noted lists (v.row r false)) (v.row r true))

  turns_grow : (k i : ℕ) (lists : List (List Carried)) → length lists ≤ length (turns (note_turn v) k i lists)
  unfolding turns
  turns_grow zero i lists = omega arith
  turns_grow (suc k) i lists = omega (arith, turn_grows i lists, turns_grow k (i + 1) (note_turn v i lists))

  range_grows : (i hi : ℕ) (lists : List (List Carried)) → length lists ≤ length (range (note_turn v) i hi lists)
  unfolding range
  range_grows i hi lists = turns_grow (hi - i) i lists

  -- so each turn has the room that the whole has
  pub turn_room : {i hi n : ℕ} (lists : List (List Carried)) {whole : List (List Carried)} → range (note_turn v) i hi lists ≡ whole → i < hi → length whole ≤ n → length (note_turn v i lists) ≤ n
  turn_room {i} {hi} {n} lists {whole} r h l =
      let e : range (note_turn v) (i + 1) hi (note_turn v i lists) ≡ whole = sym (range_step (note_turn v) i hi lists h) ∙ r in
      omega (arith, l, range_grows (i + 1) hi (note_turn v i lists), ap length e)

-- ---- the loop over the rows begins with no list
pub lists_begun : (s : List ℕ) (p : Pack) (os : List ℕ) → Ordered s (records_of p) os → (n : ℕ) (lists : List (List Carried)) → n ≡ row_count (length os) p.tones.count → lists ≡ []
    → range (note_turn (pack_view s (records_of p))) 0 n lists ≡ lists_of (pack_view s (records_of p))
unfolding lists_of
lists_begun s p os o n lists e z =
    let h : rows_of (pack_view s (records_of p)) ≡ n = view_rows s (records_of p) os o ∙ ap (row_count (length os)) (order_length p.tones.at p.tones.count) ∙ sym e in
    rw (z, h)

-- ---- a pack that was read has a tone
pub some_tone : (s : List ℕ) (p : Pack) → Reads s (records_of p) → 1 ≤ p.tones.count
some_tone s p r = omega (arith, some_tones s (records_of p) (end_of (read_pack s)) (loads s (records_of p) (end_of (read_pack s)) r.loads), order_length p.tones.at p.tones.count)
