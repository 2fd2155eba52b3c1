-- The reader goes through the lists of a sheet, each with its components. Assumes nothing.
use Rattle.std.proofs.Common.{ℕ, zero, suc, ◌+◌, ◌-◌, ◌*◌, ◌≤◌, ◌<◌, ◌≡◌, refl, sym, ap, ◌∙◌, true, false, not, ◌&&◌, ◌||◌, List, [], arith, eqb, leb, ltb, length, get_or, eq-eqb, ne_eqb, eqb-true, le-leb, lt-ltb, le-ltb, ltb-true}
use lib.Ieee.{binary32, of_bits}
use borrow.Author.Tests.{eqb-false, lt-leb}
use Rattle.spec_arithmetic.specs.Fields.{byte_at, f32_at}
use Rattle.spec_pack.specs.Ranges.{weight_fine}
use Rattle.spec_arithmetic.specs.Files.{Out}
use Rattle.spec_pack.specs.Pack.{holds}
use Rattle.tonekit_core.proofs.Split.{split}
use Rattle.spec_lookup.specs.Source.{Carried, Source}
use Rattle.spec_sheet.specs.Sheet.{View, absent_carried, rows_of, lists_of}
use Rattle.spec_sheet.specs.Reader.{SheetRead, size_of, complete, due_next, list_crowded, list_fine, list_verdict, point_fine, points_fine, component_fine, component_verdict, body_verdict, added}
use Rattle.tonekit_sheet.specs.Sheetable.{Bits, f32, ListSheetable}
use Rattle.tonekit_sheet_laws.proofs.Place.{up_to, components_before, accent_at, list_at, read_to, last_of}
use Rattle.tonekit_sheet_laws.proofs.Loops.{range_all}
use Rattle.tonekit_sheet_laws.proofs.Offsets.{up_to_length, up_to_get, holds_one, before_next, before_below}
use Rattle.tonekit_sheet_laws.proofs.Records.{Ten, HeadThere, head_there, head_stands, ComponentThere, component_there, behind_head}
use Rattle.tonekit_sheet_laws.proofs.Laid.{Laid}
use Rattle.tonekit_sheet_laws.proofs.Sheetables.{ViewSheetable}
use Rattle.tonekit_sheet_laws.proofs.Turns.{all_pass, Passes, Reach, stay, then, one_to}
use Rattle.tonekit_sheet_laws.proofs.Accents.{accent_read}
use Rattle.tonekit_sheet_laws.proofs.Rows.{rows_due_lem}

-- ---- one list's head
module _ (src : Source) (cs : List Carried) (f : ListSheetable src cs) where
  abbrev first : Carried
  first = get_or cs 0 absent_carried

  pub ten : Ten cs
  ten j h = (f.each j h).ten

  crowded : (lists : ℕ) → lists < 128 → (leb 128 lists || (ltb 4 (length cs) || (ltb 1 (length cs) && not (eqb first.form 3)))) ≡ false
  crowded lists h =
      split (eqb first.form 3)
      (λ e. rw (e, lt-leb 128 lists h, le-ltb 4 (length cs) f.few) (split (ltb 1 (length cs)) (λ q. rw q) (λ q. rw q)))
      (λ e. let one : length cs ≡ 1 = f.lone (eqb-false first.form 3 e) in
      rw (lt-leb 128 lists h, le-ltb 4 (length cs) f.few, le-ltb 1 (length cs) (omega arith)))

  fine : (n : ℕ) → 1 ≤ n → 1 ≤ first.owner
      → (not (eqb n 0) && (not (eqb first.owner 0) && ((leb 1 first.form && leb first.form 3) && (not (eqb (length cs) 0) && (not (eqb first.form 1) || eqb first.label 0))))) ≡ true
  fine n h o =
      rw (ne_eqb n 0 (λ e. omega arith), ne_eqb first.owner 0 (λ e. omega arith), le-leb 1 first.form f.least, le-leb first.form 3 f.most, ne_eqb (length cs) 0 (λ e. omega (arith, f.any)))
      (split (eqb first.form 1)
      (λ e. rw (e, eq-eqb first.label 0 (f.plain (eqb-true first.form 1 e))))
      (λ e. rw e))

-- ---- one component
weight_bits : (w : ℕ) → weight_fine w ≡ true → Bits w
unfolding weight_fine
weight_bits w h = omega (arith, ltb-true w 0x7f80_0000 h)

module _ (s : List ℕ) (o : ℕ) (c : Carried) (w : ComponentThere s o c) where
  points_fine_lem : ((k : ℕ) → k < 10 → point_fine (f32 (get_or c.points k 0)) ≡ true) → points_fine s (o + 5) ≡ true
  unfolding points_fine
  points_fine_lem h = range_all (λ k. point_fine (f32_at s (o + 5 + 4 * k))) 0 10 (omega arith) (λ k _ l. ap (λ (x : ℕ). point_fine (of_bits binary32 x)) (w.points k l) ∙ h k l)

module _ (s : List ℕ) (d : Out SheetRead) (src : Source) (v : View) (sheetable : ViewSheetable src v) (laid : Laid s v (lists_of v)) where
  abbrev lists : List (List Carried)
  lists = lists_of v

  -- list i
  abbrev list : ℕ → List Carried
  list i = get_or lists i []

  pub list_head : (i : ℕ) → i < length lists → HeadThere s (list_at v lists i) (i + 1) (get_or (list i) 0 absent_carried) (length (list i))
  list_head i h = head_there s (list_at v lists i) (i + 1) (get_or (list i) 0 absent_carried) (length (list i)) (sheetable.lists i h).label (head_stands (i + 1) (list i) (laid.list i h))

  pub list_component : (i : ℕ) → i < length lists → (j : ℕ) → j < length (list i) → ComponentThere s (list_at v lists i + 7 + 45 * j) (get_or (list i) j absent_carried)
  list_component i h j l =
      let f = (sheetable.lists i h).each j l in
      component_there (get_or (list i) j absent_carried) f.ten (weight_bits _ f.weight) f.points_bits (behind_head (i + 1) (list i) (ten src (list i) (sheetable.lists i h)) (laid.list i h) j l)

  -- after all rows and i lists; after the head of list i and j of its components
  abbrev after : ℕ → SheetRead
  after i = read_to v lists (last_of 20 22 i) (length v.tones) (length v.accents) (rows_of v) i 0 (components_before lists i)

  abbrev within : ℕ → ℕ → SheetRead
  within i j = read_to v lists (last_of 21 22 j) (length v.tones) (length v.accents) (rows_of v) (suc i) (length (list i) - j) (components_before lists i + j)

  pub all_there : (i : ℕ) → complete (after i) ≡ true
  unfolding complete
  all_there zero = eq-eqb (rows_of v) _ (sym (rows_due_lem s d src v sheetable laid 20 (rows_of v) 0 0 (components_before lists 0)))
  all_there (suc i) = refl

  owner_held : (i : ℕ) → i < length lists → holds s (up_to (accent_at v) (length v.accents)) (byte_at s (list_at v lists i + 2)) ≡ true
  owner_held i h =
      let k = sheetable.owners i h in
      holds_one s (accent_at v) (length v.accents) (byte_at s (list_at v lists i + 2)) k.0 k.1 ((accent_read s d src v sheetable laid k.0 k.1).number ∙ k.2 ∙ sym (list_head i h).owner)

  owner_some : (i : ℕ) → i < length lists → 1 ≤ (get_or (list i) 0 absent_carried).owner
  owner_some i h = let k = sheetable.owners i h in omega (arith, k.2, (sheetable.accents k.0 k.1).least)

  head_room : (i : ℕ) → i < length lists → list_crowded s (list_at v lists i) (after i) ≡ false
  head_room i h =
      let w = list_head i h in
      rw (w.count, w.form) (crowded src (list i) (sheetable.lists i h) (length (up_to (list_at v lists) i)) (omega (arith, up_to_length (list_at v lists) i, sheetable.few_lists)))

  head_fine : (i : ℕ) → i < length lists → list_fine s (list_at v lists i) ≡ true
  head_fine i h =
      let w = list_head i h in
      rw (w.number, w.owner, w.form, w.count, w.label) (fine src (list i) (sheetable.lists i h) (i + 1) (omega arith) (owner_some i h))

  head_pass : (i : ℕ) → i < length lists → Passes s (list_at v lists i) (after i) 21 7
  unfolding size_of due_next body_verdict list_verdict
  head_pass i h =
      let w = list_head i h in
      record {
        kind = w.kind;
        sized = refl;
        some = omega arith;
        whole = w.whole;
        due = all_there i;
        body =
            all_pass (list_crowded s (list_at v lists i) (after i)) (list_fine s (list_at v lists i)) true (holds s (up_to (accent_at v) (length v.accents)) (byte_at s (list_at v lists i + 2)))
            (head_room i h) (head_fine i h) refl (owner_held i h);
      }

  head_on : (i : ℕ) → i < length lists → Reach s d (list_at v lists i) (after i) (list_at v lists i + 7 + 45 * 0) (within i 0)
  unfolding added up_to
  head_on i h =
      let n : length (list i) - 0 ≡ length (list i) = omega arith in
      let t : components_before lists i + 0 ≡ components_before lists i = omega arith in
      one_to d (list_at v lists i + 7 + 45 * 0) (within i 0) (head_pass i h) (λ e. omega arith) (omega arith) (rw ((list_head i h).count, n, t))

  -- ---- its components
  last_list_lem : (i j : ℕ) → get_or (within i j).lists (length (within i j).lists - 1) 0 ≡ list_at v lists i
  last_list_lem i j =
      let e : length (up_to (list_at v lists) (suc i)) - 1 ≡ i = omega (arith, up_to_length (list_at v lists) (suc i)) in
      rw e (up_to_get (list_at v lists) (suc i) i (omega arith))

  unit_weight : (i : ℕ) → i < length lists → (j : ℕ) → j < length (list i) → (eqb (get_or (list i) 0 absent_carried).form 3 || eqb (get_or (list i) j absent_carried).weight 0x3f80_0000) ≡ true
  unit_weight i h zero l =
      split (eqb (get_or (list i) 0 absent_carried).form 3) (λ e. rw e)
      (λ e. rw (e, (sheetable.lists i h).unit (eqb-false (get_or (list i) 0 absent_carried).form 3 e)))
  unit_weight i h (suc j) l =
      split (eqb (get_or (list i) 0 absent_carried).form 3) (λ e. rw e)
      (λ e. absurd (omega (arith, (sheetable.lists i h).lone (eqb-false (get_or (list i) 0 absent_carried).form 3 e))))

  component_is_fine : (i : ℕ) → i < length lists → (j : ℕ) → j < length (list i) → component_fine s (list_at v lists i + 7 + 45 * j) (within i j) ≡ true
  component_is_fine i h j l =
      let o = list_at v lists i + 7 + 45 * j in
      let c = get_or (list i) j absent_carried in
      let f = (sheetable.lists i h).each j l in
      let w = list_component i h j l in
      rw (last_list_lem i j, (list_head i h).form, w.weight, f.weight, unit_weight i h j l) (points_fine_lem s o c w f.points)

  room_for : (i : ℕ) → i < length lists → (j : ℕ) → j < length (list i) → components_before lists i + j < 192
  room_for i h j l = omega (arith, before_next lists i, before_below lists (length lists - (i + 1)) (i + 1) (omega arith), sheetable.few_components)

  due_component : (i j : ℕ) → j < length (list i) → due_next (within i j) 22 ≡ true
  unfolding due_next
  due_component i j l = lt-ltb 0 (length (list i) - j) (omega arith)

  component_pass : (i : ℕ) → i < length lists → (j : ℕ) → j < length (list i) → Passes s (list_at v lists i + 7 + 45 * j) (within i j) 22 45
  unfolding size_of body_verdict component_verdict
  component_pass i h j l =
      let w = list_component i h j l in
      record {
        kind = w.kind;
        sized = refl;
        some = omega arith;
        whole = w.whole;
        due = due_component i j l;
        body =
            all_pass (leb 192 (components_before lists i + j)) (component_fine s (list_at v lists i + 7 + 45 * j) (within i j)) true true
            (lt-leb 192 (components_before lists i + j) (room_for i h j l)) (component_is_fine i h j l) refl refl;
      }

  component_on : (i : ℕ) → i < length lists → (j : ℕ) → j < length (list i) → Reach s d (list_at v lists i + 7 + 45 * j) (within i j) (list_at v lists i + 7 + 45 * suc j) (within i (suc j))
  unfolding added
  component_on i h j l =
      let n : length (list i) - j - 1 ≡ length (list i) - suc j = omega arith in
      let t : components_before lists i + j + 1 ≡ components_before lists i + suc j = omega arith in
      one_to d (list_at v lists i + 7 + 45 * suc j) (within i (suc j)) (component_pass i h j l) (λ e. omega arith) (omega arith) (rw (n, t))

  components_on : (i : ℕ) → i < length lists → (n : ℕ) → n ≤ length (list i) → Reach s d (list_at v lists i + 7 + 45 * 0) (within i 0) (list_at v lists i + 7 + 45 * n) (within i n)
  components_on i h zero l = stay s d (list_at v lists i + 7 + 45 * 0) (within i 0)
  components_on i h (suc n) l = then (components_on i h n (omega arith)) (component_on i h n l)

  last_some : (n : ℕ) → 1 ≤ n → last_of 21 22 n ≡ 22
  last_some zero h = absurd (omega arith)
  last_some (suc n) h = refl

  -- ---- one list, and all
  list_on : (i : ℕ) → i < length lists → Reach s d (list_at v lists i) (after i) (list_at v lists (suc i)) (after (suc i))
  unfolding components_before
  list_on i h =
      let n = length (list i) in
      let z : n - n ≡ 0 = omega arith in
      let a : list_at v lists i + 7 + 45 * n ≡ list_at v lists (suc i) = omega arith in
      then (head_on i h) (rw (last_some n (sheetable.lists i h).any, z, a) at (components_on i h n (omega arith)))

  lists_on : (n : ℕ) → n ≤ length lists → Reach s d (list_at v lists 0) (after 0) (list_at v lists n) (after n)
  lists_on zero h = stay s d (list_at v lists 0) (after 0)
  lists_on (suc n) h = then (lists_on n (omega arith)) (list_on n h)

  pub through_lists : Reach s d (list_at v lists 0) (after 0) (list_at v lists (length lists)) (after (length lists))
  through_lists = lists_on (length lists) (omega arith)
