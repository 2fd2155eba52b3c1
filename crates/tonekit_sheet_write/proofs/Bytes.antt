-- The pieces of a pack's sheet: from what each is written, and how long it is. Assumes nothing.
use Rattle.std.specs.Prelude.{Option}
use Rattle.std.proofs.Common.{ℕ, zero, suc, ◌+◌, ◌-◌, ◌*◌, ◌≤◌, ◌<◌, ◌≡◌, refl, sym, ◌∙◌, ap, ap₂, subst, true, false, List, [], ◌∷◌, ◌++◌, map, append_assoc, append-nil, arith, add-zero, zero-add, Float, to_bits, length, get_or, take, drop, length-append}
use Rattle.std.proofs.lemmas.List.{get_or-map}
use lib.Ieee.{binary32}
use lib.ListN.{length-map}
use lib.Seq.{sets, length-sets}
use Rattle.tonekit_core.specs.declared.layout.TheConstants.{SHEET_LIST_KIND, SHEET_LIST_SIZE, SHEET_COMPONENT_SIZE}
use Rattle.spec_arithmetic.specs.Fields.{le16, f32_bytes, f32s_bytes}
use Rattle.tonekit_bytes.proofs.Write.{part_put}
use Rattle.tonekit_pack.specs.Held.{records_of}
use Rattle.tonekit_pack.specs.declared.Pack.{Pack}
use Rattle.spec_lookup.specs.Lookup.{component_of}
use Rattle.spec_lookup.specs.Source.{Tone, Accent, Carried, carried, components, carried_of}
use Rattle.spec_lookup.specs.declared.Component.{Component}
use Rattle.spec_lookup.specs.declared.Context.{Context}
use Rattle.spec_lookup.specs.declared.Listing.{Listing}
use Rattle.tonekit_expect.proofs.Carried.{named, components_length, components_at, carried_ten}
use Rattle.spec_sheet.specs.Pieces.{pieces, piecewise, Wrote}
use Rattle.tonekit_sheet.proofs.Gather.{gather_length}
use Rattle.spec_sheet.specs.Number.{number_in}
use Rattle.spec_sheet.specs.Sheet.{absent_carried, row_bytes, row_context, bits_bytes, components_bytes, list_bytes}
use Rattle.tonekit_sheet.proofs.Components.{bits_length, components_snoc}
use Rattle.tonekit_sheet.specs.Parts.{row_piece, component_bytes}
use Rattle.tonekit_sheet_plan.specs.declared.Entry.{Entry}
use Rattle.tonekit_sheet_plan.specs.Rows.{pack_view, tones_of, accents_at, Ordered}
use Rattle.tonekit_sheet_plan.specs.Listings.{carried_by, Kept}
use Rattle.tonekit_sheet_plan.specs.Entries.{list_at, planned}
use Rattle.tonekit_sheet_plan.proofs.Memo.{planned_get}
use Rattle.tonekit_sheet_plan.proofs.Views.{view_tones, view_sorted}
use Rattle.tonekit_sheet_write.specs.Pieces.{head_of, component_piece, planned_list, components_part}

-- bytes written to the start of a part are written at its place
pub wrote_part : (bs l ys : List ℕ) (at r : ℕ) → at + length bs ≤ length l → r ≡ at + length bs → ys ≡ sets (take (length l - at) (drop at l)) 0 bs
    → Wrote bs at l (take at l ++ (ys ++ drop (length l - at) (drop at l))) r
wrote_part bs l ys at r h p e = record { place = p; same = part_put bs l ys at h e }

-- ---- pieces that are the same, one by one
module _ (f g : ℕ → List ℕ) where
  pieces_same : (k i : ℕ) → ((j : ℕ) → j < i + k → f j ≡ g j) → pieces f k i ≡ pieces g k i
  unfolding pieces
  pieces_same zero i h = refl
  pieces_same (suc k) i h = ap₂ (λ (x y : List ℕ). x ++ y) (h i (omega arith)) (pieces_same k (i + 1) (λ j l. h j (omega arith)))

  pub gather_same : (n : ℕ) → ((j : ℕ) → j < n → f j ≡ g j) → piecewise f 0 n ≡ piecewise g 0 n
  unfolding piecewise
  gather_same n h = pieces_same (n - 0) 0 (λ j l. h j (omega arith))

-- those of tones and accents, by their offsets
module _ {A : Type 0} (of : ℕ → A) (none : A) (bytes : A → List ℕ) (os : List ℕ) where
  pub made_is : {xs : List A} → xs ≡ map of os → piecewise (λ i. bytes (get_or xs i none)) 0 (length xs) ≡ piecewise (λ i. bytes (of (get_or os i 0))) 0 (length os)
  made_is {xs} e =
      ap (λ (ys : List A). piecewise (λ i. bytes (get_or ys i none)) 0 (length ys)) e
      ∙ ap (piecewise (λ i. bytes (get_or (map of os) i none)) 0) (length-map os of)
      ∙ gather_same (λ i. bytes (get_or (map of os) i none)) (λ i. bytes (of (get_or os i 0))) (length os) (λ j h. ap bytes (get_or-map of os j 0 none h))

-- ---- components
pub bits_floats : (xs : List Float) → f32s_bytes xs ≡ bits_bytes (map (to_bits binary32) xs)
unfolding f32s_bytes bits_bytes
bits_floats [] = refl
bits_floats (x ∷ xs) = ap (λ (r : List ℕ). f32_bytes x ++ r) (bits_floats xs)

module _ (s : List ℕ) (l : Listing) where
  pub component_length : (j : ℕ) → length (component_piece s l j) ≡ SHEET_COMPONENT_SIZE
  component_length j = omega (arith, bits_length (carried (component_of s l j)).points, carried_ten s l j)

  -- of a component that was read
  pub component_is : {c : Component} (j : ℕ) → c ≡ component_of s l j → component_bytes (carried c) ≡ component_piece s l j
  component_is j e = ap (λ (c : Component). component_bytes (carried c)) e

  pub component_size : {c : Component} (j : ℕ) → c ≡ component_of s l j → length (component_bytes (carried c)) ≡ SHEET_COMPONENT_SIZE
  component_size j e = ap length (component_is j e) ∙ component_length j

  pub components_size : length (components_part s l) ≡ SHEET_COMPONENT_SIZE * l.count
  components_size = let q : l.count - 0 ≡ l.count = omega arith in rw q at (gather_length (component_piece s l) SHEET_COMPONENT_SIZE component_length 0 l.count)

-- pieces from the front, and one more behind them
module _ (f : ℕ → List ℕ) where
  pieces_snoc : (k i : ℕ) → pieces f (suc k) i ≡ pieces f k i ++ f (i + k)
  unfolding pieces
  pieces_snoc zero i = rw add-zero (append-nil (f i))
  pieces_snoc (suc k) i =
      ap (λ (r : List ℕ). f i ++ r) (pieces_snoc k (i + 1))
      ∙ sym (append_assoc (f i) (pieces f k (i + 1)) (f (i + 1 + k)))
      ∙ ap (λ (m : ℕ). (f i ++ pieces f k (i + 1)) ++ f m) (let q : i + 1 + k ≡ i + suc k = omega arith in q)

components_pieces : (s : List ℕ) (l : Listing) (n : ℕ) → components_bytes (components s l n) ≡ pieces (component_piece s l) n 0
unfolding components components_bytes pieces
components_pieces s l zero = refl
components_pieces s l (suc n) =
    components_snoc (components s l n) (carried (component_of s l n))
    ∙ ap (λ (r : List ℕ). r ++ component_piece s l n) (components_pieces s l n)
    ∙ ap (λ (m : ℕ). pieces (component_piece s l) n 0 ++ component_piece s l m) (sym (zero-add n))
    ∙ sym (pieces_snoc (component_piece s l) n 0)

components_gather : (s : List ℕ) (l : Listing) → components_bytes (carried_by s l) ≡ components_part s l
unfolding piecewise
components_gather s l = components_pieces s l l.count ∙ (let q : l.count - 0 ≡ l.count = omega arith in rw q)

-- ---- lists
head_is : (s : List ℕ) (l : Listing) (n : ℕ) → Kept s l → (SHEET_LIST_KIND ∷ n ∷ (get_or (carried_by s l) 0 absent_carried).owner ∷ (get_or (carried_by s l) 0 absent_carried).form ∷ []) ++ (le16 (get_or (carried_by s l) 0 absent_carried).label ++ (length (carried_by s l) ∷ [])) ≡ head_of n l
head_is s l n k =
    rw (components_at s l absent_carried l.count 0 k.some, (named s l 0).owner, (named s l 0).form, (named s l 0).label, components_length s l l.count)

-- list i, from its listing
module _ (s : List ℕ) (lists : List Entry) (i : ℕ) (h : i < length lists) {l : Listing} (e : l ≡ list_at s lists i) (k : Kept s l) where
  pub list_is : head_of (i + 1) l ++ components_part s l ≡ planned_list (planned s lists) i
  list_is =
      sym (ap (list_bytes (i + 1)) (planned_get s lists i h ∙ ap (carried_by s) (sym e))
      ∙ ap₂ (λ (a b : List ℕ). a ++ b) (head_is s l (i + 1) k) (components_gather s l))

  pub list_size_lem : SHEET_LIST_SIZE + SHEET_COMPONENT_SIZE * l.count ≡ length (planned_list (planned s lists) i)
  list_size_lem = omega (arith, ap length list_is, length-append (head_of (i + 1) l) (components_part s l), components_size s l)

  pub list_room : (at m : ℕ) → at + length (planned_list (planned s lists) i) ≤ m → at + length (head_of (i + 1) l ++ components_part s l) ≤ m
  list_room at m r = omega (arith, r, ap length list_is)

-- ---- what was written, under another name
pub wrote_as : {a b : List ℕ} {at r : ℕ} {l m : List ℕ} → a ≡ b → Wrote a at l m r → Wrote b at l m r
wrote_as {a} {b} {at} {r} {l} {m} e w = subst (λ (x : List ℕ). Wrote x at l m r) e w

pub wrote_size : {a : List ℕ} {at r : ℕ} {l m : List ℕ} → Wrote a at l m r → length m ≡ length l
wrote_size {a} {at} {r} {l} {m} w = ap length w.same ∙ length-sets l at a

-- ---- a row
module _ (s : List ℕ) (p : Pack) (os : List ℕ) (lists : List (List Carried)) (r : ℕ) (o : Ordered s (records_of p) os) where
  pub row_is : {c : Context} {n m : ℕ} (x y : Option Listing) → c ≡ row_context (tones_of s (records_of p)) (accents_at s os) r false
      → n ≡ number_in lists (carried_of s x) → carried_of s x ≡ (pack_view s (records_of p)).row r false
      → m ≡ number_in lists (carried_of s y) → carried_of s y ≡ (pack_view s (records_of p)).row r true
      → row_bytes c n m ≡ row_piece (pack_view s (records_of p)) lists r
  row_is {c} {n} {m} x y ec en ex em ey =
      let v = pack_view s (records_of p) in
      let f : c ≡ row_context v.tones v.accents r false = ec ∙ ap₂ (λ (ts : List Tone) (xs : List Accent). row_context ts xs r false) (sym (view_tones s (records_of p))) (sym (view_sorted s (records_of p) os o)) in
      let g : n ≡ number_in lists (v.row r false) = en ∙ ap (number_in lists) ex in
      let h : m ≡ number_in lists (v.row r true) = em ∙ ap (number_in lists) ey in
      rw (f, g, h)
