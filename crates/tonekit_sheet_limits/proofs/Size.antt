-- "13,338 bytes always suffice": the length of the sheet of a pack that loads.
use Rattle.std.proofs.Common.{ℕ, zero, suc, ◌+◌, ◌-◌, ◌*◌, ◌/◌, ◌%◌, ◌≤◌, ◌<◌, ◌≡◌, refl, ◌∙◌, ap, List, [], ◌∷◌, ◌++◌, map, mul-le-mul, add-one, arith, eqb, length, drop, length-append, drop_of_length-le, drop-cons, eqb-true}
use mathlib.Core.Option.{Option, none, some}
use lib.ListN.{length-map}
use Rattle.tonekit_core.specs.declared.layout.TheConstants.{SHEET_MOST}
use Rattle.spec_arithmetic.specs.Files.{loaded}
use Rattle.spec_pack.specs.Pack.{PackRead, read_pack}
use Rattle.tonekit_core.proofs.Split.{split}
use Rattle.tonekit_pack.proofs.Loads.{loads}
use Rattle.spec_lookup.specs.declared.Listing.{Listing}
use Rattle.spec_lookup.specs.Lookup.{component_of}
use Rattle.spec_lookup.specs.Source.{Accent, Carried, accent_in, carried, components, tone_at, accent_at, source_of_pack}
use Rattle.spec_sheet.specs.Pieces.{pieces, piecewise}
use Rattle.tonekit_sheet.proofs.Gather.{gather_length}
use Rattle.spec_sheet.specs.Sheet.{or_skip, asc_from, ascending, View, rows_of, view_of, lists_of, components_bytes, bytes_with, sheet}
use Rattle.tonekit_sheet.proofs.Components.{component_length, components_snoc}
use Rattle.tonekit_sheet.specs.Parts.{tone_piece, accent_piece, row_piece, list_piece, component_bytes}
use Rattle.tonekit_sheet_limits.specs.Room.{Suffices}
use Rattle.tonekit_sheet_limits.proofs.Budget.{sum_scaled, weigh}
use Rattle.tonekit_expect.proofs.Carried.{carried_ten}
use Rattle.tonekit_sheet_limits.proofs.Drawn.{rule_of, citation_of}
use Rattle.tonekit_sheet_limits.proofs.Parts.{parts_of, few_parts}
use Rattle.tonekit_sheet_limits.proofs.OfPack.{rule_list, citation_list, within}

-- ---- no more accents in order than are held
unfoldable one_of : Option Accent → ℕ
one_of none = 0
one_of (some a) = 1

skip_length : (o : Option Accent) (rest : List Accent) → length (or_skip o rest) ≡ one_of o + length rest
unfolding one_of
skip_length none rest = omega arith
skip_length (some a) rest = omega arith

-- one accent more is one number more at the most, and none where its number has gone by
one_more : (k n : ℕ) (a : Accent) (more : List Accent)
    → (length (asc_from k n (a ∷ more)) ≤ length (asc_from k n more) + 1) × (a.number < n → length (asc_from k n (a ∷ more)) ≡ length (asc_from k n more))
unfolding asc_from accent_in
one_more zero n a more = (omega arith, λ h. refl)
one_more (suc k) n a more =
    let r = one_more k (suc n) a more in
    let y = skip_length (accent_in more n) (asc_from k (suc n) more) in
    split (eqb a.number n)
    (λ t. rw t (omega (arith, r.1 (omega (arith, eqb-true a.number n t))), λ h. absurd (omega (arith, eqb-true a.number n t))))
    (λ t. let x = skip_length (accent_in more n) (asc_from k (suc n) (a ∷ more)) in
    rw t (omega (arith, r.0), λ h. omega (arith, r.1 (omega arith))))

none_held : (k n : ℕ) → length (asc_from k n []) ≡ 0
unfolding asc_from accent_in
none_held zero n = refl
none_held (suc k) n = none_held k (suc n)

few_from : (k n : ℕ) (accents : List Accent) → length (asc_from k n accents) ≤ length accents
few_from k n [] = omega (arith, none_held k n)
few_from k n (a ∷ more) = omega (arith, (one_more k n a more).0, few_from k n more)

pub few_ascending : (accents : List Accent) → length (ascending accents) ≤ length accents
unfolding ascending
few_ascending accents = few_from 255 1 accents

-- ---- the bytes of lists
more_components : (xs : List Carried) (c : Carried) → length (components_bytes (xs ++ (c ∷ []))) ≡ length (components_bytes xs) + length (component_bytes c)
more_components xs c = ap length (components_snoc xs c) ∙ length-append (components_bytes xs) (component_bytes c)

components_bytes_lem : (s : List ℕ) (m : Listing) (n : ℕ) → length (components_bytes (components s m n)) ≡ 45 * n
unfolding components components_bytes
components_bytes_lem s m zero = refl
components_bytes_lem s m (suc n) =
    omega (arith, more_components (components s m n) (carried (component_of s m n)), components_bytes_lem s m n, component_length (carried (component_of s m n)) (carried_ten s m n))

-- the bytes of a list, its own record and those of its components
abbrev list_size : List Carried → ℕ
list_size cs = 7 + length (components_bytes cs)

lists_from_lem : (lists : List (List Carried)) (k i : ℕ) → i + k ≡ length lists → length (pieces (list_piece lists) k i) ≡ weigh list_size (drop i lists)
unfolding pieces weigh
lists_from_lem lists zero i h = rw (drop_of_length-le lists {i = i} (omega arith))
lists_from_lem lists (suc k) i h =
    let r = lists_from_lem lists k (i + 1) (omega arith) ∙ ap (λ (j : ℕ). weigh list_size (drop j lists)) (add-one i) in
    rw (drop-cons lists i [] (omega arith)) (omega (arith, length-append (list_piece lists i) (pieces (list_piece lists) k (i + 1)), r))

lists_length : (lists : List (List Carried)) → length (piecewise (list_piece lists) 0 (length lists)) ≡ weigh list_size lists
unfolding piecewise
lists_length lists = lists_from_lem lists (length lists - 0) 0 (omega arith)

-- ---- a sheet's bytes, from its counts
module _ (v : View) (lists : List (List Carried)) (few_tones : length v.tones ≤ 8) (few_accents : length v.accents ≤ 8) where
  few_rows : rows_of v ≤ 576
  few_rows = mul-le-mul few_accents (mul-le-mul few_tones (let n : length v.tones + 1 ≤ 9 = omega arith in n))

  bytes_most : weigh list_size lists ≤ 9536 → length (bytes_with v lists) ≤ SHEET_MOST
  unfolding bytes_with
  bytes_most h =
      let tones = piecewise (tone_piece v) 0 (length v.tones) in
      let accents = piecewise (accent_piece v) 0 (length v.accents) in
      let rows = piecewise (row_piece v lists) 0 (rows_of v) in
      let own = piecewise (list_piece lists) 0 (length lists) in
      omega (
        arith,
        few_rows,
        lists_length lists,
        length-append tones (accents ++ (rows ++ (own ++ (23 ∷ [])))),
        length-append accents (rows ++ (own ++ (23 ∷ []))),
        length-append rows (own ++ (23 ∷ [])),
        length-append own (23 ∷ []),
        gather_length (tone_piece v) 24 (λ i. refl) 0 (length v.tones),
        gather_length (accent_piece v) 18 (λ i. refl) 0 (length v.accents),
        gather_length (row_piece v lists) 6 (λ i. refl) 0 (rows_of v),
      )

-- ---- the sheet of a pack
module _ (s : List ℕ) (st : PackRead) (e : ℕ) (p : read_pack s ≡ loaded st e) where
  lists_most : weigh list_size (lists_of (view_of (source_of_pack s st))) ≤ 9536
  lists_most =
      let l = loads s st e p in
      omega (
        arith,
        within s st e l list_size,
        l.kept.few_rules,
        few_parts s st e p,
        sum_scaled (λ k. list_size (rule_list s st k)) (parts_of s st.rules) 7 45 (length st.rules) (λ k h. ap (λ (n : ℕ). 7 + n) (components_bytes_lem s (rule_of s st k) (rule_of s st k).count)),
        sum_scaled (λ i. list_size (citation_list s st i)) (λ i. 0) 52 0 64 (λ i h. ap (λ (n : ℕ). 7 + n) (components_bytes_lem s (citation_of s st (i / 8) (i % 8)) 1)),
      )

  sheet_most_lem : length (sheet (source_of_pack s st)) ≤ SHEET_MOST
  unfolding sheet view_of source_of_pack
  sheet_most_lem =
      let l = loads s st e p in
      let v = view_of (source_of_pack s st) in
      bytes_most v (lists_of v) (omega (arith, l.kept.few_tones, length-map st.tones (tone_at 47 7 s)))
      (omega (arith, l.kept.few_accents, length-map st.accents (accent_at 3 s), few_ascending (map (accent_at 3 s) st.accents))) lists_most

-- "13,338 bytes always suffice"
pub suffices : Suffices SHEET_MOST
suffices = record { number = refl; enough = sheet_most_lem }
