-- A list of a sheet is read back as it was written; lists whose bytes are equal, but for their numbers, are read back as one. Assumes nothing.
use Rattle.std.proofs.Common.{ℕ, zero, suc, ◌+◌, ◌*◌, ◌≤◌, ◌<◌, ◌≡◌, refl, sym, ap, ap₂, ◌∙◌, cond, List, [], ◌∷◌, ◌++◌, arith, add-one, eqb, ltb, length, get_or, length-append, ext_get_or, ltb-true, ltb-false}
use lib.ListN.{get_or-append}
use lib.Seq.{get_or_at}
use Rattle.spec_arithmetic.specs.Fields.{byte_at, u32_at}
use Rattle.tonekit_core.proofs.Split.{split}
use Rattle.spec_lookup.specs.Source.{Carried, Source}
use Rattle.spec_sheet.specs.Sheet.{View, absent_carried, lists_of}
use Rattle.spec_arithmetic.specs.Files.{Out}
use Rattle.spec_sheet.specs.Reader.{SheetRead}
use Rattle.spec_sheet.specs.FromSheet.{bits_at, carried_at, carried_from}
use Rattle.tonekit_sheet.specs.Sheetable.{CarriedSheetable}
use Rattle.tonekit_sheet_laws.proofs.Place.{list_at}
use Rattle.tonekit_sheet_laws.proofs.Records.{HeadThere, ComponentThere}
use Rattle.tonekit_sheet_laws.proofs.Laid.{Laid}
use Rattle.tonekit_sheet_laws.proofs.Sheetables.{ViewSheetable}
use Rattle.tonekit_sheet_laws.proofs.Lists.{list_head, list_component}

-- ---- what is read, one by one
module _ (s : List ℕ) where
  bits_count : (n o : ℕ) → length (bits_at s o n) ≡ n
  unfolding bits_at
  bits_count zero o = refl
  bits_count (suc n) o = ap suc (bits_count n (o + 4))

  bits_get : (n o k : ℕ) → k < n → get_or (bits_at s o n) k 0 ≡ u32_at s (o + 4 * k)
  unfolding bits_at
  bits_get zero o k h = absurd (omega arith)
  bits_get (suc n) o zero h = let e : o + 4 * 0 ≡ o = omega arith in rw e
  bits_get (suc n) o (suc k) h = let e : o + 4 * suc k ≡ o + 4 + 4 * k = omega arith in rw e (bits_get n (o + 4) k (omega arith))

  pub carried_count : (o n : ℕ) → length (carried_from s o n) ≡ n
  unfolding carried_from
  carried_count o zero = refl
  carried_count o (suc n) = simp (length-append, carried_count o n, add-one)

  pub carried_get : (o n j : ℕ) → j < n → get_or (carried_from s o n) j absent_carried ≡ carried_at s o j
  unfolding carried_from
  carried_get o zero j h = absurd (omega arith)
  carried_get o (suc n) j h =
      split (ltb j n)
      (λ l. get_or-append (carried_from s o n) (carried_at s o n ∷ []) absent_carried j (rw (carried_count o n) (ltb-true j n l)) ∙ carried_get o n j (ltb-true j n l))
      (λ l. let e : j ≡ n = omega (arith, ltb-false j n l) in rw e (get_or_at (carried_from s o n) (carried_at s o n) [] absent_carried n (carried_count o n)))

-- ---- one component, and a list
component_back : (s : List ℕ) (o n : ℕ) (first : Carried) (many j : ℕ) (c : Carried) → HeadThere s o n first many → ComponentThere s (o + 7 + 45 * j) c → CarriedSheetable first j c → carried_at s o j ≡ c
unfolding carried_at
component_back s o n first many j c h w f =
    let part : cond (eqb (byte_at s (o + 3)) 3) j 0 ≡ c.part = ap (λ (x : ℕ). cond (eqb x 3) j 0) h.form ∙ sym f.part in
    let points : bits_at s (o + 7 + 45 * j + 5) 10 ≡ c.points =
    ext_get_or 0 (bits_at s (o + 7 + 45 * j + 5) 10) c.points (bits_count s 10 (o + 7 + 45 * j + 5) ∙ sym f.ten)
    (λ k l. let b : k < 10 = omega (arith, bits_count s 10 (o + 7 + 45 * j + 5)) in bits_get s 10 (o + 7 + 45 * j + 5) k b ∙ w.points k b) in
    λ i. record {
      owner = (h.owner ∙ sym f.owner) i;
      form = (h.form ∙ sym f.form) i;
      label = (h.label ∙ sym f.label) i;
      part = part i;
      weight = w.weight i;
      points = points i;
    }

module _ (s : List ℕ) (d : Out SheetRead) (src : Source) (v : View) (sheetable : ViewSheetable src v) (laid : Laid s v (lists_of v)) where
  pub list_back : (i : ℕ) → i < length (lists_of v) → carried_from s (list_at v (lists_of v) i) (byte_at s (list_at v (lists_of v) i + 6)) ≡ get_or (lists_of v) i []
  list_back i h =
      let o = list_at v (lists_of v) i in
      let cs = get_or (lists_of v) i [] in
      let w = list_head s d src v sheetable laid i h in
      rw w.count
      (ext_get_or absent_carried (carried_from s o (length cs)) cs (carried_count s o (length cs))
      (λ j l. let b : j < length cs = omega (arith, carried_count s o (length cs)) in
      carried_get s o (length cs) j b
      ∙ component_back s o (i + 1) (get_or cs 0 absent_carried) (length cs) j (get_or cs j absent_carried) w (list_component s d src v sheetable laid i h j b) ((sheetable.lists i h).each j b)))

-- ---- equal bytes, n components
module _ (s : List ℕ) (a b n : ℕ) (same : (k : ℕ) → 2 ≤ k → k < 7 + 45 * n → byte_at s (a + k) ≡ byte_at s (b + k)) where
  byte_same : (k x y : ℕ) → x ≡ a + k → y ≡ b + k → 2 ≤ k → k < 7 + 45 * n → byte_at s x ≡ byte_at s y
  byte_same k x y e f l h = rw (e, f) (same k l h)

  four_same : (k x y : ℕ) → x ≡ a + k → y ≡ b + k → 2 ≤ k → k + 4 ≤ 7 + 45 * n → u32_at s x ≡ u32_at s y
  four_same k x y e f l h =
      rw (
        byte_same k x y e f l (omega arith),
        byte_same (k + 1) (x + 1) (y + 1) (omega arith) (omega arith) (omega arith) (omega arith),
        byte_same (k + 2) (x + 2) (y + 2) (omega arith) (omega arith) (omega arith) (omega arith),
        byte_same (k + 3) (x + 2 + 1) (y + 2 + 1) (omega arith) (omega arith) (omega arith) (omega arith),
      )

  bits_same : (m k x y : ℕ) → x ≡ a + k → y ≡ b + k → 2 ≤ k → k + 4 * m ≤ 7 + 45 * n → bits_at s x m ≡ bits_at s y m
  unfolding bits_at
  bits_same zero k x y e f l h = refl
  bits_same (suc m) k x y e f l h =
      ap₂ (λ (u : ℕ) (r : List ℕ). u ∷ r) (four_same k x y e f l (omega arith)) (bits_same m (k + 4) (x + 4) (y + 4) (omega arith) (omega arith) (omega arith) (omega arith))

  at_same : (j : ℕ) → j < n → carried_at s a j ≡ carried_at s b j
  unfolding carried_at
  at_same j h =
      let form = byte_same 3 (a + 3) (b + 3) refl refl (omega arith) (omega arith) in
      let weight = four_same (8 + 45 * j) (a + 7 + 45 * j + 1) (b + 7 + 45 * j + 1) (omega arith) (omega arith) (omega arith) (omega arith) in
      let points = bits_same 10 (12 + 45 * j) (a + 7 + 45 * j + 5) (b + 7 + 45 * j + 5) (omega arith) (omega arith) (omega arith) (omega arith) in
      λ i. record {
        owner = byte_same 2 (a + 2) (b + 2) refl refl (omega arith) (omega arith) i;
        form = form i;
        label = ap₂ (λ (x y : ℕ). x + 256 * y) (byte_same 4 (a + 4) (b + 4) refl refl (omega arith) (omega arith)) (byte_same 5 (a + 4 + 1) (b + 4 + 1) (omega arith) (omega arith) (omega arith) (omega arith)) i;
        part = cond (eqb (form i) 3) j 0;
        weight = weight i;
        points = points i;
      }

  from_same : (m : ℕ) → m ≤ n → carried_from s a m ≡ carried_from s b m
  unfolding carried_from
  from_same zero h = refl
  from_same (suc m) h = ap₂ (λ (x : List Carried) (y : Carried). x ++ (y ∷ [])) (from_same m (omega arith)) (at_same m h)

  pub content_same : carried_from s a n ≡ carried_from s b n
  content_same = from_same n (omega arith)
