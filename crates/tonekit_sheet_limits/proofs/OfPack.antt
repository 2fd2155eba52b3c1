-- Every pack that loads gives a source within the limits of a sheet (`sheetable_of_pack`).
use Rattle.std.specs.Prelude.{Option}
use Rattle.std.proofs.Common.{ℕ, ◌+◌, ◌*◌, ◌/◌, ◌%◌, ◌≤◌, ◌≡◌, refl, ap, subst, inl, inr, List, [], ◌∷◌, arith, length}
use mathlib.Core.Option.{some}
use lib.ListN.{length-map}
use Rattle.spec_arithmetic.specs.Files.{loaded}
use Rattle.spec_pack.specs.Pack.{PackRead, read_pack}
use Rattle.tonekit_pack.proofs.Loads.{Loads, loads, some_tones, some_accents}
use Rattle.std.specs.Prelude.{Some, None}
use Rattle.spec_lookup.specs.declared.Context.{Context}
use Rattle.spec_lookup.specs.declared.Listing.{Listing}
use Rattle.spec_lookup.specs.Lookup.{look_up}
use Rattle.spec_lookup.specs.Source.{Carried, carried_of, tone_at, accent_at, source_of_pack}
use Rattle.tonekit_expect.proofs.Carried.{components_length}
use Rattle.spec_sheet.specs.Agree.{Bytes}
use Rattle.spec_sheet.specs.Sheet.{view_of, lists_of}
use Rattle.tonekit_sheet.specs.Sheetable.{components_in, Sheetable}
use Rattle.tonekit_sheet_limits.proofs.Budget.{sum_same, sum_scaled, weigh, Pooled, whole, budget}
use Rattle.tonekit_sheet_limits.proofs.Drawn.{Drawn, ruled, cited, rule_of, citation_of, list_of, drawn}
use Rattle.tonekit_sheet_limits.proofs.Parts.{parts_of, few_parts}
use Rattle.tonekit_sheet_limits.proofs.Held.{settings_sheetable, tones_sheetable, tones_apart, accents_sheetable, accents_apart}
use Rattle.tonekit_sheet_limits.proofs.Lists.{lists_sheetable}

-- ---- the lists that a lookup can give: one for each rule, and one for each accent and tone
abbrev pub rule_list : List ℕ → PackRead → ℕ → List Carried
rule_list s st k = list_of s (rule_of s st k)

abbrev pub citation_list : List ℕ → PackRead → ℕ → List Carried
citation_list s st i = list_of s (citation_of s st (i / 8) (i % 8))

abbrev pub Given : List ℕ → PackRead → List Carried → Type 0
Given s st = Pooled (rule_list s st) (length st.rules) (citation_list s st) 64

module _ (s : List ℕ) (st : PackRead) (e : ℕ) (l : Loads s st e) where
  of_drawn : (m : Listing) → Drawn s st m → Given s st (list_of s m)
  of_drawn m (ruled k h a q) = inl (k, h, ap (list_of s) q)
  of_drawn m (cited i t h g n q) =
      let d : (8 * i + t) / 8 ≡ i = omega (arith, l.kept.few_tones) in
      let r : (8 * i + t) % 8 ≡ t = omega (arith, l.kept.few_tones) in
      inr (8 * i + t, omega (arith, l.kept.few_tones, l.kept.few_accents), rw (d, r) (ap (list_of s) q))

  of_look : (c : Context) (o : Option Listing) (cs : List Carried) → look_up s st c ≡ o → carried_of s o ≡ some cs → Given s st cs
  of_look c None cs q g = let z : ◌≡◌ {A = ℕ} 0 1 = cc in absurd (omega arith)
  of_look c (Some m) cs q g = let h : list_of s m ≡ cs = cc in subst (Given s st) h (of_drawn m (drawn s st e l c m q))

  look_given : (c : Context) (cs : List Carried) → (source_of_pack s st).look c ≡ some cs → Given s st cs
  unfolding source_of_pack
  look_given c cs h = of_look c (look_up s st c) cs refl h

  -- the lists of the sheet weigh no more than all that there can be
  pub within : (w : List Carried → ℕ) → weigh w (lists_of (view_of (source_of_pack s st))) ≤ whole (rule_list s st) (length st.rules) (citation_list s st) 64 w
  unfolding view_of
  within w = budget (rule_list s st) (length st.rules) (citation_list s st) 64 w (view_of (source_of_pack s st)) (λ r last cs h. look_given _ cs h)

-- ---- how many, and how many components
count_is : (xs : List (List Carried)) → weigh (λ v. 1) xs ≡ length xs
unfolding weigh
count_is [] = refl
count_is (x ∷ xs) = omega (arith, count_is xs)

components_are : (xs : List (List Carried)) → weigh length xs ≡ components_in xs
unfolding weigh components_in
components_are [] = refl
components_are (x ∷ xs) = ap (λ (n : ℕ). length x + n) (components_are xs)

module _ (s : List ℕ) (st : PackRead) (e : ℕ) (p : read_pack s ≡ loaded st e) where
  pub few_lists : length (lists_of (view_of (source_of_pack s st))) ≤ 128
  few_lists =
      let l = loads s st e p in
      omega (
        arith,
        within s st e l (λ v. 1),
        count_is (lists_of (view_of (source_of_pack s st))),
        l.kept.few_rules,
        sum_scaled (λ i. 1) (λ i. 0) 1 0 (length st.rules) (λ i h. omega arith),
        sum_scaled (λ i. 1) (λ i. 0) 1 0 64 (λ i h. omega arith),
      )

  few_components : components_in (lists_of (view_of (source_of_pack s st))) ≤ 192
  few_components =
      let l = loads s st e p in
      omega (
        arith,
        within s st e l length,
        components_are (lists_of (view_of (source_of_pack s st))),
        few_parts s st e p,
        sum_same (λ k. length (rule_list s st k)) (parts_of s st.rules) (length st.rules) (λ k h. components_length s (rule_of s st k) (rule_of s st k).count),
        sum_scaled (λ i. length (citation_list s st i)) (λ i. 0) 1 0 64 (λ i h. components_length s (citation_of s st (i / 8) (i % 8)) 1),
      )

-- ---- together
pub sheetable_of_pack : (s : List ℕ) → Bytes s → (st : PackRead) (e : ℕ) → read_pack s ≡ loaded st e → Sheetable (source_of_pack s st)
unfolding source_of_pack
sheetable_of_pack s b st e p =
    let l = loads s st e p in
    let t = length-map st.tones (tone_at 47 7 s) in
    let a = length-map st.accents (accent_at 3 s) in
    record {
      settings = settings_sheetable s b st e l;
      some_tones = omega (arith, some_tones s st e l);
      few_tones = omega (arith, l.kept.few_tones);
      tones = tones_sheetable s b st e l;
      tones_once = tones_apart s st e l;
      some_accents = omega (arith, some_accents s st e l);
      few_accents = omega (arith, l.kept.few_accents);
      accents = accents_sheetable s b st e l;
      accents_once = accents_apart s st e l;
      lists = λ c cs h q. lists_sheetable s b st e p c cs q;
      few_lists = few_lists s st e p;
      few_components = few_components s st e p;
    }
