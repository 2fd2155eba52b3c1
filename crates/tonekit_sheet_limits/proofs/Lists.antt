-- Every list that a lookup in a pack that loads gives keeps the ranges of a sheet's lists.
use Rattle.std.specs.Prelude.{Option}
use Rattle.std.proofs.Common.{ℕ, ◌+◌, ◌*◌, ◌≤◌, ◌<◌, ◌≡◌, refl, sym, ◌∙◌, ap, subst, true, cond, List, map, arith, eqb, length, get_or, ne_eqb}
use mathlib.Core.Option.{some}
use Rattle.spec_arithmetic.specs.Fields.{u32_at}
use Rattle.tonekit_bytes.proofs.Fields.{u16_below}
use Rattle.spec_arithmetic.specs.Places.{number_at}
use Rattle.spec_pack.specs.Ranges.{weight_fine}
use Rattle.spec_arithmetic.specs.Files.{loaded}
use Rattle.spec_pack.specs.Pack.{PackRead, read_pack}
use Rattle.tonekit_pack.proofs.Loads.{RuleFine, Loads, loads}
use Rattle.std.specs.Prelude.{Some, None}
use Rattle.spec_lookup.specs.declared.Context.{Context}
use Rattle.spec_lookup.specs.declared.Listing.{Listing}
use Rattle.spec_lookup.specs.Lookup.{rule_listing, citation, look_up, component_of}
use Rattle.spec_lookup.specs.Source.{Accent, Carried, carried, carried_of, accent_at, accent_in, source_of_pack}
use Rattle.tonekit_expect.proofs.Curves.{points_fine_lem}
use Rattle.tonekit_expect.proofs.Carried.{named, part_number, citation_weight, components_length, components_at, carried_ten}
use Rattle.spec_sheet.specs.Agree.{Bytes}
use Rattle.spec_sheet.specs.Sheet.{absent_carried}
use Rattle.tonekit_sheet.specs.Sheetable.{CarriedSheetable, ListSheetable}
use Rattle.tonekit_sheet_limits.proofs.Bits.{weight_again, carried_bits, carried_fine}
use Rattle.tonekit_sheet_limits.proofs.Drawn.{Drawn, ruled, cited, accent_of, list_of, drawn}
use Rattle.tonekit_sheet_limits.proofs.Held.{accent_there}

-- ---- what a listing shows of its components
record Fine (s accents : List ℕ) (m : Listing) : Type 0 where
  any : 1 ≤ m.count
  few : m.count ≤ 4
  owner : (a : Accent) × (accent_in (map (accent_at 3 s) accents) m.name.owner ≡ some a)
  least : 1 ≤ m.name.form
  most : m.name.form ≤ 3
  label : m.name.label < 65536
  plain : m.name.form ≡ 1 → m.name.label ≡ 0
  lone : (m.name.form ≡ 3 → ⊥) → m.count ≡ 1
  weight : (j : ℕ) → j < m.count → weight_fine (carried (component_of s m j)).weight ≡ true
  unit : (m.name.form ≡ 3 → ⊥) → (carried (component_of s m 0)).weight ≡ 0x3f80_0000

-- a part's weight is that of its bytes
part_weight_lem : (s : List ℕ) (m : Listing) (j : ℕ) → (m.name.form ≡ 1 → ⊥) → weight_fine (u32_at s (m.at + 46 * j + 1)) ≡ true → (carried (component_of s m j)).weight ≡ u32_at s (m.at + 46 * j + 1)
unfolding carried component_of
part_weight_lem s m j n w = rw (ne_eqb m.name.form 1 n) (weight_again (u32_at s (m.at + 46 * j + 1)) w)

rule_fine_lem : (s : List ℕ) (b : Bytes s) (tones accents : List ℕ) (i r : ℕ) → i < length accents → RuleFine s tones r → Fine s accents (rule_listing s (number_at s (get_or accents i 0)) r)
rule_fine_lem s b tones accents i r h R =
    let m = rule_listing s (number_at s (get_or accents i 0)) r in
    let form : m.name.form ≡ 1 → ⊥ = λ q. omega (arith, R.least) in
    record {
      any = R.some_parts;
      few = R.few_parts;
      owner = accent_there s accents i h;
      least = omega (arith, R.least);
      most = R.most;
      label = u16_below s b (r + 1);
      plain = λ q. absurd (form q);
      lone = λ n. R.lone (omega (arith, R.least, R.most, n));
      weight = λ j k. rw (part_weight_lem s m j form (R.parts j k).weight) (R.parts j k).weight;
      unit = λ n.
          let z : r + 7 + 46 * 0 ≡ r + 7 = omega arith in
          part_weight_lem s m 0 form (R.parts 0 R.some_parts).weight ∙ rw z (R.unit (omega (arith, R.least, R.most, n)));
    }

unit_fine : weight_fine 0x3f80_0000 ≡ true
unfolding weight_fine
unit_fine = refl

citation_fine : (s accents : List ℕ) (i o : ℕ) → i < length accents → Fine s accents (citation (number_at s (get_or accents i 0)) o)
citation_fine s accents i o h =
    let m = citation (number_at s (get_or accents i 0)) o in
    record {
      any = omega arith;
      few = omega arith;
      owner = accent_there s accents i h;
      least = omega arith;
      most = omega arith;
      label = omega arith;
      plain = λ q. refl;
      lone = λ n. refl;
      weight = λ j k. rw (citation_weight s m j refl) unit_fine;
      unit = λ n. citation_weight s m 0 refl;
    }

drawn_fine : (s : List ℕ) (b : Bytes s) (st : PackRead) (e : ℕ) → Loads s st e → (m : Listing) → Drawn s st m → Fine s st.accents m
drawn_fine s b st e l m (ruled k h a q) = subst (Fine s st.accents) q (rule_fine_lem s b st.tones st.accents (accent_of st (length st.accents) k) (get_or st.rules k 0) a (l.kept.rules k h))
drawn_fine s b st e l m (cited i t h g n q) = subst (Fine s st.accents) q (citation_fine s st.accents i (get_or st.tones t 0) h)

-- ---- the list of a listing
module _ (s : List ℕ) (b : Bytes s) (st : PackRead) (e : ℕ) (p : read_pack s ≡ loaded st e) (c : Context) where
  module _ (m : Listing) (q : look_up s st c ≡ Some m) where
    fine : Fine s st.accents m
    fine = drawn_fine s b st e (loads s st e p) m (drawn s st e (loads s st e p) c m q)

    at : (j : ℕ) → j < m.count → get_or (list_of s m) j absent_carried ≡ carried (component_of s m j)
    at j h = components_at s m absent_carried m.count j h

    carried_sheetable : (j : ℕ) → j < m.count → CarriedSheetable (carried (component_of s m 0)) j (carried (component_of s m j))
    carried_sheetable j h =
        let n = named s m j in
        let z = named s m 0 in
        record {
          owner = n.owner ∙ sym z.owner;
          form = n.form ∙ sym z.form;
          label = n.label ∙ sym z.label;
          part = part_number s m j ∙ ap (λ (f : ℕ). cond (eqb f 3) j 0) (sym z.form);
          weight = fine.weight j h;
          ten = carried_ten s m j;
          points_bits = carried_bits s m j;
          points = λ k g. carried_fine s m j k g (points_fine_lem s st e p c m j q h k g);
        }

    list_sheetable : ListSheetable (source_of_pack s st) (list_of s m)
    unfolding source_of_pack
    list_sheetable =
        let f = fine in
        let n = components_length s m m.count in
        let z = named s m 0 in
        let first = at 0 f.any in
        record {
          any = omega (arith, f.any);
          few = omega (arith, f.few);
          each = λ j h. let g : j < m.count = omega arith in rw (first, at j g) (carried_sheetable j g);
          owner = rw (first, z.owner) f.owner;
          least = rw (first, z.form) f.least;
          most = rw (first, z.form) f.most;
          label = rw (first, z.label) f.label;
          plain = rw (first, z.form, z.label) f.plain;
          lone = rw (first, z.form) (λ k. n ∙ f.lone k);
          unit = rw (first, z.form) f.unit;
        }

  of_look : (o : Option Listing) (cs : List Carried) → look_up s st c ≡ o → carried_of s o ≡ some cs → ListSheetable (source_of_pack s st) cs
  of_look None cs q g = let z : ◌≡◌ {A = ℕ} 0 1 = cc in absurd (omega arith)
  of_look (Some m) cs q g = let h : list_of s m ≡ cs = cc in subst (ListSheetable (source_of_pack s st)) h (list_sheetable m q)

  pub lists_sheetable : (cs : List Carried) → (source_of_pack s st).look c ≡ some cs → ListSheetable (source_of_pack s st) cs
  unfolding source_of_pack
  lists_sheetable cs h = of_look (look_up s st c) cs refl h
