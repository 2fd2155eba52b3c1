-- The components of a listing have one owner, form and label, and in a mixture each its place as its part number. Assumes nothing.
use Rattle.std.specs.Prelude.{Option}
use Rattle.std.proofs.Common.{ℕ, ◌≤◌, ◌<◌, ◌≡◌, refl, cond, List, [], ◌∷◌, arith, eqb, length, get_or}
use mathlib.Core.Option.{some}
use Rattle.std.specs.Prelude.{Some, None}
use Rattle.spec_arithmetic.specs.Files.{loaded}
use Rattle.spec_pack.specs.Pack.{PackRead, read_pack}
use Rattle.spec_lookup.specs.Lookup.{look_up}
use Rattle.spec_lookup.specs.Source.{Carried, components, carried_of, source_of_pack}
use Rattle.spec_lookup.specs.declared.Context.{Context}
use Rattle.spec_lookup.specs.declared.Listing.{Listing}
use Rattle.tonekit_expect.proofs.Carried.{named, part_number, components_length, components_at, carried_ten}
use Rattle.tonekit_core.specs.declared.Name.{Name}
use Rattle.spec_judgement.specs.Inventory.{count_in, name_in}
use Rattle.spec_judgement.specs.Gather.{named_of}
use Rattle.tonekit_inventory.proofs.Few.{Few, look_few}
use Rattle.tonekit_inventory.proofs.Tones.{listing_named}

-- a component under the name of its listing, at place k of it
pub record Under (name : Name) (k : ℕ) (c : Carried) : Type 0 where
  pub owner : c.owner ≡ name.owner
  pub form : c.form ≡ name.form
  pub label : c.label ≡ name.label
  pub part : c.part ≡ cond (eqb name.form 3) k 0
  pub ten : length c.points ≡ 10

pub named_count : (cs : List Carried) → count_in (named_of cs) ≡ length cs
named_count [] = refl
named_count (c ∷ cs) = refl

-- at most four components under one name
pub record Alike (d : Carried) (cs : List Carried) : Type 0 where
  pub few : length cs ≤ 4
  pub each : (k : ℕ) → k < length cs → Under (name_in (named_of cs)) k (get_or cs k d)

module _ (s : List ℕ) (l : Listing) (d : Carried) (f : Few l) where
  abbrev cs : List Carried
  cs = components s l l.count

  under : (k : ℕ) → k < l.count → Under (name_in (named_of cs)) k (get_or cs k d)
  under k h =
      let n = listing_named s l f.some in
      let m = named s l k in
      rw (components_at s l d l.count k h, n) (record { owner = m.owner; form = m.form; label = m.label; part = part_number s l k; ten = carried_ten s l k })

  listing_alike : Alike d cs
  listing_alike = record {
    few = omega (arith, components_length s l l.count, f.few);
    each = λ k h. under k (omega (arith, components_length s l l.count));
  }

-- what a lookup in a pack that loads gives
module _ (s : List ℕ) (st : PackRead) (e : ℕ) (p : read_pack s ≡ loaded st e) (d : Carried) where
  of_look : (c : Context) (k : Option Listing) → look_up s st c ≡ k → (cs : List Carried) → carried_of s k ≡ some cs → Alike d cs
  of_look c (Some l) q cs g =
      let is : components s l l.count ≡ cs = cc in
      rw (← is) (listing_alike s l d (look_few s st e p c l q))
  of_look c None q cs g = let z : ◌≡◌ {A = ℕ} 0 1 = cc in absurd (omega arith)

  pub pack_alike : (c : Context) (cs : List Carried) → (source_of_pack s st).look c ≡ some cs → Alike d cs
  unfolding source_of_pack
  pack_alike c cs g = of_look c (look_up s st c) refl cs g
