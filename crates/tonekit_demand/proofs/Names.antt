-- A judgement names what the lookup carried for the component that won: `packs_name` and `sheets_name`, as specs/Names states them. Assumes nothing.
use Rattle.std.proofs.Common.{ℕ, ◌/◌, ◌%◌, ◌≤◌, ◌<◌, ◌≡◌, refl, sym, ap, ◌∙◌, List, not-suc-le-zero, arith, length, get_or}
use mathlib.Core.Option.{Option, none, some}
use lib.ListN.{length-map}
use lib.Ieee.{nan}
use Rattle.spec_arithmetic.specs.Files as files
use Rattle.spec_pack.specs.Pack as pack
use Rattle.tonekit_pack.proofs.Single as pack-single
use Rattle.tonekit_pack.proofs.Loads.{loads}
use Rattle.spec_sheet.specs.Reader as sheet
use Rattle.spec_sheet.specs.Sheet.{absent_carried}
use Rattle.spec_sheet.specs.FromSheet.{source_of_sheet}
use Rattle.tonekit_sheet.proofs.Turns as sheet-single
use Rattle.spec_lookup.specs.Source.{Carried, Source, source_of_pack}
use Rattle.spec_lookup.specs.Source as source
use Rattle.spec_lookup.specs.declared.Context.{Context}
use Rattle.spec_judgement.specs.Score.{scoring_of}
use Rattle.std.specs.Prelude.{Some}
use Rattle.spec_judgement.specs.Inventory.{Targets, count_in, name_in, entry_at, slot_at}
use Rattle.spec_judgement.specs.Judge.{component_at, nearest_at, judgement_of}
use Rattle.tonekit_judge.specs.Terms.{slot_part}
use Rattle.spec_judgement.specs.Asked.{TargetsHeld}
use Rattle.spec_judgement.specs.declared.Slot.{Slot}
use Rattle.tonekit_core.specs.declared.Name.{Name}
use Rattle.tonekit_judge.proofs.Winner.{winner_among, winner_named}
use Rattle.spec_judgement.specs.Gather.{f32, named_of, given_of, listings}
use Rattle.tonekit_inventory.specs.Fields.{slot_of}
use Rattle.std.proofs.lemmas.List.{get_or-map}
use Rattle.tonekit_inventory.proofs.Listed.{Entered, components_at, listings_enter, listed_tones}
use Rattle.tonekit_inventory.proofs.Alike.{Alike, named_count, pack_alike}
use Rattle.tonekit_sheet_inventory.proofs.Few.{tones_few}
use Rattle.tonekit_sheet_inventory.proofs.Alike.{sheet_alike}
use Rattle.tonekit_demand.specs.Names.{NamesWinner, PacksName, SheetsName}

-- what is given where something was looked up
given_alike : (o : Option (List Carried)) → ((cs : List Carried) → o ≡ some cs → Alike absent_carried cs) → Alike absent_carried (given_of o)
given_alike none h = record { few = omega arith; each = λ k l. absurd (not-suc-le-zero l) }
given_alike (some cs) h = h cs refl

given_some : (o : Option (List Carried)) (k : ℕ) → k < length (given_of o) → o ≡ some (given_of o)
given_some none k h = absurd (not-suc-le-zero h)
given_some (some cs) k h = refl

-- a source of at most eight tones whose lookups give components under one name
module _ (src : Source) (few : length src.tones ≤ 8) (alike : (c : Context) (cs : List Carried) → src.look c ≡ some cs → Alike absent_carried cs) where
  module _ (c : Context) where
    abbrev cs : ℕ → List Carried
    cs t = components_at absent_carried src c t

    here : (t : ℕ) → Alike absent_carried (cs t)
    here t = given_alike _ (alike _)

    entered : (t : ℕ) → t < length src.tones → Entered absent_carried (cs t) t (listings src c)
    entered = listings_enter absent_carried src c few (λ t h. (here t).few)

    placed : (g : Targets) → TargetsHeld (length src.tones) g → TargetsHeld (length (listings src c).inventory.items) g
    placed g p = rw (listed_tones src c) p

  pub source_names : NamesWinner src
  unfolding nearest_at
  source_names c x settings t g issues ok p ll d2 slot e =
      let l = listings src c in
      let s = scoring_of settings.temperature t issues in
      let a = winner_among l.inventory s (component_at x s l.inventory l.slots) g (placed c g p) ll d2 slot e in
      let n = winner_named x settings t l g issues ok ll d2 slot e in
      let given = cs c a.tone in
      let listed : a.tone < length src.tones = rw (listed_tones src c) at a.listed in
      let en = entered c a.tone listed in
      let many : count_in (entry_at l.inventory a.tone).listing ≡ length given = ap count_in en.listing ∙ named_count given in
      let has : a.component < length given = omega (arith, a.has, many) in
      let small : a.component < 4 = omega (arith, (here c a.tone).few) in
      let tone : slot / 4 ≡ a.tone = omega (arith, a.is) in
      let place : slot % 4 ≡ a.component = omega (arith, a.is) in
      let u = (here c a.tone).each a.component has in
      let nearest = nearest_at (entry_at l.inventory a.tone) slot d2 in
      let is : (judgement_of x settings t l g issues).nearest ≡ Some nearest = rw tone at n in
      let named : name_in (entry_at l.inventory a.tone).listing ≡ name_in (named_of given) = ap name_in en.listing in
      let won = get_or given a.component absent_carried in
      let its_slot : slot_at l.slots slot ≡ slot_of won = ap (slot_at l.slots) a.is ∙ en.slot a.component has in
      let part : slot_part (name_in (entry_at l.inventory a.tone).listing) slot ≡ won.part = rw (named, place) (sym u.part) in (
        get_or given a.component absent_carried,
        record {
          tone = a.tone;
          component = a.component;
          at = a.is;
          listed = listed;
          given = given;
          looked = given_some _ a.component has;
          has = has;
          is = refl;
          weight = ap (λ (y : Slot). y.weight) its_slot;
          points = λ i h. ap (λ (y : Slot). get_or y.points i nan) its_slot ∙ get_or-map f32 won.points i 0 nan (omega (arith, u.ten));
        },
        record { nearest = nearest; is = is; owner = ap (λ (n : Name). n.owner) named ∙ sym u.owner; form = ap (λ (n : Name). n.form) named ∙ sym u.form; label = ap (λ (n : Name). n.label) named ∙ sym u.label; part = part },
      )

-- a pack that loads, and a sheet
pack_few : (p : List ℕ) (st : pack.PackRead) (e : ℕ) → pack.read_pack p ≡ files.loaded st e → length (source_of_pack p st).tones ≤ 8
unfolding source_of_pack
pack_few p st e r = omega (arith, length-map st.tones (source.tone_at 47 7 p), (loads p st e r).kept.few_tones)

sheet_few : (p : List ℕ) (st : sheet.SheetRead) (e : ℕ) → sheet.read_sheet p ≡ files.loaded st e → length (source_of_sheet p st).tones ≤ 8
unfolding source_of_sheet
sheet_few p st e r = omega (arith, length-map st.tones (source.tone_at 6 24 p), tones_few p st e r)

pub packs_name : PacksName
packs_name p st e h =
    let r = (pack-single.loads_alone p st e h).0 in
    source_names (source_of_pack p st) (pack_few p st e r) (λ c cs g. pack_alike p st e r absent_carried c cs g)

pub sheets_name : SheetsName
sheets_name p st e h =
    let r = (sheet-single.loads_alone p st e h).0 in
    source_names (source_of_sheet p st) (sheet_few p st e r) (λ c cs g. sheet_alike p st e r c cs g)
