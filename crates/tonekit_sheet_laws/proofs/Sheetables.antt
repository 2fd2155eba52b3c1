-- What a source within the limits of a sheet has, said of what its sheet is made of. Assumes nothing.
use Rattle.std.proofs.Common.{ℕ, ◌≤◌, ◌<◌, ◌≡◌, sym, ap, ◌∙◌, subst, List, [], arith, length, get_or}
use Rattle.spec_lookup.specs.Source.{Accent, Carried, Source, accent_in, absent_tone}
use Rattle.spec_sheet.specs.Sheet.{View, absent_accent, absent_carried, ascending, row_context, view_of, lists_of}
use Rattle.tonekit_sheet.specs.Sheetable.{SettingsSheetable, ToneSheetable, AccentSheetable, ListSheetable, Sheetable, components_in}
use Rattle.tonekit_sheet_laws.proofs.FirstUse.{list_used}
use Rattle.tonekit_sheet_laws.proofs.Ascending.{accent_at_lem, accent_found, ascending_rising, ascending_few, ascending_held, ascending_same}
use Rattle.tonekit_sheet_laws.proofs.Asked.{row_asks, row_held_lem}

-- the owner of list i is accent k
abbrev pub Owned : View → List Carried → Type 0
Owned v cs = (k : ℕ) × (k < length v.accents) × ((get_or v.accents k absent_accent).number ≡ (get_or cs 0 absent_carried).owner)

pub record ViewSheetable (src : Source) (v : View) : Type 0 where
  pub settings : SettingsSheetable v.settings
  pub some_tones : 1 ≤ length v.tones
  pub few_tones : length v.tones ≤ 8
  pub tones : (i : ℕ) → i < length v.tones → ToneSheetable (get_or v.tones i absent_tone)
  pub tones_once : (i j : ℕ) → i < length v.tones → j < length v.tones → (get_or v.tones i absent_tone).number ≡ (get_or v.tones j absent_tone).number → i ≡ j
  pub some_accents : 1 ≤ length v.accents
  pub few_accents : length v.accents ≤ 8
  pub accents : (i : ℕ) → i < length v.accents → AccentSheetable (get_or v.accents i absent_accent)
  pub rising : (i j : ℕ) → i < j → j < length v.accents → (get_or v.accents i absent_accent).number < (get_or v.accents j absent_accent).number
  pub lists : (i : ℕ) → i < length (lists_of v) → ListSheetable src (get_or (lists_of v) i [])
  pub owners : (i : ℕ) → i < length (lists_of v) → Owned v (get_or (lists_of v) i [])
  pub few_lists : length (lists_of v) ≤ 128
  pub few_components : components_in (lists_of v) ≤ 192

module _ (src : Source) (sheetable : Sheetable src) where
  -- each of the accents in order is one of those held
  in_order : (i : ℕ) → i < length (ascending src.accents) → AccentSheetable (get_or (ascending src.accents) i absent_accent)
  in_order i h =
      let a = get_or (ascending src.accents) i absent_accent in
      let r = accent_at_lem src.accents a.number a (ascending_held src.accents i h) in
      subst AccentSheetable r.same (sheetable.accents r.place r.there)

  pub held_in_order : (n : ℕ) → accent_in (ascending src.accents) n ≡ accent_in src.accents n
  held_in_order n = ascending_same src.accents (λ i h. ((sheetable.accents i h).least, (sheetable.accents i h).byte)) n

  some_in_order : 1 ≤ length (ascending src.accents)
  some_in_order =
      let f = accent_found src.accents 0 sheetable.some_accents in
      let r = accent_at_lem (ascending src.accents) _ f.0 (held_in_order _ ∙ f.1) in
      omega (arith, r.there)

  owned : (cs : List Carried) → ListSheetable src cs → (k : ℕ) × (k < length (ascending src.accents)) × ((get_or (ascending src.accents) k absent_accent).number ≡ (get_or cs 0 absent_carried).owner)
  owned cs l =
      let r = accent_at_lem (ascending src.accents) (get_or cs 0 absent_carried).owner l.owner.0 (held_in_order _ ∙ l.owner.1) in
      (r.place, r.there, ap (λ (a : Accent). a.number) r.same ∙ r.number)

  list_sheetable : (i : ℕ) → i < length (lists_of (view_of src)) → ListSheetable src (get_or (lists_of (view_of src)) i [])
  list_sheetable i h =
      let u = list_used (view_of src) i h in
      sheetable.lists (row_context src.tones (ascending src.accents) u.row u.last) (get_or (lists_of (view_of src)) i [])
      (row_held_lem src sheetable.some_tones u.row u.last u.there) (sym (row_asks src u.row u.last) ∙ u.gives)

  pub view_sheetable : ViewSheetable src (view_of src)
  unfolding view_of
  view_sheetable = record {
    settings = sheetable.settings;
    some_tones = sheetable.some_tones;
    few_tones = sheetable.few_tones;
    tones = sheetable.tones;
    tones_once = sheetable.tones_once;
    some_accents = some_in_order;
    few_accents = omega (arith, sheetable.few_accents, ascending_few src.accents);
    accents = in_order;
    rising = ascending_rising src.accents;
    lists = list_sheetable;
    owners = λ i h. owned (get_or (lists_of (view_of src)) i []) (list_sheetable i h);
    few_lists = sheetable.few_lists;
    few_components = sheetable.few_components;
  }
