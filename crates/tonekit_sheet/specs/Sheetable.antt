-- What a source must have for its sheet to load: document 01's ranges and limits, on what is held. Every pack that loads gives such a source.
use Rattle.std.specs.Prelude.{ℕ, ◌+◌, ◌≤◌, ◌<◌, ◌≡◌, Bool, true, cond, ◌&&◌, List, [], ◌∷◌, eqb, length, get_or, Float}
use Rattle.std.proofs.Math.Option.{some}
use Rattle.std.specs.Float.{binary32}
use Rattle.std.specs.Float.Ieee.{of_bits, le}
use Rattle.std.specs.Float.Ieee.Scale.{finite}
use Rattle.spec_pack.specs.Ranges.{above_zero, probability_fine, weight_fine, tail_fine}
use Rattle.spec_lookup.specs.Source.{Settings, Tone, Accent, Carried, Source, accent_in, absent_tone}
use Rattle.spec_lookup.specs.declared.Context.{Context}
use Rattle.spec_sheet.specs.Agree.{Held}
use Rattle.spec_sheet.specs.Reader.{point_fine}
use Rattle.spec_sheet.specs.Sheet.{absent_accent, absent_carried, view_of, lists_of}

abbrev pub Bits : ℕ → Type 0
Bits n = n < 4294967296

abbrev pub f32 : ℕ → Float
f32 bits = of_bits binary32 bits

pub record SettingsSheetable (x : Settings) : Type 0 where
  pub temperature_bits : Bits x.temperature
  pub threshold_bits : Bits x.threshold
  pub temperature : above_zero (f32 x.temperature) ≡ true
  pub threshold : probability_fine (f32 x.threshold) ≡ true

-- "flag 0 or 1; regions finite, from ≤ to", zero where the flag is
abbrev pub region_sheetable : Tone → Bool
region_sheetable t =
    cond (eqb t.flag 0) (eqb t.from 0 && eqb t.to 0)
    (eqb t.flag 1 && (finite (f32 t.from) && (finite (f32 t.to) && le (f32 t.from) (f32 t.to))))

pub record ToneSheetable (t : Tone) : Type 0 where
  pub least : 1 ≤ t.number
  pub byte : t.number < 256
  pub prior_bits : Bits t.prior
  pub prior : probability_fine (f32 t.prior) ≡ true
  pub from_bits : Bits t.from
  pub to_bits : Bits t.to
  pub region : region_sheetable t ≡ true
  pub tail_final_bits : Bits t.tail_final
  pub tail_elsewhere_bits : Bits t.tail_elsewhere
  pub tail_final : tail_fine (f32 t.tail_final) ≡ true
  pub tail_elsewhere : tail_fine (f32 t.tail_elsewhere) ≡ true

pub record AccentSheetable (a : Accent) : Type 0 where
  pub least : 1 ≤ a.number
  pub byte : a.number < 256
  pub contour_bits : Bits a.contour
  pub onset_bits : Bits a.onset
  pub offset_bits : Bits a.offset
  pub turning_bits : Bits a.turning
  pub contour : above_zero (f32 a.contour) ≡ true
  pub onset : above_zero (f32 a.onset) ≡ true
  pub offset : above_zero (f32 a.offset) ≡ true
  pub turning : above_zero (f32 a.turning) ≡ true

-- component j of a list whose first is `first`
pub record CarriedSheetable (first : Carried) (j : ℕ) (c : Carried) : Type 0 where
  pub owner : c.owner ≡ first.owner
  pub form : c.form ≡ first.form
  pub label : c.label ≡ first.label
  pub part : c.part ≡ cond (eqb first.form 3) j 0
  pub weight : weight_fine c.weight ≡ true
  pub ten : length c.points ≡ 10
  pub points_bits : (k : ℕ) → k < 10 → Bits (get_or c.points k 0)
  pub points : (k : ℕ) → k < 10 → point_fine (f32 (get_or c.points k 0)) ≡ true

pub record ListSheetable (src : Source) (cs : List Carried) : Type 0 where
  pub any : 1 ≤ length cs
  pub few : length cs ≤ 4
  pub each : (j : ℕ) → j < length cs → CarriedSheetable (get_or cs 0 absent_carried) j (get_or cs j absent_carried)
  pub owner : (a : Accent) × (accent_in src.accents (get_or cs 0 absent_carried).owner ≡ some a)
  pub least : 1 ≤ (get_or cs 0 absent_carried).form
  pub most : (get_or cs 0 absent_carried).form ≤ 3
  pub label : (get_or cs 0 absent_carried).label < 65536
  pub plain : (get_or cs 0 absent_carried).form ≡ 1 → (get_or cs 0 absent_carried).label ≡ 0
  pub lone : ((get_or cs 0 absent_carried).form ≡ 3 → ⊥) → length cs ≡ 1
  pub unit : ((get_or cs 0 absent_carried).form ≡ 3 → ⊥) → (get_or cs 0 absent_carried).weight ≡ 0x3f80_0000

-- the components of lists, in all
unfoldable pub components_in : List (List Carried) → ℕ
components_in [] = 0
components_in (cs ∷ more) = length cs + components_in more

pub record Sheetable (src : Source) : Type 0 where
  pub settings : SettingsSheetable src.settings
  pub some_tones : 1 ≤ length src.tones
  pub few_tones : length src.tones ≤ 8
  pub tones : (i : ℕ) → i < length src.tones → ToneSheetable (get_or src.tones i absent_tone)
  pub tones_once : (i j : ℕ) → i < length src.tones → j < length src.tones → (get_or src.tones i absent_tone).number ≡ (get_or src.tones j absent_tone).number → i ≡ j
  pub some_accents : 1 ≤ length src.accents
  pub few_accents : length src.accents ≤ 8
  pub accents : (i : ℕ) → i < length src.accents → AccentSheetable (get_or src.accents i absent_accent)
  pub accents_once : (i j : ℕ) → i < length src.accents → j < length src.accents → (get_or src.accents i absent_accent).number ≡ (get_or src.accents j absent_accent).number → i ≡ j
  pub lists : (c : Context) (cs : List Carried) → Held src c → src.look c ≡ some cs → ListSheetable src cs
  pub few_lists : length (lists_of (view_of src)) ≤ 128
  pub few_components : components_in (lists_of (view_of src)) ≤ 192
