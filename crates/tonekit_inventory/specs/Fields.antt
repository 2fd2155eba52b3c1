-- Regions, tails and tolerances as they stand in a pack's records and in a sheet's: the same fields, one behind the other.
use Rattle.std.specs.Prelude.{ℕ, ◌+◌, Bool, cond, eqb, Option, Some, None, List, map, Float}
use Rattle.tonekit_core.specs.declared.layout.TheConstants.{REGION_FROM, REGION_TO, TAIL_FINAL, TAIL_ELSEWHERE, TOLERANCE_ONSET, TOLERANCE_OFFSET, TOLERANCE_TURNING, SETTINGS_TEMPERATURE, SETTINGS_THRESHOLD}
use Rattle.spec_arithmetic.specs.Fields.{byte_at, f32_at}
use Rattle.spec_lookup.specs.Source.{Accent, Carried}
use Rattle.spec_lookup.specs.Source as source
use Rattle.spec_judgement.specs.Gather.{f32}
use Rattle.tonekit_entries.specs.declared.Region.{Region}
use Rattle.spec_judgement.specs.declared.Settings.{Settings}
use Rattle.spec_judgement.specs.declared.Slot.{Slot}
use Rattle.spec_judgement.specs.declared.Tolerance.{Tolerance}
use Rattle.tonekit_inventory.specs.declared.RegionFields.{RegionFields}

-- "region flag u8, from f32, to f32"
unfoldable pub region_at : List ℕ → ℕ → RegionFields
region_at s o = record { flag = byte_at s o; region = record { from = f32_at s (o + REGION_FROM); to = f32_at s (o + REGION_TO) } }

-- the region, if the flag is not 0
unfoldable pub region_in : RegionFields → Option Region
region_in f = cond (eqb f.flag 0) None (Some f.region)

-- "at phrase end f32, elsewhere f32": the one for a place in the phrase, of a record of that kind; where none stands there, 0
unfoldable pub tail_at : ℕ → Bool → List ℕ → ℕ → Float
tail_at kind last s o = f32 (cond last (source.tail_at kind TAIL_FINAL s o) (source.tail_at kind TAIL_ELSEWHERE s o))

-- "tolerances contour, onset, offset, turning f32"
unfoldable pub tolerance_at : List ℕ → ℕ → Tolerance
tolerance_at s o = record { contour = f32_at s o; onset = f32_at s (o + TOLERANCE_ONSET); offset = f32_at s (o + TOLERANCE_OFFSET); turning = f32_at s (o + TOLERANCE_TURNING) }

-- "Settings are the two values of kind 1", which stands first
unfoldable pub settings_at : List ℕ → Settings
settings_at s = record { temperature = f32_at s SETTINGS_TEMPERATURE; threshold = f32_at s SETTINGS_THRESHOLD }

-- what `Gather` makes of a tone's component, of an accent and of the settings that a station holds
abbrev pub slot_of : Carried → Slot
slot_of c = record { weight = f32 c.weight; points = map f32 c.points }

abbrev pub tolerance_of : Accent → Tolerance
tolerance_of a = record { contour = f32 a.contour; onset = f32 a.onset; offset = f32 a.offset; turning = f32 a.turning }

abbrev pub settings_of : source.Settings → Settings
settings_of s = record { temperature = f32 s.temperature; threshold = f32 s.threshold }
