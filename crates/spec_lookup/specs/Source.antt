-- What a station holds, whichever bytes it was read from: settings, tones in order, accents with tolerances, and what each lookup gives. Floats by their bits.
use Rattle.std.specs.Prelude.{Option as Found}
use Rattle.std.specs.Prelude.{ℕ, zero, suc, ◌+◌, Bool, false, cond, ◌||◌, List, [], ◌∷◌, ◌++◌, Some, None, map, eqb}
use Rattle.std.proofs.Math.Option.{Option, none, some}
use Rattle.std.specs.Float.{binary32}
use Rattle.std.specs.Float.Ieee.{to_bits}
use Rattle.tonekit_core.specs.declared.layout.TheConstants.{SETTINGS_TEMPERATURE, SETTINGS_THRESHOLD, TONE_PRIOR, TONE_REGION, REGION_FROM, REGION_TO, REGION_SIZE}
use Rattle.tonekit_core.specs.declared.layout.TheConstants.{TAIL_KIND, TAIL_FINAL, TAIL_ELSEWHERE, ACCENT_CONTOUR, TOLERANCE_ONSET, TOLERANCE_OFFSET, TOLERANCE_TURNING}
use Rattle.spec_arithmetic.specs.Fields.{byte_at, u32_at}
use Rattle.spec_arithmetic.specs.Places.{number_at}
use Rattle.spec_pack.specs.Pack.{PackRead}
use Rattle.spec_lookup.specs.Lookup.{look_up, component_of}
use Rattle.spec_lookup.specs.declared.Context.{Context}
use Rattle.spec_lookup.specs.declared.Listing.{Listing}
use Rattle.spec_lookup.specs.declared.Component.{Component}

-- "Settings are the two values of kind 1."
pub record Settings : Type 0 where
  pub temperature : ℕ
  pub threshold : ℕ

-- number, prior, flag, from and to; and "the tail value at phrase end and elsewhere"
pub record Tone : Type 0 where
  pub number : ℕ
  pub prior : ℕ
  pub flag : ℕ
  pub from : ℕ
  pub to : ℕ
  pub tail_final : ℕ
  pub tail_elsewhere : ℕ

-- past the end of the tones, where nothing is read
abbrev pub absent_tone : Tone
absent_tone = record { number = 0; prior = 0; flag = 0; from = 0; to = 0; tail_final = 0; tail_elsewhere = 0 }

-- an accent's number and its four tolerances
pub record Accent : Type 0 where
  pub number : ℕ
  pub contour : ℕ
  pub onset : ℕ
  pub offset : ℕ
  pub turning : ℕ

-- "Components carry owner, form, label, part number, weight and ten points"
pub record Carried : Type 0 where
  pub owner : ℕ
  pub form : ℕ
  pub label : ℕ
  pub part : ℕ
  pub weight : ℕ
  pub points : List ℕ

-- "A lookup takes accent, tone, prev (a held tone or 0) and final (0 or 1)"; it gives components, or nothing
pub record Source : Type 0 where
  pub settings : Settings
  pub tones : List Tone
  pub accents : List Accent
  pub look : Context → Option (List Carried)

-- the accent of this number, where one is held
unfoldable pub accent_in : List Accent → ℕ → Option Accent
accent_in [] n = none
accent_in (a ∷ more) n = cond (eqb a.number n) (some a) (accent_in more n)

-- whether a tone of this number is held
unfoldable pub tone_in : List Tone → ℕ → Bool
tone_in [] n = false
tone_in (t ∷ ts) n = eqb t.number n || tone_in ts n

unfoldable pub carried : Component → Carried
carried c = record { owner = c.name.owner; form = c.name.form; label = c.name.label; part = c.part; weight = to_bits binary32 c.weight; points = map (to_bits binary32) c.points }

-- the first n components of a listing
unfoldable pub components : List ℕ → Listing → ℕ → List Carried
components s l zero = []
components s l (suc n) = components s l n ++ (carried (component_of s l n) ∷ [])

abbrev pub carried_of : List ℕ → Found Listing → Option (List Carried)
carried_of s None = none
carried_of s (Some l) = some (components s l l.count)

abbrev pub settings_at : List ℕ → ℕ → Settings
settings_at s o = record { temperature = u32_at s (o + SETTINGS_TEMPERATURE); threshold = u32_at s (o + SETTINGS_THRESHOLD) }

-- a value of the tail at o, if a record of that kind stands there: "A tone without one has zeros"
abbrev pub tail_at : ℕ → ℕ → List ℕ → ℕ → ℕ
tail_at kind value s o = cond (eqb (byte_at s o) kind) (u32_at s (o + value)) 0

-- a tone's record at o, with its region, which is its last field, at that place, and with the tail of that kind that may follow it; and an accent's
-- with its tolerances: they stand elsewhere in a sheet
abbrev pub tone_at : ℕ → ℕ → List ℕ → ℕ → Tone
tone_at region tail s o = record {
  number = number_at s o;
  prior = u32_at s (o + TONE_PRIOR);
  flag = byte_at s (o + region);
  from = u32_at s (o + (region + REGION_FROM));
  to = u32_at s (o + (region + REGION_TO));
  tail_final = tail_at tail TAIL_FINAL s (o + (region + REGION_SIZE));
  tail_elsewhere = tail_at tail TAIL_ELSEWHERE s (o + (region + REGION_SIZE));
}

abbrev pub accent_at : ℕ → List ℕ → ℕ → Accent
accent_at contour s o = record {
  number = number_at s o;
  contour = u32_at s (o + contour);
  onset = u32_at s (o + (contour + TOLERANCE_ONSET));
  offset = u32_at s (o + (contour + TOLERANCE_OFFSET));
  turning = u32_at s (o + (contour + TOLERANCE_TURNING));
}

-- what a pack that was read holds
unfoldable pub source_of_pack : List ℕ → PackRead → Source
source_of_pack s st = record { settings = settings_at s 0; tones = map (tone_at TONE_REGION TAIL_KIND s) st.tones; accents = map (accent_at ACCENT_CONTOUR s) st.accents; look = λ c. carried_of s (look_up s st c) }
