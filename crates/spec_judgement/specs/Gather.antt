-- What a station gathers for a context, from a pack or from a sheet: all that a query is judged by. "The inventory is every tone held, context only ones too."
use Rattle.std.specs.Prelude.{ℕ, ◌*◌, Bool, cond, ◌||◌, Option, Some, None, List, [], ◌∷◌, ◌++◌, map, eqb, ltb, length, get_or, replicate, Float}
use Rattle.std.proofs.Math.Option as math
use Rattle.std.proofs.Math.Option.{none, some}
use Rattle.std.proofs.lemmas.List.Edits.{sets}
use Rattle.std.specs.Float.{binary32}
use Rattle.std.specs.Float.Ieee.{of_bits}
use Rattle.tonekit_core.specs.Loop.{range}
use Rattle.spec_lookup.specs.Source.{Tone, Accent, Carried, Source, accent_in, tone_in, absent_tone}
use Rattle.spec_lookup.specs.declared.Context.{Context}
use Rattle.tonekit_entries.specs.declared.Region.{Region}
use Rattle.spec_judgement.specs.declared.Tolerance.{Tolerance}
use Rattle.spec_judgement.specs.Inventory.{Inventory, Listings, listing, no_entry}
use Rattle.tonekit_entries.specs.declared.ToneListing.{ToneListing}
use Rattle.tonekit_entries.specs.declared.ToneEntry.{ToneEntry}
use Rattle.spec_judgement.specs.declared.Slots.{Slots}
use Rattle.spec_judgement.specs.declared.Settings.{Settings}

-- the floats of bits
abbrev pub f32 : ℕ → Float
f32 bits = of_bits binary32 bits

abbrev pub region_of : Tone → Option Region
region_of t = cond (eqb t.flag 0) None (Some (record { from = f32 t.from; to = f32 t.to }))

-- the name of a listing, that of its first component, and how many components it has; of none, none
abbrev pub named_of : List Carried → Option ToneListing
named_of [] = None
named_of (c ∷ cs) = Some (record { name = record { owner = c.owner; form = c.form; label = c.label }; count = length (c ∷ cs) })

-- "the tail value at phrase end and elsewhere": the one for the query's place in the phrase
abbrev pub tail_of : Bool → Tone → ℕ
tail_of last t = cond last t.tail_final t.tail_elsewhere

-- a tone's own values, and its listing
abbrev pub entry_of : Bool → Tone → Option ToneListing → ToneEntry
entry_of last tone listing = record { number = tone.number; prior = f32 tone.prior; region = region_of tone; tail = f32 (tail_of last tone); listing = listing }

-- the inventory with one more entry; behind the eighth with none
unfoldable pub with_tone : ToneEntry → Inventory → Inventory
with_tone entry i = record { items = i.items ++ (cond (ltb (length i.items) 8) entry no_entry ∷ []) }

-- component j of tone t stands in slot 4 t + j, as a weight and ten points
unfoldable pub put_in : ℕ → List Carried → Slots → Slots
put_in t cs s = record { list = sets s.list (4 * t) (map (λ c. record { weight = f32 c.weight; points = map f32 c.points }) cs) }

unfoldable pub slotted : ℕ → Bool → Tone → List Carried → Listings → Listings
slotted t last tone cs l = listing (with_tone (entry_of last tone (named_of cs)) l.inventory) (put_in t cs l.slots)

-- as lent slots are before anything is gathered
abbrev pub no_slots : Slots
no_slots = record { list = replicate 32 (record { weight = f32 0; points = replicate 10 (f32 0) }) }

-- the components that a lookup gives; none where it gives nothing
abbrev pub given_of : math.Option (List Carried) → List Carried
given_of none = []
given_of (some cs) = cs

-- tone t with its listing in this context, of which the tone is not read
abbrev pub list_tone : Source → Context → ℕ → Listings → Listings
list_tone src c t l =
    let tone = get_or src.tones t absent_tone in
    slotted t c.last tone (given_of (src.look (record c { tone = tone.number }))) l

-- for each tone of the source in order its listing in this context, or that it has none
unfoldable pub listings : Source → Context → Listings
listings src c = range (list_tone src c) 0 (length src.tones) (listing (record { items = [] }) no_slots)

-- "Tolerances are the graded accent's, also for inherited rules": an accent's, where it is held
abbrev pub graded_of : math.Option Accent → Option Tolerance
graded_of none = None
graded_of (some a) = Some (record { contour = f32 a.contour; onset = f32 a.onset; offset = f32 a.offset; turning = f32 a.turning })

-- whether what stood before is held, or nothing stood there; the settings; the accent's tolerances, if it is held; the listings
pub record Gathering : Type 0 where
  pub prev : Bool
  pub settings : Settings
  pub tolerance : Option Tolerance
  pub listed : Listings

unfoldable pub gathered : Source → Context → Gathering
gathered src c = record {
  prev = eqb c.prev 0 || tone_in src.tones c.prev;
  settings = record { temperature = f32 src.settings.temperature; threshold = f32 src.settings.threshold };
  tolerance = graded_of (accent_in src.accents c.accent);
  listed = listings src c;
}
