-- What a query is judged against: the tones with what was looked up for each, the components in their slots, and the tones that a target may be.
use Rattle.std.specs.Prelude.{ℕ, Option, Some, None, [], get_or}
use Rattle.std.specs.Float.{nan}
use Rattle.arrayvec.specs.ArrayVec.{ArrayVec}
use Rattle.tonekit_core.specs.declared.Name.{Name}
use Rattle.tonekit_entries.specs.declared.ToneEntry.{ToneEntry}
use Rattle.tonekit_entries.specs.declared.ToneListing.{ToneListing}
use Rattle.spec_judgement.specs.declared.Slot.{Slot}
use Rattle.spec_judgement.specs.declared.Slots.{Slots}
use Rattle.spec_judgement.specs.declared.Target.{Target}

-- the types of the code by these names
abbrev pub Inventory : Type 0
Inventory = ArrayVec ToneEntry

abbrev pub Targets : Type 0
Targets = ArrayVec Target

-- the components of the inventory: component j of tone t is slot 4 t + j, with a weight and ten points
pub record Listings : Type 0 where
  pub inventory : Inventory
  pub slots : Slots

-- an inventory with what is lent of its components
abbrev pub listing : Inventory → Slots → Listings
listing i slots = record { inventory = i; slots = slots }

-- how many components were looked up, and their name
abbrev pub count_in : Option ToneListing → ℕ
count_in None = 0
count_in (Some l) = l.count

abbrev pub name_in : Option ToneListing → Name
name_in None = record { owner = 0; form = 0; label = 0 }
name_in (Some l) = l.name

-- what a list of entries has past its end, where nothing is read
abbrev pub no_entry : ToneEntry
no_entry = record { number = 0; prior = nan; region = None; tail = nan; listing = None }

abbrev pub entry_at : Inventory → ℕ → ToneEntry
entry_at i t = get_or i.items t no_entry

-- the same past the end of a list of slots
abbrev pub slot_at : Slots → ℕ → Slot
slot_at slots k = get_or slots.list k (record { weight = nan; points = [] })

-- the same past the end of a list of targets
abbrev pub target_at : Targets → ℕ → Target
target_at g k = get_or g.items k (record { place = 0; weight = nan })
