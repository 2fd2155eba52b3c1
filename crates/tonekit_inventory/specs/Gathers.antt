-- What the contracts of `listings` and `gather` say beside the definitions: that what was made may be judged by.
use Rattle.std.specs.Prelude.{◌≡◌}
use Rattle.spec_lookup.specs.Source.{Source}
use Rattle.spec_lookup.specs.declared.Context.{Context}
use Rattle.spec_judgement.specs.Inventory.{Inventory, listing}
use Rattle.spec_judgement.specs.Asked.{Counted}
use Rattle.spec_judgement.specs.Gather.{Gathering, listings, gathered}
use Rattle.spec_judgement.specs.declared.Slots.{Slots}
use Rattle.spec_judgement.specs.declared.Gathered.{Gathered}

-- what the struct and the slots stand for
abbrev pub gathering_of : Gathered → Slots → Gathering
gathering_of g slots = record {
  prev = g.prev;
  settings = g.settings;
  tolerance = g.tolerance;
  listed = listing g.inventory slots;
}

-- the listings of a source, and that a judgement may be made from them
pub record Lists (src : Source) (c : Context) (i : Inventory) (slots : Slots) : Type 0 where
  pub is : listing i slots ≡ listings src c
  pub counted : Counted i

-- all that is gathered
pub record Gathers (src : Source) (c : Context) (g : Gathered) (slots : Slots) : Type 0 where
  pub is : gathering_of g slots ≡ gathered src c
  pub counted : Counted g.inventory
