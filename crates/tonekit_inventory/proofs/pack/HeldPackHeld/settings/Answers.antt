-- A pack's settings stand first.
use Rattle.spec_lookup.specs.Source.{source_of_pack}
use Rattle.tonekit_inventory.specs.Fields.{settings_at}
use Rattle.tonekit_inventory.proofs.pack.HeldPackHeld.settings.Goals as goal

pub returns : goal.returns
unfolding source_of_pack settings_at
returns c = c.settings_at.ensures
