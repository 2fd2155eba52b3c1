use Rattle.std.proofs.Common.{◌<◌, length, subst, sym}
use Rattle.tonekit_entries.proofs.Entries.{one_more}
use Rattle.tonekit_entries.proofs.Inventory.push.Goals as goal

pub invariant_of-self : goal.invariant_of-self
invariant_of-self c = one_more c.self.inside _ c.self.invariant (subst (λ i. length i.items < 8) (sym c.self.view_is) c.requires)
