-- A search finds a tone that is held.
use Rattle.std.proofs.Common.{refl, sym}
use Rattle.tonekit_pack.specs.Held.{records_of}
use Rattle.spec_lookup.specs.Source.{tone_at, source_of_pack}
use Rattle.tonekit_inventory.proofs.Search.{tone_held}
use Rattle.tonekit_inventory.proofs.pack.HeldPackHeld.holds_tone.Goals as goal

pub returns : goal.returns
unfolding source_of_pack
returns c =
    let a = c.args in
    rw (c.is_some.ensures, c.tone_index.ensures) (sym (tone_held a.self.now.view.bytes.now (records_of a.self.now.view.pack).tones a.number (tone_at 47 7 a.self.now.view.bytes.now) (λ o. refl)))
