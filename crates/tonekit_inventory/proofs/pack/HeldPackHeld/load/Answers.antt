-- What the reader handed back was read from the bytes.
use Rattle.std.proofs.Common.{◌≡◌, sym, ap, ◌∙◌}
use Rattle.spec_arithmetic.specs.Files.{loaded}
use Rattle.spec_pack.specs.Pack.{load_pack}
use Rattle.tonekit_pack.specs.Held.{records_of, answered}
use Rattle.tonekit_pack.proofs.Single.{loads_alone}
use Rattle.tonekit_inventory.specs.OfPack.{pack_in}
use Rattle.tonekit_inventory.proofs.pack.HeldPackHeld.load.Goals as goal
use Rattle.tonekit_inventory.proofs.pack.HeldPackHeld.load.Goals.{In_ok-loaded}

loads : (c : In_ok-loaded) → load_pack c.args.bytes.now ≡ loaded (records_of c.in_ok-loaded.loaded.held) c.in_ok-loaded.loaded.end
loads c = sym c.load_pack.ensures ∙ ap answered c.in_ok-loaded.was

pub invariant_of-result : goal.invariant_of-result
invariant_of-result c = record { read = ap pack_in (loads_alone _ _ _ (loads (goal.at.invariant_of-result c).In_ok-loaded)).0 }

pub returns : goal.returns
returns c = record { held = rw (loads (goal.at.returns c).In_ok-loaded); refused = tt }
