-- What a lookup in a pack lists stands in its slots after.
use Rattle.std.proofs.Common.{refl, sym, ◌∙◌, arith}
use Rattle.spec_lookup.specs.Source.{source_of_pack}
use Rattle.spec_judgement.specs.Gather.{put_in}
use Rattle.tonekit_inventory.specs.OfPack.{Short}
use Rattle.tonekit_inventory.proofs.Few.{looked}
use Rattle.tonekit_inventory.proofs.Tones.{listing_named}
use Rattle.tonekit_inventory.proofs.pack.HeldPackHeld.put.Goals as goal
use Rattle.tonekit_inventory.proofs.pack.HeldPackHeld.put.Goals.{In_ok-l}

short : (c : In_ok-l) → Short c.args.self.now.view.bytes.now c.in_ok-l.l
short c = looked c.args.self.now.view.bytes.now c.args.self.now.view.pack c.args.self.now.read c.args.c _ c.look_up.ensures c.in_ok-l.l c.in_ok-l.was

pub fill-requires : goal.fill-requires
fill-requires c = (c.requires, short (goal.at.fill-requires c).In_ok-l)

pub overflow_cast-result : goal.overflow_cast-result
overflow_cast-result c = record { fits = omega (arith, (short (goal.at.overflow_cast-result c).In_ok-l).few) }

pub returns : goal.returns
unfolding source_of_pack
returns c =
    let e = sym c.look_up.ensures ∙ c.in_ok-l.was in
    let h = short (goal.at.returns c).In_ok-l in
    record {
      name = rw e (sym (listing_named c.args.self.now.view.bytes.now c.in_ok-l.l h.some));
      few = h.few;
      slots = rw e c.fill.ensures;
    }

pub returns-in_err-l : goal.returns-in_err-l
unfolding source_of_pack put_in
returns-in_err-l c =
    let e = sym c.look_up.ensures ∙ c.in_err-l.was in
    rw c.from_residual.ensures (record { name = rw e refl; few = omega arith; slots = rw e refl })
