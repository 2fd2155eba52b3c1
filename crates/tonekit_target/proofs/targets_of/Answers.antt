-- `targets_of` meets its contract: the main tone is the first turn of the search, and a turn of the loop each of the others.
use Rattle.std.proofs.Common.{rules, refl, add-one, arith, ◌+◌, ◌≤◌, ◌<◌, length}
use Rattle.tonekit_core.proofs.LoopLaws.{to_again, to_stop, to_ended}
use Rattle.spec_judgement.specs.Target.{main_weight, targets_of}
use Rattle.tonekit_target.proofs.Places.{placed_first, placed_more, with_pushed, none_yet, no_targets, aim_turn}
use Rattle.tonekit_target.proofs.targets_of.Goals as goal

pub returns-in_default : goal.returns-in_default
unfolding targets_of
returns-in_default c = (
  to_stop (aim_turn c.args.inventory.now c.args.query.now c.args.tone (main_weight c.args.query.now c.args.variants)) _ refl (omega arith)
      (rw (← c.main_weight.ensures, ← c.greater-main.ensures, ← c.target_of.ensures.0, c.in_default.is, none_yet c.new-g.result c.new-g.ensures) refl),
  tt,
)

pub loop-i-init : goal.loop-i-init
unfolding targets_of
loop-i-init c =
    let inside = rw c.in-Some.is at c.target_of.ensures.1 in
    let items = rw c.new-g.ensures at c.push.ensures.items in
    record {
      few = omega arith;
      so_many = rw c.new-g.ensures at c.push.ensures.len;
      placed = placed_first _ c.in-Some.first inside c.push.new.self items;
      left =
          to_again (aim_turn c.args.inventory.now c.args.query.now c.args.tone (main_weight c.args.query.now c.args.variants)) _ refl (omega arith)
          (rw (← c.main_weight.ensures, ← c.greater-main.ensures, ← c.target_of.ensures.0, c.in-Some.is, with_pushed c.in-Some.first no_targets c.push.new.self (omega arith) items));
    }

pub returns-in_default-target_of : goal.returns-in_default-target_of
returns-in_default-target_of c = (
  to_stop _ _ c.loop-i.invariant.left (search rules)
      (rw (add-one, ← c.variant_tone-variant.ensures, ← c.variant_weight-weight.ensures, ← c.target_of-in-loop-i.ensures.0, c.in_default-target_of.is)),
  tt,
)

pub loop-i-preserved : goal.loop-i-preserved
loop-i-preserved c =
    let l = c.loop-i.invariant in
    let inside = rw c.in-Some-target_of.is at c.target_of-in-loop-i.ensures.1 in
    let few : c.loop-i.i + 1 ≤ c.args.variants = search rules in
    let room : length c.loop-i.g.items < 5 = omega (arith, l.so_many, few, c.requires) in
    let is = with_pushed c.in-Some-target_of.next c.loop-i.g c.push-in-loop-i.new.self room c.push-in-loop-i.ensures.items in
    record {
      few = few;
      so_many = omega (arith, c.push-in-loop-i.ensures.len, l.so_many);
      placed = placed_more _ c.in-Some-target_of.next inside c.loop-i.g l.placed room c.push-in-loop-i.new.self c.push-in-loop-i.ensures.items;
      left =
          to_again _ _ l.left (search rules)
          (rw (add-one, ← c.variant_tone-variant.ensures, ← c.variant_weight-weight.ensures, ← c.target_of-in-loop-i.ensures.0, c.in-Some-target_of.is, is));
    }

pub returns : goal.returns
returns c =
    let l = c.loop-i.invariant in
    (to_ended _ _ l.left (search rules), l.placed)
