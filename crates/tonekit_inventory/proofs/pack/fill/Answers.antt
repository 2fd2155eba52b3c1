-- `fill` meets its contract: as many components as turns are passed stand in their slots.
use Rattle.std.proofs.Common.{rules, ◌*◌, ◌+◌, ◌-◌, ◌≤◌, ◌<◌, ◌≡◌, ◌∙◌, ap, List, drop, arith, length, length-drop, length-take-le, length-set}
use Rattle.spec_judgement.specs.declared.Slot.{Slot}
use Rattle.tonekit_inventory.proofs.Slots.{put_none, put_one, about_whole, about_set}
use Rattle.tonekit_inventory.proofs.pack.fill.Goals as goal

pub loop-j-init : goal.loop-j-init
loop-j-init c =
    let a = c.args in
    let long : length a.slots.now.list ≡ 32 = search rules in
    let few : a.l.count ≤ 4 = search rules in
    let n : 4 * a.t + a.l.count - 4 * a.t ≡ a.l.count = omega arith in
    record {
      many = rw n (length-take-le a.l.count (drop (4 * a.t) a.slots.now.list) (omega (arith, few, c.requires.0, long, length-drop (4 * a.t) a.slots.now.list)));
      stored = ap (λ (l : List Slot). record { list = l }) (about_whole (4 * a.t) (4 * a.t + a.l.count - 4 * a.t) a.slots.now.list) ∙ put_none a.s.now a.l a.t a.slots.now;
    }

pub component_at-c-requires : goal.component_at-c-requires
component_at-c-requires c = c.requires.1.each c.loop-j.j (omega (arith, c.loop-j-test.true, c.loop-j.auto.own, c.loop-j.invariant.many))

pub loop-j-preserved : goal.loop-j-preserved
loop-j-preserved c =
    let a = c.args in
    let l = c.loop-j in
    let long : length a.slots.now.list ≡ 32 = search rules in
    let h : l.j < length l.own = omega (arith, c.loop-j-test.true, l.auto.own) in
    let put = put_one a.s.now a.l a.t a.slots.now l.j l.invariant.stored in
    record {
      many = length-set l.own l.j _ ∙ l.invariant.many;
      stored =
          ap (λ (x : List Slot). record { list = x }) (about_set (4 * a.t) (4 * a.t + a.l.count - 4 * a.t) a.slots.now.list l.own l.j _ (omega (arith, c.requires.0, long)) h)
          ∙ rw c.component_at-c.ensures.0 put;
    }

pub returns : goal.returns
returns c =
    let l = c.loop-j in
    let e : l.j ≡ c.args.l.count = omega (arith, c.loop-j-test.false, l.auto.own, l.invariant.many, l.auto.j-end) in
    rw e at l.invariant.stored
