-- `fill` meets its contract: as many components as turns are passed stand in their slots.
use Rattle.std.proofs.Common.{rules, ℕ, ◌*◌, ◌+◌, ◌-◌, ◌≤◌, ◌<◌, ◌≡◌, ◌∙◌, ap, List, drop, arith, length, length-drop, length-take-le, length-set}
use Rattle.spec_arithmetic.specs.Fields.{byte_at}
use Rattle.spec_judgement.specs.declared.Slot.{Slot}
use Rattle.tonekit_inventory.proofs.Slots.{about_whole, about_set}
use Rattle.tonekit_sheet_inventory.proofs.Slots.{put_none, put_one}
use Rattle.tonekit_sheet_inventory.proofs.fill.Goals as goal

pub loop-j-init : goal.loop-j-init
loop-j-init c =
    let a = c.args in
    let n : ℕ = c.from-count.result in
    let many : n ≡ byte_at a.s.now (a.o + 6) = c.from-count.ensures ∙ c.byte_at.ensures in
    let long : length a.slots.now.list ≡ 32 = search rules in
    let few : n ≤ 4 = search rules in
    let m : 4 * a.t + n - 4 * a.t ≡ n = omega arith in
    record {
      many = rw m (length-take-le n (drop (4 * a.t) a.slots.now.list) (omega (arith, few, c.requires.0, long, length-drop (4 * a.t) a.slots.now.list))) ∙ many;
      stored = ap (λ (l : List Slot). record { list = l }) (about_whole (4 * a.t) (4 * a.t + n - 4 * a.t) a.slots.now.list) ∙ put_none a.s.now a.o a.t a.slots.now;
    }

pub loop-j-preserved : goal.loop-j-preserved
loop-j-preserved c =
    let a = c.args in
    let l = c.loop-j in
    let n : ℕ = c.from-count.result in
    let long : length a.slots.now.list ≡ 32 = search rules in
    let h : l.j < length l.own = omega (arith, c.loop-j-test.true, l.auto.own) in
    let put = put_one a.s.now a.o a.t a.slots.now l.j _ c.f32_at.ensures _ c.ten_at-points.ensures l.invariant.stored in
    record {
      many = length-set l.own l.j _ ∙ l.invariant.many;
      stored = ap (λ (x : List Slot). record { list = x }) (about_set (4 * a.t) (4 * a.t + n - 4 * a.t) a.slots.now.list l.own l.j _ (omega (arith, c.requires.0, long)) h) ∙ put;
    }

pub returns : goal.returns
returns c =
    let l = c.loop-j in
    let a = c.args in
    let e : l.j ≡ byte_at a.s.now (a.o + 6) = omega (arith, c.loop-j-test.false, l.auto.own, l.auto.j-end, l.invariant.many) in
    rw e at l.invariant.stored
