use Rattle.std.proofs.Common.{rules, arith, ◌≤◌, ◌<◌, ◌≡◌, ◌∙◌, sym, subst, length}
use Rattle.tonekit_sheet_plan.specs.Listings.{carried_by}
use Rattle.tonekit_sheet_plan.specs.Plans.{planned_by}
use Rattle.tonekit_sheet_plan.specs.Entries.{FirstPlace}
use Rattle.tonekit_sheet_plan.proofs.Placing.{placing_begun, placing_on, placing_hit, placing_out}
use Rattle.tonekit_sheet_plan.proofs.Memo.{compared, below, planned_length}
use Rattle.tonekit_sheet_plan.proofs.Plan.place_of.Goals as goal
use Rattle.tonekit_sheet_plan.proofs.Plan.place_of.Goals.{In-loop-i}

pub loop-i-init : goal.loop-i-init
loop-i-init c = let a = c.args in (search rules, placing_begun (carried_by a.self.now.bytes.now a.c.listing) (planned_by a.self.now))

-- the list that is read is one of the plan's
inside : (c : In-loop-i) → c.loop-i.i < length c.args.self.now.lists.items
inside c = rw c.as_slice-e-items.ensures.value at c.loop-i-test.true

pub holds-requires : goal.holds-requires
holds-requires c =
    let i = inside (goal.at.holds-requires c).In-loop-i in
    rw (c.requires.0, c.as_slice-e-items.ensures.value) (c.args.self.now.sane.marked c.loop-i.i i, c.requires.1)

pub returns-then-holds : goal.returns-then-holds
returns-then-holds c =
    let i = inside (goal.at.returns-then-holds c).In-loop-i in
    let p = c.args.self.now in
    let s = p.bytes.now in
    let v = carried_by s c.args.c.listing in
    let e = rw (c.requires.0, c.as_slice-e-items.ensures.value) at c.holds.ensures in
    record {
      place = placing_hit v (planned_by p) c.loop-i.invariant.1 (below s p.lists.items v i) (compared s p.lists.items v i e ∙ c.if-holds.true);
      few = omega (arith, c.loop-i-test.true, c.as_slice-e-items.ensures.fits);
    }

pub loop-i-preserved : goal.loop-i-preserved
loop-i-preserved c =
    let i = inside (goal.at.loop-i-preserved c).In-loop-i in
    let p = c.args.self.now in
    let s = p.bytes.now in
    let v = carried_by s c.args.c.listing in
    let e = rw (c.requires.0, c.as_slice-e-items.ensures.value) at c.holds.ensures in
    (omega (arith, i), placing_on v (planned_by p) c.loop-i.invariant.1 (below s p.lists.items v i) (compared s p.lists.items v i e ∙ c.if-holds.false))

pub returns : goal.returns
returns c =
    let p = c.args.self.now in
    let s = p.bytes.now in
    let v = carried_by s c.args.c.listing in
    let n = planned_length s p.lists.items in
    let end : length p.lists.items ≤ c.loop-i.i = rw c.as_slice-e-items.ensures.value at c.loop-i-test.false in
    let q : length (planned_by p) ≡ c.len.result = n ∙ sym c.len.ensures.value in
    record {
      place = subst (FirstPlace v (planned_by p)) q (placing_out v (planned_by p) c.loop-i.invariant.1 (omega (arith, end, n)));
      few = c.len.ensures.fits;
    }
