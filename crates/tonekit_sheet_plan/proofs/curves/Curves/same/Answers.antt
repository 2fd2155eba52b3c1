use Rattle.std.proofs.Common.{rules, ℕ, arith, ◌≡◌, sym, ◌∙◌, ap}
use Rattle.spec_lookup.specs.Source.{components}
use Rattle.spec_sheet.specs.Number.{same}
use Rattle.tonekit_sheet_plan.proofs.Alike.{same_first, counts_differ, first_none, first_on, first_off}
use Rattle.tonekit_sheet_plan.proofs.curves.Curves.same.Goals as goal

pub returns-then-self-other : goal.returns-then-self-other
returns-then-self-other c =
    let a = c.args.self in
    let b = c.args.other in
    counts_differ a.bytes.now a.listing b.bytes.now b.listing c.if-self-other.true

pub loop-j-init : goal.loop-j-init
loop-j-init c =
    let a = c.args.self in
    let b = c.args.other in
    (search rules, search rules, first_none a.bytes.now a.listing b.bytes.now b.listing)

pub returns-then-not-same_component : goal.returns-then-not-same_component
returns-then-not-same_component c =
    let a = c.args.self in
    let b = c.args.other in
    first_off a.bytes.now a.listing b.bytes.now b.listing c.loop-j.j a.listing.count (omega arith) (sym c.same_component.ensures ∙ c.if-not-same_component.true)
    ∙ ap (λ (n : ℕ). same (components a.bytes.now a.listing a.listing.count) (components b.bytes.now b.listing n)) c.if-self-other.false

pub loop-j-preserved : goal.loop-j-preserved
loop-j-preserved c =
    let a = c.args.self in
    let b = c.args.other in
    (c.loop-j.invariant.0, omega arith, first_on a.bytes.now a.listing b.bytes.now b.listing c.loop-j.j c.loop-j.invariant.2 (sym c.same_component.ensures ∙ c.if-not-same_component.false))

pub returns : goal.returns
returns c =
    let a = c.args.self in
    let b = c.args.other in
    let e : c.loop-j.j ≡ a.listing.count = omega arith in
    sym c.loop-j.invariant.2 ∙ ap (same_first a.bytes.now a.listing b.bytes.now b.listing) e
    ∙ ap (λ (n : ℕ). same (components a.bytes.now a.listing a.listing.count) (components b.bytes.now b.listing n)) c.if-self-other.false
