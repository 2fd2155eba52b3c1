use Rattle.std.proofs.Common.{arith, refl, sym, ◌∙◌, ◌+◌, ◌-◌, ◌≡◌}
use Rattle.tonekit_core.specs.Loop.{loop_stop}
use Rattle.tonekit_core.proofs.LoopLaws.{loop_again as onward}
use Rattle.spec_lookup.specs.Lookup.{find_rule}
use Rattle.tonekit_bytes.proofs.InOrder.{order_length}
use Rattle.tonekit_bytes.proofs.Searched.{index_found}
use Rattle.tonekit_expect.proofs.Walk.{climb_hit, climb_top, climb_on, loop_out}
use Rattle.tonekit_expect.proofs.find_rule.Goals as goal

pub loop-init : goal.loop-init
unfolding find_rule
loop-init c =
    let p = c.args.v.pack.accents in
    let all : p.count - 0 ≡ p.count = omega arith in
    record { inside = c.requires; rest = rw (all, order_length p.at p.count) refl }

pub best_rule-requires : goal.best_rule-requires
best_rule-requires c = c.loop.invariant.inside

pub returns-in-Some : goal.returns-in-Some
returns-in-Some c =
    loop_stop _ _ c.loop.invariant.rest (omega (arith, c.loop-test.true)) (climb_hit _ _ _ _ _ (sym c.best_rule.ensures ∙ c.in-Some.is))

pub parent_index-requires : goal.parent_index-requires
parent_index-requires c = c.loop.invariant.inside

pub returns-in_err-a : goal.returns-in_err-a
returns-in_err-a c =
    c.from_residual.ensures
    ∙ loop_stop _ _ c.loop.invariant.rest (omega (arith, c.loop-test.true)) (climb_top _ _ _ _ (sym c.best_rule.ensures ∙ c.in_default.is) (sym c.parent_index.ensures ∙ c.in_err-a.was))

pub loop-preserved : goal.loop-preserved
loop-preserved c =
    let p = c.args.v.pack.accents in
    let e = sym c.parent_index.ensures ∙ c.in_ok-a.was in
    let none = sym c.best_rule.ensures ∙ c.in_default.is in
    let found = (index_found _ _ _ _ e).inside in
    let less : p.count - (c.loop.counter + 1) ≡ p.count - c.loop.counter - 1 = omega arith in
    record {
      inside = omega (arith, found, order_length p.at p.count);
      rest = rw less (onward _ _ c.loop.invariant.rest (omega (arith, c.loop-test.true)) (climb_on _ _ _ _ _ none e));
    }

pub returns : goal.returns
returns c = loop_out _ _ _ _ _ c.loop.invariant.rest (omega (arith, c.loop-test.false))
