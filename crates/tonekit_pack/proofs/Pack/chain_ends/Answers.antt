-- `chain_ends` meets its contract: each turn of the loop is a step of the walk, which stays among the accents. Assumes nothing.
use Rattle.std.proofs.Common.{ℕ, suc, arith, sym, ap, ◌∙◌, ◌+◌, ◌-◌, ◌<◌, ◌≡◌, length}
use Rattle.spec_pack.specs.Pack.{chain_ends}
use Rattle.tonekit_pack.specs.Held.{records_of}
use Rattle.tonekit_bytes.proofs.InOrder.{order_length}
use Rattle.tonekit_bytes.proofs.Searched.{index_found}
use Rattle.tonekit_pack.proofs.Chains.{up, decides, walk_top, walk_up, walk_out}
use Rattle.tonekit_pack.proofs.Pack.chain_ends.Goals as goal

pub loop-init : goal.loop-init
loop-init c =
    let a = c.args in
    let p = a.self.now.accents in
    record {
      inside = c.requires.0;
      rest = ap (λ (n : ℕ). chain_ends a.s.now (records_of a.self.now) n a.i) (omega (arith, order_length p.at p.count));
      above = λ n x. (n, x);
    }

pub returns-in_default : goal.returns-in_default
returns-in_default c =
    walk_top _ _ _ _ c.loop.invariant.rest (omega (arith, c.loop-test.true)) (sym (c.requires.1 c.loop.a c.loop.invariant.inside) ∙ c.in_default.is)

pub returns-then-parent-i : goal.returns-then-parent-i
returns-then-parent-i c =
    let a = c.args in
    let p = a.self.now.accents in
    let st = records_of a.self.now in
    let e = sym (c.requires.1 c.loop.a c.loop.invariant.inside) ∙ c.in-Some.is in
    let inside : a.i < length st.accents = omega (arith, order_length p.at p.count, c.requires.0) in
    let x = (decides a.s.now st c.in-Some.parent (index_found _ _ _ _ e).inside).0 (c.requires.2 c.in-Some.parent c.if-parent-i.true) in
    sym ((decides a.s.now st a.i inside).1 (c.loop.invariant.above (suc x.0) (up e x.1)))

pub loop-preserved : goal.loop-preserved
loop-preserved c =
    let p = c.args.self.now.accents in
    let e = sym (c.requires.1 c.loop.a c.loop.invariant.inside) ∙ c.in-Some.is in
    let found = (index_found _ _ _ _ e).inside in
    let less : p.count - (c.loop.counter + 1) ≡ p.count - c.loop.counter - 1 = omega arith in
    record {
      inside = omega (arith, found, order_length p.at p.count);
      rest = rw less (walk_up _ _ _ _ _ c.loop.invariant.rest (omega (arith, c.loop-test.true)) e);
      above = λ n x. c.loop.invariant.above (suc n) (up e x);
    }

pub returns : goal.returns
returns c = walk_out _ _ _ _ c.loop.invariant.rest (omega (arith, c.loop-test.false))
