-- `chains_end` meets its contract: each turn of the loop is one chain. Assumes nothing.
use Rattle.std.proofs.Common.{ℕ, arith, sym, ap, ◌∙◌, ◌+◌, ◌-◌, ◌≡◌, eqb, eqb-true, length}
use borrow.Author.Tests.{eqb-false}
use Rattle.tonekit_core.proofs.Split.{split}
use Rattle.spec_pack.specs.Pack.{chain_ends, chains_end}
use Rattle.tonekit_pack.specs.Held.{records_of}
use Rattle.tonekit_bytes.proofs.InOrder.{order_length}
use Rattle.tonekit_pack.proofs.Chains.{all_none, all_on, all_stop}
use Rattle.tonekit_pack.proofs.Pack.chains_end.Goals as goal

pub loop-start-init : goal.loop-start-init
loop-start-init c =
    let a = c.args in
    let p = a.self.now.accents in
    record {
      ended = λ j h. absurd (omega arith);
      rest = ap (λ (k : ℕ). chains_end a.s.now (records_of a.self.now) k 0) (omega (arith, order_length p.at p.count));
    }

pub returns-then-not-chain_ends : goal.returns-then-not-chain_ends
returns-then-not-chain_ends c =
    all_stop _ _ _ _ c.loop-start.invariant.rest (omega (arith, c.loop-start-test.true)) (sym c.chain_ends.ensures ∙ c.if-not-chain_ends.true)

pub loop-start-preserved : goal.loop-start-preserved
loop-start-preserved c =
    let n = c.args.self.now.accents.count in
    let i = c.loop-start.start in
    let st = records_of c.args.self.now in
    let less : n - (i + 1) ≡ n - i - 1 = omega arith in
    let ends = sym c.chain_ends.ensures ∙ c.if-not-chain_ends.false in
    record {
      ended = λ j h.
          split (eqb j i)
          (λ t. ap (chain_ends c.args.s.now st (length st.accents)) (eqb-true j i t) ∙ ends)
          (λ t. c.loop-start.invariant.ended j (omega (arith, h, eqb-false j i t)));
      rest = rw less (all_on _ _ _ _ c.loop-start.invariant.rest (omega (arith, c.loop-start-test.true)) ends);
    }

pub returns : goal.returns
returns c = all_none _ _ _ _ c.loop-start.invariant.rest (omega (arith, c.loop-start-test.false))
