-- `parents` meets its contract: each turn of the loop is one accent. Assumes nothing.
use Rattle.std.specs.Prelude.{Option, None}
use Rattle.std.proofs.Common.{ℕ, arith, sym, ap, refl, ◌∙◌, ◌+◌, ◌≤◌, ◌<◌, ◌≡◌, List, eqb, eqb-true, length, get_or, set, is_some, length-set, get_or-set_same, get_or-set_other}
use borrow.Author.Tests.{eqb-false}
use Rattle.tonekit_core.specs.declared.layout.TheConstants.{ACCENT_PARENT}
use Rattle.tonekit_core.proofs.Split.{split}
use Rattle.spec_arithmetic.specs.Fields.{byte_at}
use Rattle.spec_arithmetic.specs.Places.{index_of}
use Rattle.spec_pack.specs.Pack.{parent_of}
use Rattle.tonekit_pack.specs.Held.{records_of}
use Rattle.tonekit_bytes.proofs.InOrder.{order_length, order_get}
use Rattle.tonekit_pack.proofs.Numbers.{zero_there, found_there, not_there, parents_on, parents_stop, parents_done}
use Rattle.tonekit_pack.proofs.Pack.parents.Goals.{then-parent-eq0, else-parent-eq0+in_ok-index_of}
use Rattle.tonekit_pack.proofs.Pack.parents.Goals as goal

-- one place more
stored : (up : List (Option ℕ)) (i : ℕ) (v : Option ℕ) (f : ℕ → Option ℕ) → i < length up → ((j : ℕ) → j < i → get_or up j None ≡ f j) → v ≡ f i → (j : ℕ) → j < i + 1 → get_or (set up i v) j None ≡ f j
stored up i v f l h e j b =
    split (eqb j i)
    (λ t. rw (eqb-true j i t) (get_or-set_same up i v None l ∙ e))
    (λ t. get_or-set_other up i j v None (eqb-false j i t) ∙ h j (omega (arith, b, eqb-false j i t)))

pub loop-i-init : goal.loop-i-init
loop-i-init c = record { slots = refl; places = λ j h. absurd (omega arith); left = refl }

pub returns-in_err-index_of-clause-held : goal.returns-in_err-index_of-clause-held
returns-in_err-index_of-clause-held c =
    let p = c.args.self.now.accents in
    let i = c.loop-i.i in
    let accents = (records_of c.args.self.now).accents in
    let inside : i < length accents = omega (arith, order_length p.at p.count, c.loop-i-test.true) in
    let parent : c.byte_at-parent.result ≡ byte_at c.args.s.now (get_or accents i 0 + ACCENT_PARENT) =
    simp (c.byte_at-parent.ensures, c.from-o.ensures, order_get p.at p.count i c.loop-i-test.true) in
    let place : c.index_of.result ≡ index_of c.args.s.now accents (byte_at c.args.s.now (get_or accents i 0 + ACCENT_PARENT)) =
    simp (c.index_of.ensures, c.offsets-accents.ensures, ← parent) in
    ap is_some c.from_residual.ensures
    ∙ parents_stop _ _ _ c.loop-i.invariant.left inside (not_there _ _ _ _ place (ap is_some c.in_err-index_of.was) (λ z. c.if-parent-eq0.false (parent ∙ z)))

pub loop-i-preserved : goal.loop-i-preserved
loop-i-preserved c =
    let l = c.loop-i in
    let p = c.args.self.now.accents in
    let s = c.args.s.now in
    let st = records_of c.args.self.now in
    let slot : l.i < length l.up = omega (arith, l.invariant.slots, c.loop-i-test.true, p.few) in
    let inside : l.i < length st.accents = omega (arith, order_length p.at p.count, c.loop-i-test.true) in
    let parent : c.byte_at-parent.result ≡ byte_at s (get_or st.accents l.i 0 + ACCENT_PARENT) =
    simp (c.byte_at-parent.ensures, c.from-o.ensures, order_get p.at p.count l.i c.loop-i-test.true) in
    elim c.if-parent-eq0.branch [
      | then-parent-eq0 w ↦
          let place : c.index_of-of_zero.result ≡ parent_of s st l.i = simp (c.index_of-of_zero.ensures, c.offsets-accents.ensures, ← parent, w.if-parent-eq0.true) in
          rw w.up-is (record {
            slots = length-set l.up l.i c.index_of-of_zero.result ∙ l.invariant.slots;
            places = stored l.up l.i _ (parent_of s st) slot l.invariant.places place;
            left = parents_on _ _ _ l.invariant.left inside (zero_there _ _ _ (sym parent ∙ w.if-parent-eq0.true));
          })
      | else-parent-eq0+in_ok-index_of w ↦
          let place : w.index_of.result ≡ parent_of s st l.i = simp (w.index_of.ensures, c.offsets-accents.ensures, ← parent) in
          let found = w.in_ok-index_of.was in
          rw w.up-is (record {
            slots = length-set l.up l.i _ ∙ l.invariant.slots;
            places = stored l.up l.i _ (parent_of s st) slot l.invariant.places (sym found ∙ place);
            left = parents_on _ _ _ l.invariant.left inside (found_there _ _ _ _ place (ap is_some found));
          })
    ]

pub returns-clause-held : goal.returns-clause-held
returns-clause-held c =
    let p = c.args.self.now.accents in
    let all : length (records_of c.args.self.now).accents ≤ c.loop-i.i = omega (arith, order_length p.at p.count, c.loop-i-test.false) in
    parents_done _ _ _ c.loop-i.invariant.left all
