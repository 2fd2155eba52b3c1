use Rattle.std.proofs.Common.{◌≡◌, ◌∙◌, Bool, ap, sym, refl, reverse}
use Rattle.std.proofs.lemmas.Iterator.Adapters.{YieldsList-from_rev_slice}
use Rattle.std.proofs.lemmas.Iterator.Search.{cmp_from_yields_List}
use Rattle.std.specs.Cmp.Lexicographic.{slice_cmp}
use Rattle.std.specs.Ordering.{is_lt, is_le, nat_cmp}
use Rattle.tonekit_decimal.proofs.Order.{within, by_cmp}
use Rattle.tonekit_decimal.proofs.Digits.at_most.Goals as goal
use Rattle.tonekit_decimal.proofs.Digits.at_most.Goals.{After-cmp-order}

order : (c : After-cmp-order) → c.cmp-order.result ≡ slice_cmp nat_cmp (reverse c.args.self.now.places) (reverse c.args.other.now.places)
order c =
    cmp_from_yields_List (λ x y. y ≡ x) _ nat_cmp _ c.cmp-order.ensures.ran (YieldsList-from_rev_slice c.args.self.now.places cc) (λ it e. YieldsList-from_rev_slice c.args.other.now.places cc) (λ x y. refl)

pub returns-then-less : goal.returns-then-less
returns-then-less c =
    let a = c.args in
    c.is_lt.ensures ∙ ap is_lt (order (goal.at.returns-then-less c).After-cmp-order)
    ∙ ap (λ (t : Bool). within t (slice_cmp nat_cmp (reverse a.self.now.places) (reverse a.other.now.places))) (sym c.if-less.true)
    ∙ sym (by_cmp a.less a.self.now.places a.other.now.places (a.self.now.size ∙ sym a.other.now.size))

pub returns-else-less : goal.returns-else-less
returns-else-less c =
    let a = c.args in
    c.is_le.ensures ∙ ap is_le (order (goal.at.returns-else-less c).After-cmp-order)
    ∙ ap (λ (t : Bool). within t (slice_cmp nat_cmp (reverse a.self.now.places) (reverse a.other.now.places))) (sym c.if-less.false)
    ∙ sym (by_cmp a.less a.self.now.places a.other.now.places (a.self.now.size ∙ sym a.other.now.size))
