use Rattle.std.proofs.Common.{◌≡◌, ◌+◌, ◌-◌, ◌≤◌, ◌<◌, [], ◌∷◌, ◌++◌, refl, length, length-append, get_or, slice_range, ◌∙◌, arith}
use Rattle.std.proofs.lemmas.Iterator.Adapters.{YieldsList-from_rev_slice}
use Rattle.std.proofs.lemmas.Iterator.Consumers.{YieldsList-turn, YieldsList-end}
use Rattle.tonekit_decimal.proofs.Turns.{figures_turn, figures_end, part_length, digit_down}
use Rattle.tonekit_decimal.proofs.Digits.add_figures.Goals as goal

pub loop-digit-preserved : goal.loop-digit-preserved
loop-digit-preserved c =
    let a = c.args in
    let l = c.loop-digit in
    let ds = a.self.now.places in
    let part = slice_range ds a.low a.end in
    let k = length l.yielded in
    let fits : a.end ≤ length ds = omega (arith, c.requires.places, a.self.now.size) in
    let turn = YieldsList-turn (YieldsList-from_rev_slice part cc) l.yielded _ l.yielded_by _ _ _ c.in-Some.is c.next.ensures.steps in
    let m : k < a.end - a.low = omega (arith, turn.0, part_length ds a.low a.end c.requires.places.0 fits) in
    let digit : c.in-Some.digit.now ≡ get_or ds (a.end - k - 1) 0 = turn.1 ∙ digit_down ds a.low a.end k _ c.requires.places.0 fits m in
    let e = c.push.ensures.ascii (omega arith) in
    let n : length (l.yielded ++ c.in-Some.digit ∷ []) ≡ k + 1 = simp length-append refl in
    let s : a.end - (k + 1) ≡ a.end - k - 1 = omega arith in (
      rw n (omega (arith, m)),
      rw (n, e) (simp length-append (omega (arith, l.invariant.1))),
      rw (n, s, e, c.from.ensures, digit) (figures_turn l.text.bytes ds a.low (a.end - k) _ (omega (arith, m)) l.invariant.2),
    )

pub returns-clause-bytes : goal.returns-clause-bytes
returns-clause-bytes c =
    let a = c.args in
    let l = c.loop-digit in
    let ds = a.self.now.places in
    let fits : a.end ≤ length ds = omega (arith, c.requires.places, a.self.now.size) in
    let done = YieldsList-end (YieldsList-from_rev_slice (slice_range ds a.low a.end) cc) l.yielded _ l.yielded_by _ _ c.in-None.is c.next.ensures.steps in
    let all : length l.yielded ≡ a.end - a.low = done.1 ∙ part_length ds a.low a.end c.requires.places.0 fits in
    figures_end l.text.bytes ds a.low (a.end - length l.yielded) _ (omega arith) l.invariant.2
