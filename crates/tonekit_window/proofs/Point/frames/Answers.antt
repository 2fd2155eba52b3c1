use Rattle.std.proofs.Common.{rules, ◌≡◌, sym, ◌∙◌, ap, subst, ℕ, ◌-◌, ◌≤◌, ◌<◌, min, le-leb}
use borrow.Author.Tests.{lt-leb}
use lib.Ieee.{binary64, add, sub}
use Rattle.spec_arithmetic.specs.Position.{position}
use Rattle.spec_arithmetic.specs.Whole.{whole_part, round_up}
use Rattle.spec_shape.specs.declared.Span.{Span}
use Rattle.spec_shape.specs.declared.FrameRange.{FrameRange}
use Rattle.spec_shape.specs.Window.{edge, span_at, rounded, frames_at}
use Rattle.tonekit_window.specs.Promises.{Frame}
use Rattle.tonekit_window.proofs.Within.{frame, low_lt, high_from, high_lt, position_frame}
use Rattle.tonekit_window.proofs.Point.frames.Goals as goal

pub ceil_index-from-requires : goal.ceil_index-from-requires
ceil_index-from-requires c = low_lt _ (frame c.args.self.n (search rules) c.span-span.ensures.low_in)

pub floor_index-requires : goal.floor_index-requires
floor_index-requires c =
    let f = frame c.args.self.n (search rules) c.span-span.ensures.high_in in
    record { low = (high_from _ f).low; high = high_lt _ f }

pub invariant_of-place : goal.invariant_of-place
invariant_of-place c =
    let a = c.args.self in
    record { inside = subst Frame (sym c.place.ensures) (position_frame a.n a.k a.few a.ten) }

-- the window's first and last frame, and the nearest to the point
abbrev low_frame : ℕ → ℕ → ℕ
low_frame n k = round_up (sub binary64 (span_at n k).low edge)

abbrev high_frame : ℕ → ℕ → ℕ
high_frame n k = min (whole_part (add binary64 (span_at n k).high edge)) (n - 1)

abbrev nearest : ℕ → ℕ → ℕ
nearest n k = min (rounded (position k (n - 1))) (n - 1)

-- the two ways
held : (n k from to : ℕ) → from ≡ low_frame n k → to ≡ high_frame n k → from ≤ to → ◌≡◌ {A = FrameRange} (record { from = from; to = to }) (frames_at n k)
unfolding frames_at
held n k from to e g h = simp (← e, ← g, le-leb _ _ h)

none : (n k from to near : ℕ) → from ≡ low_frame n k → to ≡ high_frame n k → to < from → near ≡ nearest n k → ◌≡◌ {A = FrameRange} (record { from = near; to = near }) (frames_at n k)
unfolding frames_at
none n k from to near e g h i = simp (← e, ← g, lt-leb _ _ h, ← i)

low_is : (n k from : ℕ) (s : Span) → s ≡ span_at n k → from ≡ round_up (sub binary64 s.low edge) → from ≡ low_frame n k
low_is n k from s e g = g ∙ ap (λ (z : Span). round_up (sub binary64 z.low edge)) e

high_is : (n k w to : ℕ) (s : Span) → s ≡ span_at n k → w ≡ whole_part (add binary64 s.high edge) → to ≡ min w (n - 1) → to ≡ high_frame n k
high_is n k w to s e g h = h ∙ ap (λ (m : ℕ). min m (n - 1)) (g ∙ ap (λ (z : Span). whole_part (add binary64 z.high edge)) e)

pub returns-then-from-to : goal.returns-then-from-to
returns-then-from-to c =
    let n = c.args.self.n in
    let k = c.args.self.k in
    let s = c.span-span in
    let low = low_is n k _ s.result s.ensures.is c.ceil_index-from.ensures in
    let high = high_is n k _ _ s.result s.ensures.is c.floor_index.ensures c.min-to.ensures in
    record { is = held n k _ _ low high c.if-from-to.true; some = c.if-from-to.true; inside = search rules }

pub returns : goal.returns
returns c =
    let n = c.args.self.n in
    let k = c.args.self.k in
    let s = c.span-span in
    let low = low_is n k _ s.result s.ensures.is c.ceil_index-from.ensures in
    let high = high_is n k _ _ s.result s.ensures.is c.floor_index.ensures c.min-to.ensures in
    let near = c.min-near.ensures ∙ ap (λ (m : ℕ). min m (n - 1)) (c.rounded.ensures ∙ ap rounded c.place.ensures) in
    record { is = none n k _ _ _ low high c.if-from-to.false near; some = search rules; inside = search rules }
