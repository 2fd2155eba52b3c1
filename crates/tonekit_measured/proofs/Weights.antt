-- A voiced weight is finite: of the frames of a window, of which there is one at least, no more are voiced than there are.
use Rattle.std.proofs.Common.{ℕ, ◌+◌, ◌-◌, ◌*◌, ◌^◌, ◌≤◌, T, Bool, true, false, cond, List, leb, leb→le, ◌<◌, ◌≡◌, refl, sym, subst, mul-one, arith, lit≤}
use Rattle.std.specs.Prelude.{min}
use lib.Ieee.{binary64}
use lib.Ieee.Scale.{finite}
use Rattle.tonekit_core.proofs.LoopLaws.{range_keeps}
use Rattle.spec_shape.specs.Chao.{voiced}
use Rattle.spec_shape.specs.declared.FrameRange.{FrameRange}
use Rattle.spec_shape.specs.Window.{frames_at, weight_at}
use Rattle.tonekit_float.proofs.Size.{within_whole, within_more, within_mean, within_narrow}
use Rattle.tonekit_window.specs.Promises.{Framed, voiced_in}

chosen : (n k low high near : ℕ) → high < n → near < n → frames_at n k ≡ cond (leb low high) (record { from = low; to = high }) (record { from = near; to = near }) → Framed n k (frames_at n k)
chosen n k low high near h l is = subst (Framed n k) (sym is) (go (leb low high) (leb→le low high) (sym is))
  where
    go : (b : Bool) → (T b → low ≤ high) → cond b (record { from = low; to = high }) (record { from = near; to = near }) ≡ frames_at n k
        → Framed n k (cond b (record { from = low; to = high }) (record { from = near; to = near }))
    go true f e = record { is = e; some = f tt; inside = h }
    go false f e = record { is = e; some = omega arith; inside = l }

framed : (n k : ℕ) → 1 ≤ n → Framed n k (frames_at n k)
unfolding frames_at
framed n k h = chosen n k _ _ _ (inside _ n h) (inside _ n h) refl
  where
    inside : (i n : ℕ) → 1 ≤ n → min i (n - 1) < n
    inside i n h = omega arith

counted : (frames : List ℕ) (first : ℕ) (r : FrameRange) → r.from ≤ r.to → voiced_in frames first r ≤ r.to + 1 - r.from
counted frames first r h =
    (range_keeps (λ j c. cond (voiced frames (first + j)) (c + 1) c) (λ j c. (r.from ≤ j) × (c ≤ j - r.from)) r.from (r.to + 1) 0 (omega arith)
    (λ j c k l. (omega (arith, l.0), one_more j c l.0 l.1 (voiced frames (first + j)))) (omega arith, omega arith)).1
  where
    one_more : (j c : ℕ) → r.from ≤ j → c ≤ j - r.from → (b : Bool) → cond b (c + 1) c ≤ j + 1 - r.from
    one_more j c l k true = omega arith
    one_more j c l k false = omega arith

pub weight_finite : (frames : List ℕ) (first n k : ℕ) → 1 ≤ n → n ≤ 1024 → T (finite (weight_at frames first n k))
weight_finite frames first n k some few =
    let r = frames_at n k in
    let f = framed n k some in
    let ordered = f.some in
    let inside = f.inside in
    let m = r.to - r.from + 1 in
    let c = counted frames first r ordered in
    let share : voiced_in frames first r ≤ m * 1 = omega (arith, mul-one m, c, ordered) in
    let exact : voiced_in frames first r ≤ 2 ^ 53 = omega (arith, c, inside, few) in
    (within_narrow (lit≤ tt) (within_mean binary64 m 1 (omega arith) (omega (arith, inside, few)) (lit≤ tt) (within_more share (within_whole binary64 (voiced_in frames first r) exact)))).real
