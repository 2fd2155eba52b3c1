-- The walk in whole steps ends by its own test, never by its 1,100 turns (`ends`; `walk_ends` over each window); and what the code's loop keeps (`Going`).
use Rattle.std.proofs.Common.{ℕ, zero, suc, ◌+◌, ◌-◌, ◌^◌, ◌≤◌, ◌<◌, zero-le, ◌≡◌, refl, sym, ◌∙◌, ap, subst, ◌⊎◌, inl, inr, Bool, true, false, true≢false, cond, List, add-zero, arith, T, lit≤, Float, is_nan}
use lib.Ieee.{binary64, add, le, lt, of_int, of_bits}
use lib.Ieee.Scale.{finite}
use Rattle.tonekit_core.specs.Loop.{while}
use Rattle.tonekit_core.proofs.LoopLaws.{while_again, while_ended, while_out, while_ends}
use Rattle.spec_arithmetic.specs.Pick.{lesser}
use Rattle.spec_arithmetic.specs.Whole.{whole_part}
use Rattle.tonekit_float.proofs.Order.{le_trans_float, le_refl_finite, le→not-lt}
use Rattle.tonekit_float.proofs.Bounds.{in_finite}
use Rattle.tonekit_float.proofs.Exact.{whole_worth, whole_le, whole_add}
use Rattle.tonekit_float.proofs.Whole.{part_le}
use Rattle.tonekit_float.proofs.Nans.{finite_number}
use Rattle.tonekit_float.proofs.Picked.{lesser_finite, le_lesser}
use Rattle.spec_arithmetic.specs.Constants.{zero64, one64, whole64}
use Rattle.spec_shape.specs.declared.Sweep.{Sweep}
use Rattle.spec_shape.specs.Window.{span_at, curve_at, moved_to, step_of, walk_of}
use Rattle.tonekit_window.specs.Promises.{unswept, Swept, Frame}
use Rattle.tonekit_window.proofs.Within.{low_in, high_in, frame}

-- where the walk begins, and the most turns that it takes
abbrev start_of : List Float → Float → Sweep
start_of l a = record { t0 = a; v0 = curve_at l a; next = add binary64 (whole64 (whole_part a)) one64; area = zero64 }

abbrev turn_limit : ℕ
turn_limit = 1100

-- one more than a whole number
pub next_whole : (x : Float) (n : ℕ) → n ≤ 2 ^ 52 → x ≡ whole64 n → add binary64 x one64 ≡ whole64 (n + 1)
unfolding of_int of_bits
next_whole x n h e = ap (λ (z : Float). add binary64 z one64) e ∙ whole_add binary64 n 1 (omega arith) (lit≤ tt)

-- of a time in the frames
pub part_small : (a : Float) → Frame a → whole_part a ≤ 1023
unfolding of_int
part_small a A = part_le a 1023 (lit≤ tt) (in_finite tt A) A.low A.high

-- a step by its two ways: to b, or to the next whole frame
shorter : (x b : Float) (n : Bool) → lt b x ≡ true → cond n b (cond (lt b x) b x) ≡ b
shorter x b true h = refl
shorter x b false h = rw h

pub step_short : (l : List Float) (b : Float) (s : Sweep) (v : Float) → lt b s.next ≡ true → v ≡ curve_at l b → moved_to s b v ≡ step_of l b s
unfolding step_of lesser
step_short l b s v h e = rw (e, shorter s.next b (is_nan s.next) h)

pub step_whole : (l : List Float) (b : Float) (s : Sweep) (v : Float) (n : ℕ) → s.next ≡ whole64 n → n ≤ 4000 → lt b s.next ≡ false → v ≡ curve_at l s.next
    → moved_to s s.next v ≡ step_of l b s
unfolding step_of lesser
step_whole l b s v n w k h e =
    let number : is_nan s.next ≡ false = ap is_nan w ∙ finite_number (whole64 n) (whole_worth binary64 n (omega arith)).real in
    rw (e, number, h)

-- the code's loop: the rest of the walk gives what the whole gives, and `next` is a whole number that grows
pub record Going (l : List Float) (a b : Float) (at : ℕ) (s : Sweep) : Type 0 where
  pub left : ℕ
  pub rest : while (unswept b) (step_of l b) left s ≡ walk_of l a b
  pub next_is : s.next ≡ whole64 at
  pub room : at + left ≤ 3000

module _ (l : List Float) (a b : Float) (A : Frame a) (B : Frame b) where
  b_real : T (finite b)
  b_real = in_finite tt B

  -- k turns after this one bring `next` to b or beyond
  abbrev Ahead : ℕ → Sweep → Type 0
  Ahead k s = (n : ℕ) × (s.next ≡ whole64 n) × (n + k ≤ 2 ^ 52) × T (le b (whole64 (n + k)))

  abbrev Left : ℕ → Sweep → Type 0
  Left zero s = unswept b s ≡ false
  Left (suc k) s = (unswept b s ≡ false) ⊎ Ahead k s

  last_turn : (s : Sweep) → Ahead 0 s → unswept b (step_of l b s) ≡ false
  unfolding step_of
  last_turn s h =
      let n = h.0 in
      let r : n + 0 ≤ 2 ^ 52 = h.2 in
      let p : T (finite s.next) = subst (λ (z : Float). T (finite z)) (sym h.1) (whole_worth binary64 n (omega arith)).real in
      let g : T (le b s.next) = subst (λ (z : Float). T (le b z)) (ap whole64 (add-zero n) ∙ sym h.1) h.3 in
      le→not-lt (lesser s.next b) b (lesser_finite s.next b p b_real) b_real (le_lesser s.next b p b_real b g (le_refl_finite b b_real))

  onward : (k : ℕ) (s : Sweep) → Ahead (suc k) s → Ahead k (step_of l b s)
  unfolding step_of
  onward k s h =
      let n = h.0 in
      let r : n + suc k ≤ 2 ^ 52 = h.2 in
      let e : n + 1 + k ≡ n + suc k = omega arith in
      (n + 1, next_whole s.next n (omega arith) h.1, omega arith, subst (λ (j : ℕ). T (le b (whole64 j))) (sym e) h.3)

  one_less : (k : ℕ) (s : Sweep) → Left (suc k) s → unswept b s ≡ true → Left k (step_of l b s)
  one_less k s (inl e) t = absurd (true≢false (sym t ∙ e))
  one_less zero s (inr h) t = last_turn s h
  one_less (suc k) s (inr h) t = inr (onward k s h)

  high : T (le b (whole64 1023))
  unfolding of_int
  high = B.high

  pub ends : unswept b (walk_of l a b) ≡ false
  ends =
      let n = whole_part a in
      let r = part_small a A in
      while_ends (unswept b) (step_of l b) Left (λ s e. e) one_less turn_limit (start_of l a)
      (inr (n + 1, next_whole (whole64 n) n (omega arith) refl, omega arith, le_trans_float b (whole64 1023) (whole64 (n + 1 + (turn_limit - 1))) high (whole_le binary64 1023 (n + 1 + (turn_limit - 1)) (omega arith))))

  -- ---- the code's loop
  pub going_start : Going l a b (whole_part a + 1) (start_of l a)
  going_start =
      let r = part_small a A in
      record { left = turn_limit; rest = refl; next_is = next_whole (whole64 (whole_part a)) (whole_part a) (omega arith) refl; room = omega arith }

  turns_left : (at : ℕ) (s : Sweep) (g : Going l a b at s) → unswept b s ≡ true → 0 < g.left
  turns_left at s g t = go g.left g.rest
    where
      go : (n : ℕ) → while (unswept b) (step_of l b) n s ≡ walk_of l a b → 0 < n
      go zero r = absurd (true≢false (sym t ∙ ap (unswept b) (while_out (unswept b) (step_of l b) {n = 0} r zero-le) ∙ ends))
      go (suc n) r = omega arith

  stepped : (at : ℕ) (s t : Sweep) (g : Going l a b at s) → t ≡ step_of l b s → t.next ≡ whole64 (at + 1)
  unfolding step_of
  stepped at s t g e = let r = g.room in ap (λ (z : Sweep). z.next) e ∙ next_whole s.next at (omega arith) g.next_is

  pub going_again : (at : ℕ) (s t : Sweep) → Going l a b at s → unswept b s ≡ true → t ≡ step_of l b s → Going l a b (at + 1) t
  going_again at s t g u e =
      let k = turns_left at s g u in
      let r = g.room in
      record {
        left = g.left - 1;
        rest = while_again (unswept b) (step_of l b) g.rest k u (sym e);
        next_is = stepped at s t g e;
        room = omega arith;
      }

  pub going_done : (at : ℕ) (s : Sweep) → Going l a b at s → unswept b s ≡ false → Swept l a b s
  going_done at s g u = record { is = while_ended (unswept b) (step_of l b) g.left g.rest u; ended = u }

-- over the window about a point of a contour
pub walk_ends : (l : List Float) (n k : ℕ) → n ≤ 1024 → k ≤ 9 → unswept (span_at n k).high (walk_of l (span_at n k).low (span_at n k).high) ≡ false
walk_ends l n k n-le k_le =
    ends l (span_at n k).low (span_at n k).high (frame n n-le (low_in n k n-le k_le)) (frame n n-le (high_in n k n-le k_le))
