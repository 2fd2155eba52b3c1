-- The loop of `at_least_min_span` makes one turn at most, whatever its limit (`stops`, `settles`); and what the code's loop keeps (`Going`). Assumes nothing.
use Rattle.std.proofs.Common.{ℕ, zero, suc, ◌-◌, ◌≤◌, ◌<◌, ◌≡◌, refl, sym, ◌∙◌, ap, ◌⊎◌, inl, inr, Bool, true, false, true≢false, cond, arith, lit<, T, Float}
use lib.Ieee.{binary32, binary64, le, lt, eq, sub, div, of_bits, of_int, round}
use lib.Ieee.Scale.{finite}
use Rattle.tonekit_core.specs.Loop.{while}
use Rattle.tonekit_core.proofs.LoopLaws.{while_again, while_ended, while_ends}
use Rattle.spec_shape.specs.declared.Register.{Register}
use Rattle.spec_shape.specs.Register.{two, min_span, narrow, about, step_of, pushed, widened}
use Rattle.tonekit_float.proofs.Order.{le→not-lt}
use Rattle.tonekit_float.proofs.Bounds.{in_finite, in_sub}
use Rattle.tonekit_min_span.specs.Near.{Around}
use Rattle.tonekit_min_span.proofs.Ranges.{Size, pushed_floor, pushed_ceil, pushed_floor_in, pushed_ceil_in, pushed_wide}

-- the difference of ends that lie within 9,000 is a number
pub gap_real : (floor ceil : Float) → Around 9000 floor → Around 9000 ceil → T (finite (sub binary32 ceil floor))
unfolding le lt eq sub round
gap_real floor ceil f c = in_finite {x = sub binary32 ceil floor} tt (in_sub binary32 tt c f)

pub min_span_real : T (finite min_span)
unfolding of_bits
min_span_real = tt

module _ (mid : Float) (r0 : Size mid) (r : Register) where
  abbrev push : Register → Register
  push = pushed (step_of mid)

  abbrev start : Register
  start = about mid r

  -- one turn is enough
  pub one_turn : narrow (push start) ≡ false
  unfolding of_bits
  one_turn =
      le→not-lt (sub binary32 (pushed_ceil mid) (pushed_floor mid)) min_span (gap_real (pushed_floor mid) (pushed_ceil mid) (pushed_floor_in mid r0) (pushed_ceil_in mid r0)) min_span_real
      (pushed_wide mid r0)

  -- at most k turns are left, of which one is the most there can be
  abbrev Left : ℕ → Register → Type 0
  Left zero e = narrow e ≡ false
  Left (suc k) e = (narrow e ≡ false) ⊎ (narrow (push e) ≡ false)

  one_less : (k : ℕ) (e : Register) → Left (suc k) e → narrow e ≡ true → Left k (push e)
  one_less k e (inl h) t = absurd (true≢false (sym t ∙ h))
  one_less zero e (inr h) t = h
  one_less (suc k) e (inr h) t = inl h

  -- its own test ends it
  pub stops : (n : ℕ) → 1 ≤ n → narrow (while narrow push n start) ≡ false
  stops zero h = absurd (omega arith)
  stops (suc n) h = while_ends narrow push Left (λ e h. h) one_less (suc n) start (inr one_turn)

  -- what it leaves, with no loop
  pub settles : (n : ℕ) → 1 ≤ n → while narrow push n start ≡ cond (narrow start) (push start) start
  settles n h = go (narrow start) refl
    where
      go : (t : Bool) → narrow start ≡ t → while narrow push n start ≡ cond t (push start) start
      go false e = sym (while_ended narrow push n refl e)
      go true e = sym (while_ended narrow push (n - 1) (while_again narrow push {n = n} refl (omega arith) e refl) one_turn)

-- ---- what the code's loop keeps: it stands at its start, or its test is false
pub record Going (mid : Float) (r e : Register) : Type 0 where
  pub left : ℕ
  pub rest : while narrow (pushed (step_of mid)) left e ≡ widened mid r
  pub stands : (narrow e ≡ false) ⊎ ((e ≡ about mid r) × (left ≡ 1000))

pub going_start : (mid : Float) (r : Register) → Going mid r (about mid r)
going_start mid r = record { left = 1000; rest = refl; stands = inr (refl, refl) }

pub going_again : (mid : Float) (r e : Register) → Size mid → Going mid r e → narrow e ≡ true
    → (narrow (pushed (step_of mid) e) ≡ false) × Going mid r (pushed (step_of mid) e)
going_again mid r e r0 g t = go g.stands
  where
    push : Register → Register
    push = pushed (step_of mid)

    go : (narrow e ≡ false) ⊎ ((e ≡ about mid r) × (g.left ≡ 1000)) → (narrow (push e) ≡ false) × Going mid r (push e)
    go (inl h) = absurd (true≢false (sym t ∙ h))
    go (inr h) =
        let n : narrow (push e) ≡ false = ap (λ (z : Register). narrow (push z)) h.0 ∙ one_turn mid r0 r in
        let l = h.1 in
        (n, record { left = g.left - 1; rest = while_again narrow push g.rest (omega arith) t refl; stands = inl n })

pub going_done : (mid : Float) (r e : Register) → Going mid r e → narrow e ≡ false → e ≡ widened mid r
going_done mid r e g t = while_ended narrow (pushed (step_of mid)) g.left g.rest t

-- 1 while there is a turn to make
pub falls : (a b : Bool) → a ≡ false → b ≡ true → cond a 1 0 < cond b 1 0
falls a b p q = rw (p, q) (lit< tt)

-- half of the span, as the code computes it
pub half_span : div binary64 min_span (of_bits binary64 0x4000_0000_0000_0000) ≡ two
unfolding div of_bits of_int round
half_span = refl
