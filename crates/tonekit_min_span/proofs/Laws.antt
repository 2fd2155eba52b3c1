-- What callers may cite: the widening loop ends by its own test, within one turn, and the register is then at least 4 semitones wide. Assumes nothing.
use Rattle.std.proofs.Common.{ℕ, ◌≤◌, ◌≡◌, refl, sym, subst, Bool, true, false, cond, T, lit≤, Float}
use lib.Ieee.{binary32, binary64, add, sub, lt, le, eq, of_int, round}
use lib.Ieee.Scale.{finite}
use Rattle.tonekit_core.specs.Loop.{while}
use Rattle.spec_arithmetic.specs.Narrow.{narrowed}
use Rattle.spec_shape.specs.declared.Register.{Register}
use Rattle.spec_shape.specs.declared.Percentiles.{Percentiles}
use Rattle.spec_shape.specs.Register.{two, min_span, wide, narrow, middle, about, step_of, pushed, widened, at_least_min_span, of_percentiles}
use Rattle.tonekit_float.proofs.Order.{not-lt→le, yes}
use Rattle.tonekit_float.proofs.Bounds.{in_finite, in_wider, in_add, in_sub, in_narrow}
use Rattle.tonekit_min_span.specs.Near.{Around, Near}
use Rattle.tonekit_min_span.proofs.Ranges.{two_in, middle_size, floor_in, ceil_in, pushed_floor_in, pushed_ceil_in}
use Rattle.tonekit_min_span.proofs.Turns.{gap_real, min_span_real, one_turn, stops, settles}

-- 4 semitones about the register's middle; what a turn makes of a register; and what the loop leaves where it may make n turns (1,000 in the definition)
abbrev pub start_of : Register → Register
start_of r = about (middle r) r

abbrev pub push_of : Register → Register → Register
push_of r = pushed (step_of (middle r))

abbrev pub after : ℕ → Register → Register
after n r = while narrow (push_of r) n (start_of r)

-- the loop ends by its own test: whatever limit its turns have, if only it is 1 or more, the test is false at the end
pub ends : (r : Register) → Near r.floor → Near r.ceil → (n : ℕ) → 1 ≤ n → narrow (after n r) ≡ false
ends r f c = stops (middle r) (middle_size r f c) r

-- the loop makes one turn at most: it leaves 4 semitones about the middle as they are where the test is false, and pushed once where it is not
pub settled : (r : Register) → Near r.floor → Near r.ceil → (n : ℕ) → 1 ≤ n → after n r ≡ cond (narrow (start_of r)) (push_of r (start_of r)) (start_of r)
settled r f c = settles (middle r) (middle_size r f c) r

-- ---- what holds of the register where it is wide enough, and of the two that the loop may leave, holds of the result
by_cases : (P : Register → Type 0) (r : Register) → Near r.floor → Near r.ceil
    → (wide r ≡ true → P r) → (narrow (start_of r) ≡ false → P (start_of r)) → (narrow (push_of r (start_of r)) ≡ false → P (push_of r (start_of r))) → P (at_least_min_span r)
unfolding at_least_min_span
by_cases P r f c kept near apart = whole (wide r) refl
  where
    looped : (t : Bool) → narrow (start_of r) ≡ t → P (cond t (push_of r (start_of r)) (start_of r))
    looped false e = near e
    looped true e = apart (one_turn (middle r) (middle_size r f c) r)

    whole : (t : Bool) → wide r ≡ t → P (cond t r (widened (middle r) r))
    whole true e = kept e
    whole false e = subst P (sym (settled r f c 1000 (lit≤ tt))) (looped (narrow (start_of r)) refl)

farther : (x : Float) → Around 8192 x → Around 9000 x
unfolding le lt eq
farther x h = in_wider tt h

near_farther : (x : Float) → Near x → Around 9000 x
unfolding le lt eq
near_farther x h = in_wider tt h

-- the ends of the result are within 9,000 semitones
pub bounded : (r : Register) → Near r.floor → Near r.ceil → Around 9000 (at_least_min_span r).floor × Around 9000 (at_least_min_span r).ceil
bounded r f c =
    let m = middle r in
    let s = middle_size r f c in
    by_cases (λ o. Around 9000 o.floor × Around 9000 o.ceil) r f c
    (λ e. (near_farther r.floor f, near_farther r.ceil c))
    (λ e. (farther (start_of r).floor (floor_in m s), farther (start_of r).ceil (ceil_in m s)))
    (λ e. (pushed_floor_in m s, pushed_ceil_in m s))

-- the result is at least 4 semitones wide, as an f32 difference sees it
pub wide_enough : (r : Register) → Near r.floor → Near r.ceil → T (wide (at_least_min_span r))
wide_enough r f c =
    let m = middle r in
    let s = middle_size r f c in
    by_cases (λ o. T (wide o)) r f c yes
    (open_gap (start_of r) (farther (start_of r).floor (floor_in m s)) (farther (start_of r).ceil (ceil_in m s)))
    (open_gap (push_of r (start_of r)) (pushed_floor_in m s) (pushed_ceil_in m s))
  where
    open_gap : (o : Register) → Around 9000 o.floor → Around 9000 o.ceil → narrow o ≡ false → T (wide o)
    open_gap o f c = not-lt→le (sub binary32 o.ceil o.floor) min_span (gap_real o.floor o.ceil f c) min_span_real

-- its ends are numbers
pub real_ends : (r : Register) → Near r.floor → Near r.ceil → T (finite (at_least_min_span r).floor) × T (finite (at_least_min_span r).ceil)
real_ends r f c = let b = bounded r f c in (in_finite tt b.0, in_finite tt b.1)

-- ---- for all semitones within 2,000
-- percentiles of them lie within 6,000, so the ends that are made of these lie within 6,002, and meet what `at_least_min_span` requires
pub near_percentiles : (p : Percentiles) → Around 6000 p.p5 → Around 6000 p.p95 → Near (of_percentiles p).floor × Near (of_percentiles p).ceil
unfolding le lt eq add sub of_int round narrowed
near_percentiles p l h = (
  in_wider tt (in_narrow tt (in_sub binary64 {c = two} {d = two} {y = two} tt l two_in)),
  in_wider tt (in_narrow tt (in_add binary64 {c = two} {d = two} {y = two} tt h two_in)),
)

within_2000 : (x : Float) → Around 2000 x → Near x
unfolding le lt eq
within_2000 x h = in_wider tt h

-- the loop ends by its own test, whatever limit its turns have, and makes one turn at most
pub record Ending (r : Register) : Type 0 where
  pub by_its_test : (n : ℕ) → 1 ≤ n → narrow (after n r) ≡ false
  pub in_one_turn : (n : ℕ) → 1 ≤ n → after n r ≡ cond (narrow (start_of r)) (push_of r (start_of r)) (start_of r)

-- the widening loop ends for all semitones within 2,000: of a floor and a ceiling within them, and of the floor and ceiling that are made of percentiles
-- within 6,000, as those of such semitones are
pub ends_within_2000 : ((r : Register) → Around 2000 r.floor → Around 2000 r.ceil → Ending r) × ((p : Percentiles) → Around 6000 p.p5 → Around 6000 p.p95 → Ending (of_percentiles p))
ends_within_2000 = (
  λ r f c. all r (within_2000 r.floor f) (within_2000 r.ceil c),
  λ p l h. let n = near_percentiles p l h in all (of_percentiles p) n.0 n.1,
)
  where
    all : (r : Register) → Near r.floor → Near r.ceil → Ending r
    all r f c = record { by_its_test = ends r f c; in_one_turn = settled r f c }
