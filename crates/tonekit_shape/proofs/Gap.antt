-- A gap that is filled by itself, and the curve about it. Assumes nothing.
use Rattle.std.proofs.Common.{ℕ, ◌+◌, ◌-◌, ◌<◌, ◌≡◌, ◌∙◌, ap, List, ◌++◌, length, take, drop, get_or, set, arith, get_or-drop, length-take-le, Float}
use Rattle.std.proofs.lemmas.List.{get_or-take, get_or-append_right, get_or_append_left, set-append_left, set-append_right, take-append-drop, drop-drop}
use lib.Ieee.{nan}
use Rattle.std.specs.Float.{binary64}
use Rattle.std.specs.Float.Ieee.{add, sub, mul, div}
use Rattle.spec_arithmetic.specs.Constants.{whole64}

-- a frame of the gap, on the line from prev to j
abbrev pub fill_turn : ℕ → ℕ → ℕ → List Float → List Float
fill_turn prev j g t =
    set t g (add binary64 (get_or t prev nan)
    (mul binary64 (div binary64 (whole64 (g - prev)) (whole64 (j - prev))) (sub binary64 (get_or t j nan) (get_or t prev nan))))

-- the curve with a gap between prev and j
abbrev pub joined : ℕ → ℕ → List Float → List Float → List Float
joined prev j l gap = take (prev + 1) l ++ (gap ++ drop (j - (prev + 1)) (drop (prev + 1) l))

pub joined_whole : (prev j : ℕ) (l : List Float) → joined prev j l (take (j - (prev + 1)) (drop (prev + 1) l)) ≡ l
joined_whole prev j l = ap (λ (r : List Float). take (prev + 1) l ++ r) (take-append-drop (j - (prev + 1)) (drop (prev + 1) l)) ∙ take-append-drop (prev + 1) l

module _ (prev j : ℕ) (l gap : List Float) (below : prev < j) (inside : j < length l) (many : length gap ≡ j - (prev + 1)) where
  abbrev rest : List Float
  rest = drop (j - (prev + 1)) (drop (prev + 1) l)

  front : length (take (prev + 1) l) ≡ prev + 1
  front = length-take-le (prev + 1) l (omega arith)

  at_prev : get_or (joined prev j l gap) prev nan ≡ get_or l prev nan
  at_prev =
      get_or_append_left (take (prev + 1) l) (gap ++ rest) nan prev (omega (arith, front))
      ∙ get_or-take (prev + 1) l prev nan (omega arith)

  at_j : get_or (joined prev j l gap) j nan ≡ get_or l j nan
  at_j =
      let m : j - (prev + 1) - (j - (prev + 1)) ≡ 0 = omega arith in
      let z : prev + 1 + (j - (prev + 1)) + 0 ≡ j = omega arith in
      get_or-append_right (take (prev + 1) l) (gap ++ rest) (prev + 1) j nan front (omega arith)
      ∙ (get_or-append_right gap (rest) (j - (prev + 1)) (j - (prev + 1)) nan many (omega arith)
      ∙ (ap (λ (i : ℕ). get_or (rest) i nan) m ∙ (ap (λ (r : List Float). get_or r 0 nan) (drop-drop (j - (prev + 1)) (prev + 1) l)
      ∙ (get_or-drop (prev + 1 + (j - (prev + 1))) l 0 nan ∙ ap (λ (i : ℕ). get_or l i nan) z))))

  set_gap : (k : ℕ) (v : Float) → k < length gap → set (joined prev j l gap) (prev + 1 + k) v ≡ joined prev j l (set gap k v)
  set_gap k v h =
      let m : prev + 1 + k - (prev + 1) ≡ k = omega arith in
      set-append_right (take (prev + 1) l) (gap ++ rest) (prev + 1) (prev + 1 + k) v front (omega arith)
      ∙ (ap (λ (i : ℕ). take (prev + 1) l ++ set (gap ++ rest) i v) m
      ∙ ap (λ (r : List Float). take (prev + 1) l ++ r) (set-append_left gap (rest) k v h))

  -- one more frame of the gap
  pub gap_turn : (k : ℕ) (v : Float) → k < length gap
      → v ≡ add binary64 (get_or l prev nan) (mul binary64 (div binary64 (whole64 (k + 1)) (whole64 (j - prev))) (sub binary64 (get_or l j nan) (get_or l prev nan)))
      → fill_turn prev j (prev + 1 + k) (joined prev j l gap) ≡ joined prev j l (set gap k v)
  gap_turn k v h e =
      let m : prev + 1 + k - prev ≡ k + 1 = omega arith in
      rw (at_prev, at_j, m, ← e) (set_gap k v h)
