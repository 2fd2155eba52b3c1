-- A shape is usable, and so its query is measured, where its extent has at least 3 voiced frames, and the ends of its register are within 9,000 semitones
-- and at least 4 apart as an f32 difference sees it: every point of the contour and every weight is finite. Assumes nothing.
use Rattle.std.proofs.Common.{ℕ, ◌<◌, ◌≤◌, ◌≡◌, sym, ◌∙◌, subst, T, true, false, pos, refl, eqb, cond, List, length, take_all, replicate, arith, Float}
use Rattle.std.specs.List.{list_all}
use Rattle.std.proofs.lemmas.List.{take-append-le}
use lib.Ieee.{nan, fin, binary32, le, sub}
use lib.Ieee.Fits.{and_i}
use lib.Ieee.Bits.{is_true}
use lib.Ieee.Scale.{finite}
use Rattle.tonekit_core.specs.declared.Measured.TheVariants.{Full, Partial}
use Rattle.spec_arithmetic.specs.Bounds.{In}
use Rattle.spec_shape.specs.Register.{min_span}
use Rattle.spec_shape.specs.declared.Extent.{Extent}
use Rattle.spec_shape.specs.Extract.{list_of, frames_in, drawn, shape_of}
use Rattle.spec_shape.specs.Window.{weight_at}
use Rattle.spec_shape.specs.declared.ToneShape.{ToneShape}
use Rattle.spec_judgement.specs.Judge.{ten_of, usable, judgement_of, judged_of, plain_of, with_best}
use Rattle.spec_judgement.specs.Inventory.{Targets, Listings}
use Rattle.spec_judgement.specs.declared.Settings.{Settings}
use Rattle.spec_judgement.specs.declared.Tolerance.{Tolerance}
use Rattle.spec_judgement.specs.declared.Scoring.{Scoring}
use Rattle.spec_judgement.specs.declared.Mixture.{Mixture}
use Rattle.spec_judgement.specs.declared.Mixture.TheVariants.{Scored, Nothing}
use Rattle.spec_judgement.specs.declared.ToneJudgement.{ToneJudgement}
use Rattle.tonekit_contour.proofs.Lists.{listed_length, listed_each}
use Rattle.tonekit_window.specs.Promises.{contour_at}
use Rattle.tonekit_window.proofs.Within.{low_in, high_in, frame}
use Rattle.tonekit_measured.proofs.Sized.{Sized}
use Rattle.tonekit_measured.proofs.Chao.{drawn_long, drawn_sized}
use Rattle.tonekit_measured.proofs.Mean.{mean_finite}
use Rattle.tonekit_measured.proofs.Weights.{weight_finite}

-- ---- what a judgement of a usable shape says of itself: that it was measured, in part where there is an issue, and the issues that it was given
best_keeps : (x : ToneShape) (s : Scoring) (t : Tolerance) (l : Listings) (j : ToneJudgement) (m : Mixture)
    → ((with_best x s t l j m).measured ≡ j.measured) × ((with_best x s t l j m).issues ≡ j.issues)
unfolding with_best
best_keeps x s t l j Nothing = (refl, refl)
best_keeps x s t l j (Scored ll slot d2) = (refl, refl)

usable_judged : (x : ToneShape) (settings : Settings) (t : Tolerance) (l : Listings) (g : Targets) (issues : ℕ) → usable x ≡ true
    → let j = judgement_of x settings t l g issues in (j.measured ≡ cond (eqb issues 0) Full Partial) × (j.issues ≡ issues)
unfolding judgement_of judged_of plain_of
usable_judged x settings t l g issues u = rw u (best_keeps x _ t l _ _)

-- ---- the shape
ten_finite : (f : ℕ → Float) → ((k : ℕ) → k < 10 → T (finite (f k))) → T (list_all finite (ten_of (list_of f 10)))
ten_finite f each =
    let ten : length (list_of f 10) ≡ 10 = listed_length f 10 in
    let same : ten_of (list_of f 10) ≡ list_of f 10 =
    take-append-le 10 (list_of f 10) (replicate 10 nan) (omega (arith, ten)) ∙ take_all 10 (list_of f 10) (omega (arith, ten)) in
    subst (λ (l : List Float). T (list_all finite l)) (sym same) (listed_each f finite 10 each)

point_finite : (l : List Float) (k : ℕ) → 2 ≤ length l → length l ≤ 1024 → Sized 60001 l → k < 10 → T (finite (contour_at l k))
point_finite l k some few held h =
    let ten : k ≤ 9 = omega arith in
    mean_finite l some few held _ _ (frame (length l) few (low_in (length l) k few ten)) (frame (length l) few (high_in (length l) k few ten))

-- what is asked: of the extent what every query's has that is not refused with 11, of the register its ends and its width
module _ (frames : List ℕ) (e : Extent) (start end : ℕ) (floor ceil : Float) (enough : 3 ≤ e.count) (counted : e.count ≤ frames_in e) (inside : e.last < 1024)
    (low : In (fin true 9000 (pos 0)) (fin false 9000 (pos 0)) floor) (high : In (fin true 9000 (pos 0)) (fin false 9000 (pos 0)) ceil) (wide : T (le min_span (sub binary32 ceil floor))) where
  abbrev n : ℕ
  n = frames_in e

  some : 2 ≤ n
  some = omega arith

  few : n ≤ 1024
  few = omega arith

  abbrev chao : List Float
  chao = drawn frames e.first n floor ceil

  long : length chao ≡ n
  long = drawn_long floor ceil low high wide frames e.first n (omega (arith, some)) few

  held : Sized 60001 chao
  held = drawn_sized floor ceil low high wide frames e.first n (omega (arith, some)) few

  contour_finite : T (list_all finite (ten_of (list_of (contour_at chao) 10)))
  contour_finite = ten_finite (contour_at chao) (λ k h. point_finite chao k (omega (arith, long, some)) (omega (arith, long, few)) held h)

  weights_finite : T (list_all finite (ten_of (list_of (weight_at frames e.first n) 10)))
  weights_finite = ten_finite (weight_at frames e.first n) (λ k h. weight_finite frames e.first n k (omega (arith, some)) few)

  pub always_usable : usable (shape_of frames e start end floor ceil) ≡ true
  unfolding usable shape_of
  always_usable = is_true _ (and_i _ _ contour_finite weights_finite)

  -- so every judgement of it is measured
  pub always_measured : (settings : Settings) (t : Tolerance) (l : Listings) (g : Targets) (issues : ℕ)
      → let j = judgement_of (shape_of frames e start end floor ceil) settings t l g issues in (j.measured ≡ cond (eqb issues 0) Full Partial) × (j.issues ≡ issues)
  always_measured settings t l g issues = usable_judged (shape_of frames e start end floor ceil) settings t l g issues always_usable
