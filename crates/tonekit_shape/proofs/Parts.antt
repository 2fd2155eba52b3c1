-- The parts of a shape record, one after the other, are the record; it has 124 bytes. Assumes nothing.
use Rattle.std.proofs.Common.{ℕ, ◌+◌, ◌≡◌, refl, ◌∙◌, ap, List, ◌++◌, append-nil, arith, length, length-append, drop_of_length-le, Bool, cond, Float}
use lib.Seq.{sets, sets-eq}
use Rattle.spec_arithmetic.specs.Fields.{f32s_bytes}
use Rattle.tonekit_bytes.proofs.Write.{more, f32s_length}
use Rattle.spec_shape.specs.declared.ToneShape.{ToneShape}
use mir.Val.{bool_byte}
use Rattle.std.specs.Prelude.{Option, Some, None}
use Rattle.std.specs.Option.{is_some}
use Rattle.spec_shape.specs.Record.{united, fit_bytes, measure_bytes, shape_bytes}
use Rattle.tonekit_shape.specs.Promises.{span_bytes}

-- stores from index 0 on that are as many as the list replace all of it
pub whole : (l bs : List ℕ) → length l ≡ length bs → sets l 0 bs ≡ bs
whole l bs e =
    sets-eq bs l 0 (omega arith) ∙ ap (λ (t : List ℕ). bs ++ t) (drop_of_length-le l {i = 0 + length bs} (omega arith)) ∙ append-nil bs

-- the flag, by whether there is a turning point
pub flag_is : (o : Option Float) {b : Bool} {n : ℕ} → n ≡ bool_byte b → b ≡ is_some o → n ≡ cond (is_some o) 1 0
flag_is (Some u) e g = e ∙ ap bool_byte g
flag_is None e g = e ∙ ap bool_byte g

fit_length : (x : ToneShape) → length (fit_bytes x) ≡ 17
unfolding fit_bytes
fit_length x = refl

measure_length : (x : ToneShape) (issues : ℕ) → length (measure_bytes x issues) ≡ 18
unfolding measure_bytes
measure_length x issues = refl

module _ (start end issues : ℕ) (x : ToneShape) (ten : length x.contour ≡ 10) (ten-weights : length x.weights ≡ 10) where
  abbrev contour : List ℕ
  contour = f32s_bytes x.contour

  abbrev weights : List ℕ
  weights = f32s_bytes x.weights

  abbrev measures : List ℕ
  measures = measure_bytes x (united issues x.frames)

  contour_length : length contour ≡ 40
  contour_length = omega (arith, f32s_length x.contour)

  weights_length : length weights ≡ 40
  weights_length = omega (arith, f32s_length x.weights)

  pub shape_length : length (shape_bytes start end issues x) ≡ 124
  unfolding shape_bytes
  shape_length = simp (length-append, contour_length, weights_length, fit_length x, measure_length x (united issues x.frames))

  pub shape_parts : (l : List ℕ) {o1 o2 o3 o4 o5 : List ℕ} {all : ℕ} → all ≡ united issues x.frames → o1 ≡ sets l 0 (span_bytes start end) → o2 ≡ sets o1 9 contour → o3 ≡ sets o2 49 weights → o4 ≡ sets o3 89 (fit_bytes x)
      → o5 ≡ sets o4 106 (measure_bytes x all) → o5 ≡ sets l 0 (shape_bytes start end issues x)
  unfolding shape_bytes
  shape_parts l {o1} {o2} {o3} {o4} e e1 e2 e3 e4 e5 =
      more l (span_bytes start end) (contour ++ (weights ++ (fit_bytes x ++ measures))) 0 9 e1 refl
      (more o1 contour (weights ++ (fit_bytes x ++ measures)) 9 49 e2 (omega (arith, contour_length))
      (more o2 weights (fit_bytes x ++ measures) 49 89 e3 (omega (arith, weights_length)) (more o3 (fit_bytes x) measures 89 106 e4 (omega (arith, fit_length x)) (e5 ∙ ap (λ (n : ℕ). sets o4 106 (measure_bytes x n)) e))))
