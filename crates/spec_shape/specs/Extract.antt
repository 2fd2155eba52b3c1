-- extract.rs, `extract` and `shape_of`: the shape of the syllable in a span of a query's frames.
use Rattle.std.specs.Prelude.{ℕ, zero, suc, ◌+◌, ◌-◌, cond, List, [], ◌∷◌, ◌++◌, map, eqb, min, pos, length, get_or, set, Float, option_map}
use Rattle.std.specs.Option.{option_map_or}
use Rattle.std.specs.Float.{nan, binary32, binary64}
use Rattle.std.specs.Float.Ieee.{add, sub, mul, div, of_int}
use Rattle.tonekit_core.specs.Loop.{range}
use Rattle.spec_arithmetic.specs.Constants.{zero32, zero64, whole64}
use Rattle.spec_arithmetic.specs.Narrow.{narrowed}
use Rattle.spec_query.specs.Frames.{frame_at}
use Rattle.spec_shape.specs.Chao.{hz_to_st, voiced, width_of, st_to_chao}
use Rattle.spec_shape.specs.Fit.{Part, line_slope, quadratic_coefficient}
use Rattle.spec_shape.specs.Window.{span_at, mean_over, weight_at}
use Rattle.spec_shape.specs.Range.{range_in}
use Rattle.spec_shape.specs.Turning.{turning_point}
use Rattle.spec_shape.specs.declared.Extent.{Extent}
use Rattle.spec_shape.specs.declared.ToneShape.{ToneShape}

-- `voiced_frames`: the voiced frames of the span, clamped to the frames; how many, the first and the last
unfoldable pub extent_of : List ℕ → ℕ → ℕ → ℕ → Extent
extent_of frames count start end =
    range (λ i e. cond (voiced frames i) (record { count = e.count + 1; first = cond (eqb e.count 0) i e.first; last = i }) e) start (min end count)
    (record { count = 0; first = 0; last = 0 })

-- frames of the voiced part: n
abbrev pub frames_in : Extent → ℕ
frames_in e = e.last - e.first + 1

-- f 0, f 1, .., n of them
unfoldable pub list_of : (ℕ → Float) → ℕ → List Float
list_of f zero = []
list_of f (suc n) = list_of f n ++ (f n ∷ [])

-- the holes between two voiced frames, prev and j, lie on the line from one to the other, in semitones
abbrev pub gap_filled : ℕ → ℕ → List Float → List Float
gap_filled prev j l =
    range (λ g t. set t g (add binary64 (get_or t prev nan)
    (mul binary64 (div binary64 (whole64 (g - prev)) (whole64 (j - prev))) (sub binary64 (get_or t j nan) (get_or t prev nan))))) (prev + 1) j l

-- the curve so far, and the last voiced frame
pub record Filled : Type 0 where
  pub curve : List Float
  pub prev : ℕ

unfoldable pub holes_filled : List ℕ → ℕ → List Float → List Float
holes_filled frames first l =
    (range (λ j (s : Filled). cond (voiced frames (first + j)) (record { curve = gap_filled s.prev j s.curve; prev = j }) s) 1 (length l)
    (record { curve = l; prev = 0 })).curve

-- the curve of n frames from the first on, drawn over its holes: semitones frame by frame, +0 where it is unvoiced, then Chao values
unfoldable pub drawn : List ℕ → ℕ → ℕ → Float → Float → List Float
drawn frames first n floor ceil =
    let st = list_of (λ j. option_map_or (λ v. hz_to_st v.hz) (frame_at frames (first + j)) zero64) n in
    map (st_to_chao floor (width_of floor ceil)) (holes_filled frames first st)

-- the 3-frame-smoothed curve: a frame's mean with its neighbours, two at the ends; `before` is the value of the frame before
unfoldable pub mean_with : List Float → ℕ → Float → Float
mean_with l j before =
    cond (eqb j 0) (div binary64 (add binary64 (add binary64 zero64 (get_or l j nan)) (get_or l (j + 1) nan)) (whole64 2))
    (cond (eqb j (length l - 1)) (div binary64 (add binary64 (add binary64 zero64 before) (get_or l j nan)) (whole64 2))
    (div binary64 (add binary64 (add binary64 (add binary64 zero64 before) (get_or l j nan)) (get_or l (j + 1) nan)) (whole64 3)))

-- u32 to f32
abbrev pub whole32 : ℕ → Float
whole32 n = of_int binary32 (pos n)

-- the mean of the contour
unfoldable pub mean_of : List Float → Float
mean_of l = div binary32 (range (λ k t. add binary32 t (get_or l k nan)) 0 10 zero32) (whole32 10)

-- the mean voiced_p of the voiced frames, from the first to the last
unfoldable pub confidence : List ℕ → Extent → Float
confidence frames e =
    let sum = range (λ j t. option_map_or (λ v. add binary32 t v.voiced_p) (frame_at frames (e.first + j)) t) 0 (frames_in e) zero32 in
    div binary32 sum (whole32 e.count)

-- `shape_of`, for an extent of at least 3 voiced frames; the span's frames are unclamped: `saturating_sub`
unfoldable pub shape_of : List ℕ → Extent → ℕ → ℕ → Float → Float → ToneShape
shape_of frames e start end floor ceil =
    let p : Part = record { frames = frames; first = e.first; chao = drawn frames e.first (frames_in e) floor ceil } in
    let contour = list_of (λ k. narrowed (mean_over p.chao (span_at (length p.chao) k))) 10 in
    let span = whole32 (end - start) in
    record {
      contour = contour;
      weights = list_of (weight_at frames e.first (frames_in e)) 10;
      mean = mean_of contour;
      slope = narrowed (line_slope p e.count);
      curvature = narrowed (quadratic_coefficient p e.count);
      turning = option_map narrowed (turning_point (list_of (λ j. mean_with p.chao j (get_or p.chao (j - 1) nan)) (length p.chao)));
      range = range_in binary32 contour;
      duration = mul binary32 span (whole32 10);
      fraction = div binary32 (whole32 e.count) span;
      confidence = confidence frames e;
      frames = frames_in e;
    }
