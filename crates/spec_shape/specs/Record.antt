-- The shape record, kind 51, written from a query alone.
use Rattle.std.specs.Prelude.{ℕ, cond, List, [], ◌∷◌, ◌++◌, ltb, is_some, unwrap_or, Result, Ok, Err}
use Rattle.tonekit_core.specs.Calls.{Outcome, refused, written}
use Rattle.tonekit_core.specs.declared.layout.TheConstants.{SHAPE_KIND}
use Rattle.tonekit_core.specs.Words.{with_issue}
use Rattle.tonekit_core.specs.declared.Refusal.TheVariants as refusal
use Rattle.tonekit_core.specs.declared.MeasureIssue.TheVariants as issue
use Rattle.spec_arithmetic.specs.Constants.{zero32}
use Rattle.spec_arithmetic.specs.Fields.{le16, le32, f32_bytes, f32s_bytes}
use Rattle.spec_query.specs.Query.{load_query, frames_of}
use Rattle.spec_query.specs.declared.Query.{Query}
use Rattle.tonekit_core.specs.declared.Rejection.{Rejection}
use Rattle.spec_shape.specs.Extract.{extent_of, shape_of}
use Rattle.spec_shape.specs.Register.{in_register}
use Rattle.spec_shape.specs.declared.Extent.{Extent}
use Rattle.spec_shape.specs.declared.ToneShape.{ToneShape}

-- "First to last voiced count n < 8 adds TooShort to the issues"
unfoldable pub united : ℕ → ℕ → ℕ
united issues n = cond (ltb n 8) (with_issue issues issue.TooShort) issues

-- "mean, slope, curvature f32; turning flag u8 and f32": the flag is 1 and the value the place, or both are 0
unfoldable pub fit_bytes : ToneShape → List ℕ
fit_bytes x =
    f32_bytes x.mean ++ (f32_bytes x.slope ++ (f32_bytes x.curvature ++ ((cond (is_some x.turning) 1 0 ∷ []) ++ f32_bytes (unwrap_or x.turning zero32))))

-- "range, duration_ms, voiced_fraction, f0_confidence f32; issues u16"
unfoldable pub measure_bytes : ToneShape → ℕ → List ℕ
measure_bytes x issues = f32_bytes x.range ++ (f32_bytes x.duration ++ (f32_bytes x.fraction ++ (f32_bytes x.confidence ++ le16 issues)))

-- the record: "Kind 51: span start, end u32", behind them "contour, weights 10 f32 each", and the issues' union
unfoldable pub shape_bytes : ℕ → ℕ → ℕ → ToneShape → List ℕ
shape_bytes start end issues x =
    ((SHAPE_KIND ∷ []) ++ (le32 start ++ le32 end))
    ++ (f32s_bytes x.contour ++ (f32s_bytes x.weights ++ (fit_bytes x ++ measure_bytes x (united issues x.frames))))

-- "Fewer than 3 voiced frames: 11", place 0; the query is in the register that it is measured in
abbrev pub shaped : List ℕ → Query → Extent → Outcome
shaped frames q e =
    cond (ltb e.count 3) (refused refusal.Unvoiced 0)
    (written (shape_bytes q.start q.end q.issues (shape_of frames e q.start q.end q.floor q.ceil)))

abbrev pub shaped_from : List ℕ → Result Query Rejection → Outcome
shaped_from s (Err r) = refused r.why r.place
shaped_from s (Ok q) = let frames = frames_of s q in shaped frames (in_register frames q) (extent_of frames q.count q.start q.end)

-- the call `write_shape`: what its query's bytes are turned into
unfoldable pub shape_outcome : List ℕ → Outcome
shape_outcome s = shaped_from s (load_query s)
