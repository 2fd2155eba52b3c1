-- What `write_shape` and `write_sheet` write has room in what their programs lend: 124 bytes, and 13,338. Assumes nothing.
use Rattle.std.proofs.Common.{ℕ, Bool, true, false, cond, ◌≡◌, refl, List, arith, ltb, length, Float}
use Rattle.tonekit_core.specs.Calls.{Outcome}
use Rattle.tonekit_core.specs.declared.layout.TheConstants.{SHAPE_SIZE, SHEET_MOST}
use Rattle.spec_arithmetic.specs.Fields.{f32s_bytes}
use Rattle.tonekit_report.proofs.Told.{HasRoom}
use Rattle.spec_query.specs.Query.{load_query, frames_of}
use Rattle.std.specs.Prelude.{Result, Ok, Err}
use Rattle.tonekit_core.specs.declared.Rejection.{Rejection}
use Rattle.spec_query.specs.declared.Query.{Query}
use Rattle.spec_shape.specs.Extract.{extent_of, list_of, shape_of}
use Rattle.spec_shape.specs.Register.{in_register}
use Rattle.spec_shape.specs.Record.{fit_bytes, measure_bytes, shape_bytes, shaped_from, shape_outcome}
use Rattle.spec_shape.specs.declared.Extent.{Extent}
use Rattle.spec_arithmetic.specs.Files.{Out, loaded, refused}
use Rattle.spec_pack.specs.Pack.{PackRead, load_pack}
use Rattle.tonekit_pack.proofs.Single.{loads_alone}
use Rattle.tonekit_sheet_limits.proofs.Size.{suffices}
use Rattle.spec_sheet.specs.Outcome.{sheet_of, sheet_outcome}

-- ---- the shape record
either : (room : ℕ) (b : Bool) (o p : Outcome) → HasRoom room o → HasRoom room p → HasRoom room (cond b o p)
either room true o p x y = x
either room false o p x y = y

shape_size_lem : (start end issues : ℕ) (frames : List ℕ) (e : Extent) (floor ceil : Float)
    → length (shape_bytes start end issues (shape_of frames e start end floor ceil)) ≡ SHAPE_SIZE
unfolding shape_bytes fit_bytes measure_bytes f32s_bytes shape_of list_of
shape_size_lem start end issues frames e floor ceil = refl

of_query : (s : List ℕ) (q : Result Query Rejection) → HasRoom SHAPE_SIZE (shaped_from s q)
of_query s (Err r) = tt
of_query s (Ok q) =
    let frames = frames_of s q in
    let e = extent_of frames q.count q.start q.end in
    let r = in_register frames q in
    let n = shape_size_lem r.start r.end r.issues frames e r.floor r.ceil in
    either SHAPE_SIZE (ltb e.count 3) _ _ tt (omega (arith, n))

pub shape_fits : (s : List ℕ) → HasRoom SHAPE_SIZE (shape_outcome s)
unfolding shape_outcome
shape_fits s = of_query s (load_query s)

-- ---- the sheet
of_pack : (s : List ℕ) (o : Out PackRead) → load_pack s ≡ o → HasRoom SHEET_MOST (sheet_of s o)
of_pack s (refused r place) e = tt
of_pack s (loaded st end) e = suffices.enough s st end (loads_alone s st end e).0

pub sheet_fits : (s : List ℕ) → HasRoom SHEET_MOST (sheet_outcome s)
unfolding sheet_outcome
sheet_fits s = of_pack s (load_pack s) refl
