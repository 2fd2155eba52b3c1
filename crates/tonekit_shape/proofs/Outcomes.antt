-- What the call `write_shape` makes of a query, way by way. Assumes nothing.
use Rattle.std.proofs.Common.{ℕ, ◌≤◌, ◌<◌, ◌≡◌, sym, ◌∙◌, ap, List, lt-ltb, le-ltb}
use Rattle.std.specs.Prelude.{Ok, Err}
use Rattle.tonekit_core.specs.Calls.{refused, written}
use Rattle.tonekit_core.specs.declared.Refusal.TheVariants.{Unvoiced}
use Rattle.spec_query.specs.Query.{load_query, frames_of}
use Rattle.spec_query.specs.declared.Query.{Query}
use Rattle.tonekit_core.specs.declared.Rejection.{Rejection}
use Rattle.spec_shape.specs.declared.Extent.{Extent}
use Rattle.spec_shape.specs.declared.ToneShape.{ToneShape}
use Rattle.spec_shape.specs.Extract.{extent_of, shape_of}
use Rattle.spec_shape.specs.Register.{in_register}
use Rattle.spec_shape.specs.Record.{shape_bytes, shaped, shape_outcome}

-- a query that loads, and r, the same in the register that it is measured in
module _ (frames : List ℕ) (q r : Query) (e : Extent) (is : e ≡ extent_of frames q.count q.start q.end) where
  pub few_voiced : e.count < 3 → shaped frames r (extent_of frames q.count q.start q.end) ≡ refused Unvoiced 0
  few_voiced h = ap (shaped frames r) (sym is) ∙ rw (lt-ltb e.count 3 h)

  pub enough_voiced : (x : ToneShape) → 3 ≤ e.count → x ≡ shape_of frames e r.start r.end r.floor r.ceil
      → written (shape_bytes r.start r.end r.issues x) ≡ shaped frames r (extent_of frames q.count q.start q.end)
  enough_voiced x h x-is =
      ap (λ (y : ToneShape). written (shape_bytes r.start r.end r.issues y)) x-is ∙ sym (ap (shaped frames r) (sym is) ∙ rw (le-ltb e.count 3 h))

pub query_good : (s frames : List ℕ) (q : Query) → load_query s ≡ Ok q → frames ≡ frames_of s q
    → shaped frames (in_register frames q) (extent_of frames q.count q.start q.end) ≡ shape_outcome s
unfolding shape_outcome
query_good s frames q e f = rw (e, f)

pub query_bad : (s : List ℕ) (r : Rejection) → load_query s ≡ Err r → shape_outcome s ≡ refused r.why r.place
unfolding shape_outcome
query_bad s r e = rw e
