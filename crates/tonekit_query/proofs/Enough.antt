-- 10,288 bytes are enough to read any query: the longest has 10,287, and one byte more is already too many. Assumes nothing.
use Rattle.std.proofs.Common.{◌≡◌, refl, ◌∙◌, ap, Bool, true, false, ◌&&◌, eqb, List, ℕ, zero, suc, ◌+◌, ◌-◌, ◌*◌, ◌≤◌, ◌<◌, arith, length, take}
use Rattle.tonekit_core.specs.Loop.{next, turns_to, range_to}
use Rattle.tonekit_core.specs.declared.Refusal.{Refusal}
use Rattle.tonekit_core.specs.declared.Rejection.{Rejection}
use Rattle.std.specs.Prelude.{Result, Ok, Err}
use Rattle.tonekit_core.proofs.LoopLaws.{range_same}
use Rattle.spec_arithmetic.specs.Fields.{u16_at}
use Rattle.tonekit_bytes.proofs.Agreeing.{Agree, taken_agrees, two, four, float}
use Rattle.spec_query.specs.declared.Query.{Query}
use Rattle.spec_query.specs.Query.{variant_fine, variants_fine, record_verdict, frame_verdict, fields_of, cold_at, frames_from, after_frame, after_record, read_query, single, load_query, end_of}
use Rattle.tonekit_query.proofs.VariantTurn.{variant_turn}
use Rattle.tonekit_query.proofs.Laws.{frames_on, read_holds, fixed}
use Rattle.tonekit_query.specs.Parts.{read_frames}

-- the frames begin with the 48th byte at the latest
pub from_most : (b : Bool) → frames_from b ≤ 47
from_most true = omega arith
from_most false = omega arith

-- two inputs whose first 10,288 bytes are the same
module _ (n : ℕ) (t s : List ℕ) (a : Agree n t s) (room : 10288 ≤ n) where
  variant_same : (i : ℕ) → i < 4 → variant_fine t i ≡ variant_fine s i
  unfolding variant_fine
  variant_same i h = rw (a.bytes 23 (omega arith), a.bytes (24 + 5 * i) (omega arith), four n t s a (25 + 5 * i) (omega arith))

  variants_same : variants_fine t ≡ variants_fine s
  unfolding variants_fine
  variants_same = range_same (variant_turn t) (variant_turn s) 0 4 true (omega arith) (λ i y l. ap (λ (b : Bool). y && b) (variant_same i l))

  record_same : record_verdict t ≡ record_verdict s
  unfolding record_verdict
  record_same =
      rw (a.ends 0 (omega arith), a.bytes 0 (omega arith), a.cuts 46 (omega arith), a.bytes 23 (omega arith), two n t s a 44 (omega arith), a.bytes 4 (omega arith), two n t s a 21 (omega arith), variants_same)

  frame_same : (at : ℕ) → at + 10 ≤ 10287 → frame_verdict t at ≡ frame_verdict s at
  unfolding frame_verdict
  frame_same at h = rw (a.ends at (omega arith), a.bytes at (omega arith), a.cuts (at + 10) (omega arith), a.bytes (at + 1) (omega arith))

  cold_same : cold_at t ≡ cold_at s
  cold_same = ap (λ (b : ℕ). eqb b 55) (a.bytes 46 (omega arith))

  fields_same : fields_of t ≡ fields_of s
  unfolding fields_of
  fields_same =
      cc (
        a.bytes 1 (omega arith),
        a.bytes 2 (omega arith),
        a.bytes 3 (omega arith),
        a.bytes 4 (omega arith),
        four n t s a 5 (omega arith),
        four n t s a 9 (omega arith),
        float n t s a 13 (omega arith),
        float n t s a 17 (omega arith),
        two n t s a 21 (omega arith),
        a.bytes 23 (omega arith),
        two n t s a 44 (omega arith),
        cold_same,
      )

  -- frames that lie within those bytes
  then_same : (k i at : ℕ) (v : Result Unit Refusal) → frames_on t k i (next (at + 10)) ≡ frames_on s k i (next (at + 10)) → frames_on t k i (after_frame at v) ≡ frames_on s k i (after_frame at v)
  unfolding turns_to
  then_same k i at (Ok u) behind = behind
  then_same zero i at (Err r) behind = refl
  then_same (suc k) i at (Err r) behind = refl

  frames_same : (k i at : ℕ) → at + 10 * k ≤ 10287 → frames_on t k i (next at) ≡ frames_on s k i (next at)
  unfolding turns_to
  frames_same zero i at h = ap Ok fields_same
  frames_same (suc k) i at h =
      then_same k (i + 1) at (frame_verdict t at) (frames_same k (i + 1) (at + 10) (omega arith))
      ∙ ap (λ (v : Result Unit Refusal). frames_on s k (i + 1) (after_frame at v)) (frame_same at (omega arith))

  after_same : (v : Result Unit Refusal) → record_verdict t ≡ v → after_record t v ≡ after_record s v
  unfolding range_to
  after_same (Ok u) e =
      frames_same (u16_at t 44 - 0) 0 (frames_from (cold_at t)) (omega (arith, (fixed t e).count, from_most (cold_at t)))
      ∙ ap (λ (b : Bool). frames_on s (u16_at t 44 - 0) 0 (next (frames_from b))) cold_same
      ∙ ap (read_frames s) (two n t s a 44 (omega arith))
  after_same (Err r) e = refl

  read_same : read_query t ≡ read_query s
  unfolding read_query
  read_same = after_same (record_verdict t) refl ∙ ap (after_record s) record_same

  -- both have something behind, or neither
  single_same : (r : Result Query Rejection) → read_query t ≡ r → single (length t) r ≡ single (length s) r
  single_same (Ok q) e =
      let c : q.count ≤ 1024 = (read_holds t q e).count in
      let f = from_most q.cold in
      rw (a.goes (end_of q) (omega arith))
  single_same (Err r) e = refl

  load_same : load_query t ≡ load_query s
  unfolding load_query
  load_same = single_same (read_query t) refl ∙ ap (single (length s)) read_same

-- so what stands past them is not read
pub load_enough : (s : List ℕ) (n : ℕ) → 10288 ≤ n → load_query (take n s) ≡ load_query s
load_enough s n h = load_same n (take n s) s (taken_agrees n s) h
