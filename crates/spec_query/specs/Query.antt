-- Document 01's section Query, with the optional record of document 02's Ask 3: which bytes are a query, and the refusal and place of those that are not.
use Rattle.std.specs.Prelude.{ℕ, ◌+◌, ◌*◌, Bool, true, cond, not, ◌&&◌, ◌||◌, List, eqb, leb, ltb, length, take, drop, Float, Result, Ok, Err}
use Rattle.tonekit_core.specs.Loop.{Turn, next, stop, range, range_to}
use Rattle.tonekit_core.specs.declared.layout.TheConstants.{QUERY_KIND, QUERY_SIZE, QUERY_ACCENT, QUERY_TONE, QUERY_PREV, QUERY_FINAL, QUERY_START, QUERY_END}
use Rattle.tonekit_core.specs.declared.layout.TheConstants.{QUERY_FLOOR, QUERY_CEIL, QUERY_ISSUES, QUERY_VARIANT_COUNT, VARIANT_TONES, VARIANT_WEIGHTS}
use Rattle.tonekit_core.specs.declared.layout.TheConstants.{VARIANT_SIZE, QUERY_FRAME_COUNT, COLD_KIND, COLD_SIZE, FRAME_KIND, FRAME_SIZE, FRAME_VOICED}
use Rattle.tonekit_core.specs.declared.Refusal.TheVariants.{Overrun, Crowded, BadQuery}
use Rattle.tonekit_core.specs.declared.Refusal.{Refusal}
use Rattle.tonekit_core.specs.declared.Rejection.{Rejection}
use Rattle.spec_arithmetic.specs.Fields.{byte_at, u16_at, u32_at, f32_at}
use Rattle.spec_arithmetic.specs.Files.{judged}
use Rattle.spec_query.specs.declared.Query.{Query}

-- the tone of variant i
abbrev pub variant_tone : List ℕ → ℕ → ℕ
variant_tone s i = byte_at s (VARIANT_TONES + VARIANT_SIZE * i)

-- "variant count u8 (at most 4), 4 times (tone u8, weight f32), unused ones zero": five zero bytes
unfoldable pub variant_fine : List ℕ → ℕ → Bool
variant_fine s i = ltb i (byte_at s QUERY_VARIANT_COUNT) || (eqb (variant_tone s i) 0 && eqb (u32_at s (VARIANT_WEIGHTS + VARIANT_SIZE * i)) 0)

unfoldable pub variants_fine : List ℕ → Bool
variants_fine s = range (λ i ok. ok && variant_fine s i) 0 4 true

-- the fixed record: counts past their limits are 4; final is 0 or 1; "bits 10 to 15 are clear"
unfoldable pub record_verdict : List ℕ → Result Unit Refusal
record_verdict s =
    judged (λ k. eqb k QUERY_KIND) (λ k. QUERY_SIZE)
    (λ k. cond (ltb 4 (byte_at s QUERY_VARIANT_COUNT) || ltb 1024 (u16_at s QUERY_FRAME_COUNT)) (Err Crowded)
    (cond (leb (byte_at s QUERY_FINAL) 1 && (ltb (u16_at s QUERY_ISSUES) 1024 && variants_fine s)) (Ok tt) (Err BadQuery))) s 0

-- the frame record at an offset; the voiced flag is 0 or 1, all else may be any bits
unfoldable pub frame_verdict : List ℕ → ℕ → Result Unit Refusal
frame_verdict s at =
    judged (λ k. eqb k FRAME_KIND) (λ k. FRAME_SIZE) (λ k. cond (leb (byte_at s (at + FRAME_VOICED)) 1) (Ok tt) (Err BadQuery)) s at

-- "A query with kind 55, without a body, straight after its query record": whether it stands there. Where it doesn't, what stands there is the first frame,
-- or behind the query
abbrev pub cold_at : List ℕ → Bool
cold_at s = eqb (byte_at s QUERY_SIZE) COLD_KIND

-- what the fixed record says, and whether kind 55 stands behind it; the variants stay in the bytes
unfoldable pub fields_of : List ℕ → Query
fields_of s = record {
  accent = byte_at s QUERY_ACCENT;
  tone = byte_at s QUERY_TONE;
  prev = byte_at s QUERY_PREV;
  last = not (eqb (byte_at s QUERY_FINAL) 0);
  start = u32_at s QUERY_START;
  end = u32_at s QUERY_END;
  floor = f32_at s QUERY_FLOOR;
  ceil = f32_at s QUERY_CEIL;
  issues = u16_at s QUERY_ISSUES;
  variants = byte_at s QUERY_VARIANT_COUNT;
  count = u16_at s QUERY_FRAME_COUNT;
  cold = cold_at s;
}

-- where the frames begin, and where the query ends
abbrev pub frames_from : Bool → ℕ
frames_from cold = cond cold (QUERY_SIZE + COLD_SIZE) QUERY_SIZE

abbrev pub end_of : Query → ℕ
end_of q = frames_from q.cold + FRAME_SIZE * q.count

-- the frames in order: the first that is refused decides, and its place is its offset
abbrev pub after_frame : ℕ → Result Unit Refusal → Turn ℕ (Result Query Rejection)
after_frame at (Ok u) = next (at + FRAME_SIZE)
after_frame at (Err r) = stop (Err (record { why = r; place = at }))

-- a query at the front of a longer input: its fixed record, then kind 55 if it is there, then as many frames as the record counts
abbrev pub after_record : List ℕ → Result Unit Refusal → Result Query Rejection
after_record s (Ok u) = range_to (λ i at. after_frame at (frame_verdict s at)) (λ at. Ok (fields_of s)) 0 (u16_at s QUERY_FRAME_COUNT) (frames_from (cold_at s))
after_record s (Err r) = Err (record { why = r; place = 0 })

unfoldable pub read_query : List ℕ → Result Query Rejection
read_query s = after_record s (record_verdict s)

-- a single query: 3 at the first byte behind it
abbrev pub single : ℕ → Result Query Rejection → Result Query Rejection
single len (Ok q) = cond (ltb (end_of q) len) (Err (record { why = Overrun; place = end_of q })) (Ok q)
single len (Err e) = Err e

unfoldable pub load_query : List ℕ → Result Query Rejection
load_query s = single (length s) (read_query s)

abbrev pub said : Result Query Rejection → Result Unit Rejection
said (Ok q) = Ok tt
said (Err e) = Err e

unfoldable pub check_query : List ℕ → Result Unit Rejection
check_query s = said (load_query s)

-- "the part of the caller's bytes that holds the frames": exactly the counted frames
abbrev pub frames_of : List ℕ → Query → List ℕ
frames_of s q = take (FRAME_SIZE * q.count) (drop (frames_from q.cold) s)

-- the weight of variant i
abbrev pub variant_weight : List ℕ → ℕ → Float
variant_weight s i = f32_at s (VARIANT_WEIGHTS + VARIANT_SIZE * i)
