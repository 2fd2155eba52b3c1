-- What a query that was read holds, for those that use it. Assumes nothing.
use Rattle.std.proofs.Common.{◌≡◌, refl, ◌∙◌, ap, subst, Bool, true, false, cond, ◌&&◌, ◌||◌, List, ℕ, zero, suc, ◌+◌, ◌-◌, ◌*◌, ◌≤◌, ◌<◌, arith, ltb-true, ltb-false, leb-true, leb-false, eqb-true, eqb, leb, ltb, length, drop, length-drop, length-take-le}
use Rattle.tonekit_core.proofs.Split.{split, neither, both}
use Rattle.tonekit_core.specs.Loop.{Turn, next, stop, turns_to, range_to}
use Rattle.tonekit_core.specs.declared.Refusal.{Refusal}
use Rattle.tonekit_core.specs.declared.Refusal.TheVariants.{Overrun, Crowded, BadQuery}
use Rattle.tonekit_core.specs.declared.Rejection.{Rejection}
use Rattle.std.specs.Prelude.{Result, Ok, Err}
use Rattle.spec_arithmetic.specs.Fields.{byte_at, u16_at}
use Rattle.tonekit_bytes.proofs.Fields.{byte_past}
use Rattle.tonekit_bytes.proofs.Files.{not_fine, fine}
use Rattle.spec_query.specs.declared.Query.{Query}
use Rattle.spec_query.specs.Query.{variants_fine, record_verdict, frame_verdict, fields_of, cold_at, frames_from, after_frame, after_record, read_query, single, load_query, end_of, frames_of}
use Rattle.tonekit_query.specs.Parts.{frame_turn}

no_query : (e : Rejection) (q : Query) → Err e ≡ Ok q → ⊥
no_query r q e = cc

-- a fixed record that is fine
pub record Fixed (s : List ℕ) : Type 0 where
  pub whole : 46 ≤ length s
  pub variants : byte_at s 23 ≤ 4
  pub count : u16_at s 44 ≤ 1024
  pub last : byte_at s 4 ≤ 1
  pub issues : u16_at s 21 < 1024

-- the tests of its own
passed : (many fine : Bool) → cond {A = Result Unit Refusal} many (Err Crowded) (cond fine (Ok tt) (Err BadQuery)) ≡ Ok tt → (many ≡ false) × (fine ≡ true)
passed true fine e = not_fine Crowded e
passed false false e = not_fine BadQuery e
passed false true e = (refl, refl)

pub fixed : (s : List ℕ) → record_verdict s ≡ Ok tt → Fixed s
unfolding record_verdict
fixed s e =
    let own : ℕ → Result Unit Refusal = λ k. cond (ltb 4 (byte_at s 23) || ltb 1024 (u16_at s 44)) (Err Crowded)
    (cond (leb (byte_at s 4) 1 && (ltb (u16_at s 21) 1024 && variants_fine s)) (Ok tt) (Err BadQuery)) in
    let r = fine (λ k. eqb k 48) (λ k. 46) own s 0 e in
    let t = passed (ltb 4 (byte_at s 23) || ltb 1024 (u16_at s 44)) (leb (byte_at s 4) 1 && (ltb (u16_at s 21) 1024 && variants_fine s)) r.body in
    let m = neither (ltb 4 (byte_at s 23)) (ltb 1024 (u16_at s 44)) t.0 in
    let f = both (leb (byte_at s 4) 1) (ltb (u16_at s 21) 1024 && variants_fine s) t.1 in
    let i = both (ltb (u16_at s 21) 1024) (variants_fine s) f.1 in
    record {
      whole = r.whole;
      variants = ltb-false 4 (byte_at s 23) m.0;
      count = ltb-false 1024 (u16_at s 44) m.1;
      last = leb-true (byte_at s 4) 1 f.0;
      issues = ltb-true (u16_at s 21) 1024 i.0;
    }

frame_whole : (s : List ℕ) (at : ℕ) → frame_verdict s at ≡ Ok tt → at + 10 ≤ length s
unfolding frame_verdict
frame_whole s at e = (fine (λ k. eqb k 50) (λ k. 10) (λ k. cond (leb (byte_at s (at + 1)) 1) (Ok tt) (Err BadQuery)) s at e).whole

-- frames from a turn on
abbrev pub frames_on : List ℕ → ℕ → ℕ → Turn ℕ (Result Query Rejection) → Result Query Rejection
frames_on s = turns_to (frame_turn s) (λ (at : ℕ). Ok (fields_of s))

-- the frames that were read lie within the bytes
module _ (s : List ℕ) (q : Query) where
  stopped : (k i : ℕ) (r : Rejection) → frames_on s k i (stop (Err r)) ≡ Ok q → ⊥
  unfolding turns_to
  stopped zero i r e = no_query r q e
  stopped (suc k) i r e = no_query r q e

  -- a frame, and those behind it
  frame_then : (k i at : ℕ) (v : Result Unit Refusal) → frame_verdict s at ≡ v
      → (at + 10 ≤ length s → frames_on s k (i + 1) (next (at + 10)) ≡ Ok q → (q ≡ fields_of s) × (at + 10 + 10 * k ≤ length s))
      → frames_on s k (i + 1) (after_frame at v) ≡ Ok q → (q ≡ fields_of s) × (at + 10 + 10 * k ≤ length s)
  frame_then k i at (Ok u) v behind e = behind (frame_whole s at v) e
  frame_then k i at (Err r) v behind e = absurd (stopped k (i + 1) (record { why = r; place = at }) e)

  frames_whole : (k i at : ℕ) → at ≤ length s → frames_on s k i (next at) ≡ Ok q → (q ≡ fields_of s) × (at + 10 * k ≤ length s)
  unfolding turns_to
  frames_whole zero i at h e = (cc, omega arith)
  frames_whole (suc k) i at h e =
      let r = frame_then k i at (frame_verdict s at) refl (λ w f. frames_whole k (i + 1) (at + 10) w f) e in
      (r.0, omega arith)

-- a query that was read: what the fixed record says, and all of its frames are there
pub record Holds (s : List ℕ) (q : Query) : Type 0 where
  pub fields : q ≡ fields_of s
  pub whole : end_of q ≤ length s
  pub count : q.count ≤ 1024
  pub variants : q.variants ≤ 4
  pub issues : q.issues < 1024
  pub last : byte_at s 4 ≤ 1

-- the frames begin within the bytes: kind 55 is a byte that is there
begins : (s : List ℕ) (b : Bool) → cold_at s ≡ b → 46 ≤ length s → frames_from b ≤ length s
begins s false e h = h
begins s true e h = split (leb (length s) 46) (λ t. let k = byte_past s 46 (leb-true (length s) 46 t) in let o = eqb-true (byte_at s 46) 55 e in absurd (omega arith)) (λ f. leb-false (length s) 46 f)

after_verdict : (s : List ℕ) (q : Query) (v : Result Unit Refusal) → record_verdict s ≡ v → after_record s v ≡ Ok q → Holds s q
unfolding range_to fields_of
after_verdict s q (Ok u) v e =
    let f = fixed s v in
    let r = frames_whole s q (u16_at s 44 - 0) 0 (frames_from (cold_at s)) (begins s (cold_at s) refl f.whole) e in
    let o = r.0 in
    record {
      fields = o;
      whole = rw o (omega arith);
      count = rw (ap (λ (x : Query). x.count) o) f.count;
      variants = rw (ap (λ (x : Query). x.variants) o) f.variants;
      issues = rw (ap (λ (x : Query). x.issues) o) f.issues;
      last = f.last;
    }
after_verdict s q (Err r) v e = absurd (no_query (record { why = r; place = 0 }) q e)

pub read_holds : (s : List ℕ) (q : Query) → read_query s ≡ Ok q → Holds s q
unfolding read_query
read_holds s q e = after_verdict s q (record_verdict s) refl e

-- the part that holds its frames
pub frames_length : (s : List ℕ) (q : Query) → read_query s ≡ Ok q → length (frames_of s q) ≡ 10 * q.count
frames_length s q e =
    let h = read_holds s q e in
    length-take-le (10 * q.count) (drop (frames_from q.cold) s) (omega (arith, length-drop (frames_from q.cold) s, h.whole))

-- a query that an input is as a whole
alone_or_not : (len : ℕ) (p q : Query) (b : Bool) → ltb (end_of p) len ≡ b
    → cond {A = Result Query Rejection} b (Err (record { why = Overrun; place = end_of p })) (Ok p) ≡ Ok q → (◌≡◌ {A = Result Query Rejection} (Ok p) (Ok q)) × (len ≤ end_of p)
alone_or_not len p q true t e = absurd (no_query (record { why = Overrun; place = end_of p }) q e)
alone_or_not len p q false t e = (e, ltb-false (end_of p) len t)

as_read : (s : List ℕ) (q : Query) (r : Result Query Rejection) → read_query s ≡ r → single (length s) r ≡ Ok q → (read_query s ≡ Ok q) × (length s ≤ end_of q)
as_read s q (Ok p) f e =
    let t = alone_or_not (length s) p q (ltb (end_of p) (length s)) refl e in
    let o : p ≡ q = cc in
    (f ∙ t.0, subst (λ (x : Query). length s ≤ end_of x) o t.1)
as_read s q (Err r) f e = absurd (no_query r q e)

pub load_reads : (s : List ℕ) (q : Query) → load_query s ≡ Ok q → read_query s ≡ Ok q
unfolding load_query
load_reads s q e = (as_read s q (read_query s) refl e).0

pub load_length : (s : List ℕ) (q : Query) → load_query s ≡ Ok q → length s ≡ end_of q
unfolding load_query
load_length s q e =
    let r = as_read s q (read_query s) refl e in
    let h = read_holds s q r.0 in
    omega (arith, r.1, h.whole)
