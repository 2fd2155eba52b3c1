-- Steps of the readers: a frame by its flag and hz, and a query by what stands behind it. Assumes nothing.
use Rattle.std.proofs.Common.{◌≡◌, refl, ◌∙◌, ap, Bool, true, false, cond, List, ℕ, ◌+◌, ◌-◌, ◌*◌, ◌≤◌, ◌<◌, arith, lt-ltb, le-ltb, Float, length, take, drop, length-drop, take_all, get_or-drop}
use lib.Ieee.{binary32, of_bits}
use Rattle.tonekit_core.specs.declared.Refusal.TheVariants.{Overrun}
use Rattle.spec_arithmetic.specs.Fields.{byte_at, u32_at, f32_at}
use Rattle.tonekit_bytes.proofs.Fields.{byte_past}
use Rattle.spec_query.specs.declared.Query.{Query}
use Rattle.spec_query.specs.declared.Voiced.{Voiced}
use Rattle.std.specs.Prelude.{is_some, Ok, Err, Some, None}
use Rattle.spec_query.specs.Query.{end_of, read_query, load_query}
use Rattle.spec_query.specs.Frames.{frame_at}
use Rattle.tonekit_query.specs.Parts.{voiced_at}

-- whether a frame is voiced, by its flag and hz
voiced_way : (b : Bool) (hz p : Float) → is_some {T = Voiced} (cond b (Some (record { hz = hz; voiced_p = p })) None) ≡ b
voiced_way true hz p = refl
voiced_way false hz p = refl

pub frame_voiced_lem : (s : List ℕ) (i : ℕ) → is_some (frame_at s i) ≡ voiced_at s (10 * i)
unfolding frame_at
frame_voiced_lem s i = voiced_way (voiced_at s (10 * i)) (f32_at s (10 * i + 2)) (f32_at s (10 * i + 6))

pub frame_then : (s : List ℕ) (i : ℕ) → voiced_at s (10 * i) ≡ true → frame_at s i ≡ Some (record { hz = f32_at s (10 * i + 2); voiced_p = f32_at s (10 * i + 6) })
unfolding frame_at
frame_then s i e = rw e

pub frame_else : (s : List ℕ) (i : ℕ) → voiced_at s (10 * i) ≡ false → frame_at s i ≡ None
unfolding frame_at
frame_else s i e = rw e

-- the part from a frame on
u32_part : (s : List ℕ) (a k : ℕ) → u32_at (drop a s) k ≡ u32_at s (a + k)
u32_part s a k =
    let e1 : a + (k + 1) ≡ a + k + 1 = omega arith in
    let e2 : a + (k + 2) ≡ a + k + 2 = omega arith in
    let e3 : a + (k + 2 + 1) ≡ a + k + 2 + 1 = omega arith in
    omega (
      arith,
      get_or-drop a s k 0,
      get_or-drop a s (k + 1) 0 ∙ ap (byte_at s) e1,
      get_or-drop a s (k + 2) 0 ∙ ap (byte_at s) e2,
      get_or-drop a s (k + 2 + 1) 0 ∙ ap (byte_at s) e3,
    )

to_end : (s : List ℕ) (a : ℕ) → take (length s - a) (drop a s) ≡ drop a s
to_end s a = take_all (length s - a) (drop a s) (omega (arith, length-drop a s))

pub f32_part : (s : List ℕ) (a k : ℕ) → f32_at (take (length s - a) (drop a s)) k ≡ f32_at s (a + k)
f32_part s a k = rw (to_end s a) (ap (of_bits binary32) (u32_part s a k))

pub voiced_part : (s : List ℕ) (a : ℕ) → voiced_at (take (length s - a) (drop a s)) 0 ≡ voiced_at s a
voiced_part s a = rw (to_end s a, get_or-drop a s 1 0, u32_part s a 2)

-- what stands past the end
pub f32_past : (s : List ℕ) (at : ℕ) → length s ≤ at → f32_at s at ≡ of_bits binary32 0
f32_past s at h =
    ap (of_bits binary32)
    (omega (arith, byte_past s at h, byte_past s (at + 1) (omega arith), byte_past s (at + 2) (omega arith), byte_past s (at + 2 + 1) (omega arith)))

pub unvoiced_past : (s : List ℕ) (at : ℕ) → length s ≤ at → false ≡ voiced_at s at
unvoiced_past s at h = rw (byte_past s (at + 1) (omega arith))

-- a query that was read, as a whole input
pub behind : (s : List ℕ) (q : Query) → read_query s ≡ Ok q → end_of q < length s → load_query s ≡ Err (record { why = Overrun; place = end_of q })
unfolding load_query
behind s q e h = rw (e, lt-ltb _ _ h)

pub alone : (s : List ℕ) (q : Query) → read_query s ≡ Ok q → length s ≤ end_of q → load_query s ≡ Ok q
unfolding load_query
alone s q e h = rw (e, le-ltb _ _ h)
