-- Bytes that stand at an offset in others: their fields and parts, and floats that are read from them. Assumes nothing.
use Rattle.std.proofs.Common.{ℕ, zero, suc, ◌+◌, ◌*◌, ◌≤◌, ◌<◌, ◌≡◌, sym, ap, ◌∙◌, subst, List, [], ◌∷◌, ◌++◌, le_of_suc-le-suc, not-suc-le-zero, arith, T, length, get_or, drop, length-append, length-drop, get_or-drop, get_or-append-add, Float, to_bits}
use lib.ListN.{get_or-append}
use lib.Ieee.{nan, binary32, of_bits, fits}
use lib.Ieee.Bits.{to_bits-lt, of_bits-to_bits}
use Rattle.tonekit_core.specs.declared.layout.TheConstants.{F32_SIZE}
use Rattle.spec_arithmetic.specs.Fields.{byte_at, u16_at, u32_at, f32_at, f32_bytes, f32s_bytes}
use Rattle.tonekit_bytes.proofs.Back.{le32_back}

-- bs stand in s from o on
pub record Stands (s : List ℕ) (o : ℕ) (bs : List ℕ) : Type 0 where
  pub fits : o + length bs ≤ length s
  pub byte : (k : ℕ) → k < length bs → byte_at s (o + k) ≡ byte_at bs k

pub stands_whole : (s : List ℕ) → Stands s 0 s
stands_whole s = record { fits = omega arith; byte = λ k h. let e : 0 + k ≡ k = omega arith in rw e }

module _ {s : List ℕ} {o : ℕ} {bs : List ℕ} (w : Stands s o bs) where
  -- a field of them
  pub field16 : (k : ℕ) → k + 2 ≤ length bs → u16_at s (o + k) ≡ u16_at bs k
  field16 k h =
      let e : o + k + 1 ≡ o + (k + 1) = omega arith in
      rw (e, w.byte k (omega arith), w.byte (k + 1) (omega arith))

  pub field32 : (k : ℕ) → k + 4 ≤ length bs → u32_at s (o + k) ≡ u32_at bs k
  field32 k h =
      let e : o + k + 2 ≡ o + (k + 2) = omega arith in
      rw (e, field16 k (omega arith), field16 (k + 2) (omega arith))

  pub kind : 1 ≤ length bs → byte_at s o ≡ byte_at bs 0
  kind h = let e : o + 0 ≡ o = omega arith in rw e at (w.byte 0 h)

  pub field_f32 : (k : ℕ) → k + F32_SIZE ≤ length bs → f32_at s (o + k) ≡ f32_at bs k
  field_f32 k h = ap (of_bits binary32) (field32 k h)

-- at an offset that comes to the same
pub stands_at : {s : List ℕ} {o : ℕ} (bs : List ℕ) {p : ℕ} → Stands s o bs → o ≡ p → Stands s p bs
stands_at {s} bs w e = subst (λ (n : ℕ). Stands s n bs) e w

-- the first part, and the second
pub stands_first : {s : List ℕ} {o : ℕ} (a b : List ℕ) → Stands s o (a ++ b) → Stands s o a
stands_first a b w = record {
  fits = omega (arith, w.fits, length-append a b);
  byte = λ k h. w.byte k (omega (arith, length-append a b)) ∙ get_or-append a b 0 k h;
}

pub stands_then : {s : List ℕ} {o : ℕ} (a b : List ℕ) (p : ℕ) → p ≡ o + length a → Stands s o (a ++ b) → Stands s p b
stands_then {s} {o} a b p e w = record {
  fits = omega (arith, w.fits, length-append a b);
  byte = λ k h. let q : p + k ≡ o + (length a + k) = omega arith in
      rw q (w.byte (length a + k) (omega (arith, length-append a b)) ∙ get_or-append-add a b k 0);
}

-- what the bytes from an offset on begin with
pub stands_front : (s : List ℕ) (o : ℕ) (a b : List ℕ) → drop o s ≡ a ++ b → o ≤ length s → Stands s o a
stands_front s o a b e l = record {
  fits = omega (arith, length-drop o s, ap length e, length-append a b);
  byte = λ k h. sym (get_or-drop o s k 0) ∙ ap (λ x. get_or x k 0) e ∙ get_or-append a b 0 k h;
}

-- ---- floats
-- an f32 is read from its bytes
pub f32_back : {s : List ℕ} {o : ℕ} (x : Float) → T (fits binary32 x) → Stands s o (f32_bytes x) → f32_at s o ≡ x
f32_back {s} {o} x h w =
    let e : o + 0 ≡ o = omega arith in
    rw e at (field_f32 w 0 (omega arith))
    ∙ ap (of_bits binary32) (le32_back (to_bits binary32 x) (to_bits-lt binary32 x h))
    ∙ of_bits-to_bits binary32 x h

-- each of a run of floats
pub floats_stand : {s : List ℕ} {o : ℕ} (xs : List Float) (k : ℕ) → k < length xs → Stands s o (f32s_bytes xs) → Stands s (o + F32_SIZE * k) (f32_bytes (get_or xs k nan))
unfolding f32s_bytes
floats_stand {o = o} [] k h w = absurd (not-suc-le-zero h)
floats_stand {o = o} (x ∷ xs) zero h w = stands_at (f32_bytes x) (stands_first (f32_bytes x) (f32s_bytes xs) w) (omega arith)
floats_stand {s = s} {o = o} (x ∷ xs) (suc k) h w =
    stands_at (f32_bytes (get_or xs k nan))
    (floats_stand {o = o + F32_SIZE} xs k (le_of_suc-le-suc h) (stands_then (f32_bytes x) (f32s_bytes xs) (o + F32_SIZE) (omega arith) w)) (omega arith)
