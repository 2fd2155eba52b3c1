-- The bytes of an input from one offset to another: one byte, a field, runs one behind the other, all of it. Assumes nothing.
use Rattle.std.proofs.Common.{ℕ, zero, suc, ◌+◌, ◌-◌, ◌≤◌, ◌<◌, ◌≡◌, refl, sym, ap, ◌∙◌, List, [], ◌∷◌, ◌++◌, arith, ltb, length, length-append, get_or-append-add, ext_get_or, ltb-true, ltb-false}
use lib.ListN.{get_or-append}
use Rattle.spec_arithmetic.specs.Fields.{byte_at, u16_at, u32_at, le16, le32}
use Rattle.tonekit_core.proofs.Split.{split}
use Rattle.spec_sheet.specs.Agree.{Bytes}
use Rattle.spec_sheet.specs.Pieces.{piecewise}
use Rattle.tonekit_sheet.proofs.Gather.{gather_done, gather_step}
use Rattle.tonekit_bytes.proofs.Back.{le16_of, le32_of}

-- bs are the bytes of s from o up to e
pub record Spans (s : List ℕ) (o e : ℕ) (bs : List ℕ) : Type 0 where
  pub ends : e ≡ o + length bs
  pub byte : (k : ℕ) → k < length bs → byte_at s (o + k) ≡ byte_at bs k

pub none_spans : (s : List ℕ) (o : ℕ) → Spans s o o []
none_spans s o = record { ends = omega arith; byte = λ k h. absurd (omega arith) }

pub one_spans : (s : List ℕ) (o e b : ℕ) → e ≡ o + 1 → byte_at s o ≡ b → Spans s o e (b ∷ [])
one_spans s o e b q h = record { ends = q; byte = λ k l. let z : k ≡ 0 = omega arith in let y : o + 0 ≡ o = omega arith in rw (z, y) h }

-- one run behind the other
pub joined : {s : List ℕ} {o m e : ℕ} {a b : List ℕ} → Spans s o m a → Spans s m e b → Spans s o e (a ++ b)
joined {s} {o} {m} {e} {a} {b} v w = record {
  ends = omega (arith, v.ends, w.ends, length-append a b);
  byte = λ k h. split (ltb k (length a))
      (λ t. let l : k < length a = ltb-true k (length a) t in v.byte k l ∙ sym (get_or-append a b 0 k l))
      (λ t. let l : length a ≤ k = ltb-false k (length a) t in
      let i = k - length a in
      let p : o + k ≡ m + i = omega (arith, v.ends) in
      let q : k ≡ length a + i = omega arith in
      let r : byte_at (a ++ b) k ≡ byte_at b i = ap (byte_at (a ++ b)) q ∙ get_or-append-add a b i 0 in
      rw p (w.byte i (omega (arith, length-append a b)) ∙ sym r));
}

-- a run from the first byte to the last is the whole input
pub spans_all : (s : List ℕ) (e : ℕ) (bs : List ℕ) → e ≡ length s → Spans s 0 e bs → bs ≡ s
spans_all s e bs q w =
    ext_get_or 0 bs s (omega (arith, w.ends))
    (λ i h. let z : 0 + i ≡ i = omega arith in sym (rw z at (w.byte i h)))

-- ---- fields: the number that two, and four, bytes stand for has these bytes
module _ (s : List ℕ) (b : Bytes s) where
  pub half_spans : (o e : ℕ) → e ≡ o + 2 → Spans s o e (le16 (u16_at s o))
  half_spans o e q =
      rw (le16_of (byte_at s o) (byte_at s (o + 1)) (b o) (b (o + 1)))
      (joined (one_spans s o (o + 1) (byte_at s o) refl refl) (one_spans s (o + 1) e (byte_at s (o + 1)) (omega arith) refl))

  pub word_spans : (o e : ℕ) → e ≡ o + 4 → Spans s o e (le32 (u32_at s o))
  word_spans o e q =
      rw (le32_of (byte_at s o) (byte_at s (o + 1)) (byte_at s (o + 2)) (byte_at s (o + 2 + 1)) (b o) (b (o + 1)) (b (o + 2)) (b (o + 2 + 1)))
      (joined (one_spans s o (o + 1) (byte_at s o) refl refl)
      (joined (one_spans s (o + 1) (o + 2) (byte_at s (o + 1)) (omega arith) refl)
      (joined (one_spans s (o + 2) (o + 2 + 1) (byte_at s (o + 2)) refl refl) (one_spans s (o + 2 + 1) e (byte_at s (o + 2 + 1)) (omega arith) refl))))

-- ---- pieces: piece i from p i up to p (i + 1)
module _ (s : List ℕ) (f : ℕ → List ℕ) (p : ℕ → ℕ) (n : ℕ) (each : (i : ℕ) → i < n → Spans s (p i) (p (i + 1)) (f i)) where
  from : (k i : ℕ) → i + k ≡ n → Spans s (p i) (p n) (piecewise f i n)
  from zero i e = let q : i ≡ n = omega arith in rw (gather_done f i n (omega arith), q) (none_spans s (p n))
  from (suc k) i e = rw (gather_step f i n (omega arith)) (joined (each i (omega arith)) (from k (i + 1) (omega arith)))

  pub gather_spans : (o e : ℕ) → o ≡ p 0 → e ≡ p n → Spans s o e (piecewise f 0 n)
  gather_spans o e q r = rw (q, r) (from n 0 (omega arith))
