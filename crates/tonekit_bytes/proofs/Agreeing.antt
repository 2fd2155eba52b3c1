-- Two inputs that agree on their first n bytes: their fields there are the same, and so is what is asked of their lengths. Assumes nothing.
use Rattle.std.proofs.Common.{ℕ, ◌+◌, ◌≤◌, ◌<◌, ◌≡◌, refl, sym, ap, ◌∙◌, List, Bool, true, false, arith, leb, ltb, length, take, take_all, length-take-le, get_or-take, leb-true, leb-false, lt-ltb, le-ltb}
use lib.Ieee.{binary32, of_bits}
use borrow.Author.Tests.{lt-leb}
use Rattle.spec_arithmetic.specs.Fields.{byte_at, u16_at, u32_at, f32_at}

-- the same bytes, and no place up to n that only one of them reaches
pub record Agree (n : ℕ) (t s : List ℕ) : Type 0 where
  pub bytes : (i : ℕ) → i < n → byte_at t i ≡ byte_at s i
  pub ends : (m : ℕ) → m < n → leb (length t) m ≡ leb (length s) m
  pub cuts : (m : ℕ) → m ≤ n → ltb (length t) m ≡ ltb (length s) m
  pub goes : (m : ℕ) → m < n → ltb m (length t) ≡ ltb m (length s)

-- an input and its first n bytes
taken : (n : ℕ) (s : List ℕ) (b : Bool) → leb n (length s) ≡ b → Agree n (take n s) s
taken n s true e =
    let long : n ≤ length s = leb-true n (length s) e in
    let l = length-take-le n s long in
    record {
      bytes = λ i h. get_or-take n s i 0 h;
      ends = λ m h. lt-leb (length (take n s)) m (omega (arith, l)) ∙ sym (lt-leb (length s) m (omega arith));
      cuts = λ m h. le-ltb (length (take n s)) m (omega (arith, l)) ∙ sym (le-ltb (length s) m (omega arith));
      goes = λ m h. lt-ltb m (length (take n s)) (omega (arith, l)) ∙ sym (lt-ltb m (length s) (omega arith));
    }
taken n s false e =
    let q : take n s ≡ s = take_all n s (omega (arith, leb-false n (length s) e)) in
    record { bytes = λ i h. rw q; ends = λ m h. rw q; cuts = λ m h. rw q; goes = λ m h. rw q }

pub taken_agrees : (n : ℕ) (s : List ℕ) → Agree n (take n s) s
taken_agrees n s = taken n s (leb n (length s)) refl

-- fields that lie within those bytes
module _ (n : ℕ) (t s : List ℕ) (a : Agree n t s) where
  pub two : (i : ℕ) → i + 2 ≤ n → u16_at t i ≡ u16_at s i
  two i h = rw (a.bytes i (omega arith), a.bytes (i + 1) (omega arith))

  pub four : (i : ℕ) → i + 4 ≤ n → u32_at t i ≡ u32_at s i
  four i h = rw (two i (omega arith), two (i + 2) (omega arith))

  pub float : (i : ℕ) → i + 4 ≤ n → f32_at t i ≡ f32_at s i
  float i h = ap (of_bits binary32) (four i h)
