-- The programs' input: two bytes of length, so many of a pack or a sheet, and a query. The parts that are lent to a call, and how many bytes are enough. Assumes nothing.
use Rattle.std.proofs.Common.{ℕ, ◌+◌, ◌-◌, ◌≤◌, ◌<◌, min, ◌≡◌, refl, sym, ap, ◌∙◌, Bool, true, false, List, arith, leb-true, leb-false, leb, length, take, drop, length-drop, drop_of_length-le, take_all, take-take, drop-drop, get_or-take}
use Rattle.std.proofs.lemmas.List.{drop-take}
use native.Mathlib.Nat.{min-eq_left}
use Rattle.spec_arithmetic.specs.Fields.{byte_at, u16_at}
use Rattle.tonekit_query.proofs.Parts.{cut}
use Rattle.spec_judgement.specs.Input.{held_of, query_of}

-- all that stands from an index on
behind : (s : List ℕ) (a : ℕ) (b : Bool) → leb a (length s) ≡ b → drop (min a (length s)) s ≡ drop a s
behind s a true t = rw (min-eq_left (leb-true a (length s) t))
behind s a false t =
    let h : length s < a = leb-false a (length s) t in
    drop_of_length-le s {i = min a (length s)} (omega arith) ∙ sym (drop_of_length-le s {i = a} (omega arith))

rest : (s : List ℕ) (a : ℕ) → take (length s - min a (length s)) (drop (min a (length s)) s) ≡ drop a s
rest s a =
    let l : length (drop (min a (length s)) s) ≡ length s - min a (length s) = length-drop (min a (length s)) s in
    take_all (length s - min a (length s)) (drop (min a (length s)) s) (omega arith) ∙ behind s a (leb a (length s)) refl

-- the bytes behind the length, so many of them, and those behind these
pub held_is : (s : List ℕ) (from to : ℕ) → from ≡ min 2 (length s) → to ≡ min (2 + u16_at s 0) (length s) → take (to - from) (drop from s) ≡ held_of s
held_is s from to first last = rw (last, first) (cut s 2 (u16_at s 0))

pub query_is : (s : List ℕ) (from : ℕ) → from ≡ min (2 + u16_at s 0) (length s) → take (length s - from) (drop from s) ≡ query_of s
query_is s from first = rw first (rest s (2 + u16_at s 0) ∙ sym (drop-drop (u16_at s 0) 2 s))

-- 75,825 bytes: two of length, the longest pack or sheet, and 10,288 of the query
drop_take : (k n : ℕ) (s : List ℕ) → k ≤ n → drop k (take n s) ≡ take (n - k) (drop k s)
drop_take k n s h =
    let e : n ≡ k + (n - k) = omega arith in
    ap (λ (m : ℕ). drop k (take m s)) e ∙ drop-take k (n - k) s

module _ (s : List ℕ) (bytes : (i : ℕ) → byte_at s i < 256) (n : ℕ) (h : 75825 ≤ n) where
  size_same : u16_at (take n s) 0 ≡ u16_at s 0
  size_same = rw (get_or-take n s 0 0 (omega arith), get_or-take n s 1 0 (omega arith))

  small : u16_at s 0 ≤ 65535
  small = omega (arith, bytes 0, bytes 1)

  pub held_same : held_of (take n s) ≡ held_of s
  held_same = rw (size_same, drop_take 2 n s (omega arith)) (take-take (u16_at s 0) (n - 2) (drop 2 s) (omega (arith, small)))

  pub query_same : query_of (take n s) ≡ take (n - 2 - u16_at s 0) (query_of s)
  query_same = rw (size_same, drop_take 2 n s (omega arith)) (drop_take (u16_at s 0) (n - 2) (drop 2 s) (omega (arith, small)))

  pub query_enough : 10288 ≤ n - 2 - u16_at s 0
  query_enough = omega (arith, small)
