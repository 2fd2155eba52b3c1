-- The part of a list from an index on, of so many elements, cut where the list ends. Assumes nothing.
use Rattle.std.proofs.Common.{◌≡◌, refl, sym, ◌∙◌, ap, Bool, true, false, List, [], ℕ, ◌+◌, ◌-◌, ◌≤◌, ◌<◌, min, arith, leb-true, leb-false, leb, length, take, drop, length-drop, drop_of_length-le, take_all}
use native.Mathlib.Nat.{min-eq_left}
use lib.Seq.{take-nil}

-- the last index is within the list, or not
within : (s : List ℕ) (a n : ℕ) (b : Bool) → leb (a + n) (length s) ≡ b → a ≤ length s → take (min (a + n) (length s) - a) (drop a s) ≡ take n (drop a s)
within s a n true t h =
    let e : min (a + n) (length s) - a ≡ n = omega (arith, leb-true (a + n) (length s) t) in
    ap (λ (k : ℕ). take k (drop a s)) e
within s a n false t h =
    let k : length s < a + n = leb-false (a + n) (length s) t in
    let l : length (drop a s) ≡ length s - a = length-drop a s in
    take_all (min (a + n) (length s) - a) (drop a s) (omega arith) ∙ sym (take_all n (drop a s) (omega arith))

-- so is the first
from : (s : List ℕ) (a n : ℕ) (b : Bool) → leb a (length s) ≡ b
    → take (min (a + n) (length s) - min a (length s)) (drop (min a (length s)) s) ≡ take n (drop a s)
from s a n true t =
    let h : a ≤ length s = leb-true a (length s) t in
    rw (min-eq_left h) (within s a n (leb (a + n) (length s)) refl h)
from s a n false t =
    let h : length s < a = leb-false a (length s) t in
    let e : drop (min a (length s)) s ≡ [] = drop_of_length-le s {i = min a (length s)} (omega arith) in
    let o : drop a s ≡ [] = drop_of_length-le s {i = a} (omega arith) in
    rw (e, o) (take-nil (min (a + n) (length s) - min a (length s)) ∙ sym (take-nil n))

pub cut : (s : List ℕ) (a n : ℕ) → take (min (a + n) (length s) - min a (length s)) (drop (min a (length s)) s) ≡ take n (drop a s)
cut s a n = from s a n (leb a (length s)) refl
