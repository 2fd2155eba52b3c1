-- A list of ten is the first ten of it and of what stands behind.
use Rattle.std.proofs.Common.{◌≡◌, ◌++◌, ◌≤◌, List, length, take, arith, Float}
use Rattle.std.proofs.lemmas.List.{take-append-le, take_all}

pub first_ten : (xs ys : List Float) → length xs ≡ 10 → take 10 (xs ++ ys) ≡ xs
first_ten xs ys e =
    let h : 10 ≤ length xs = omega arith in
    let k : length xs ≤ 10 = omega arith in
    rw (take-append-le 10 xs ys h) (take_all 10 xs k)
