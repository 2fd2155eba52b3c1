-- What holds of every entry of a list, with the entries before it, when the list grows at its end. Assumes nothing.
use Rattle.std.proofs.Common.{ℕ, ◌≤◌, ◌<◌, ◌≡◌, List, [], ◌∷◌, ◌++◌, arith, ltb, ltb-true, ltb-false, length, get_or, take, length-append}
use lib.ListN.{get_or-append}
use lib.Seq.{take-append-le, take-append_seam, get_or-append_seam}
use Rattle.tonekit_core.proofs.Split.{split}

-- P before x, for each entry x and those before it
abbrev pub Each : (List ℕ → ℕ → Type 0) → List ℕ → Type 0
Each P xs = (i : ℕ) → i < length xs → P (take i xs) (get_or xs i 0)

pub each_snoc : (P : List ℕ → ℕ → Type 0) (xs : List ℕ) (x : ℕ) → Each P xs → P xs x → Each P (xs ++ (x ∷ []))
each_snoc P xs x h p i l =
    split (ltb i (length xs))
    (λ t. let b : i < length xs = ltb-true i (length xs) t in
    let c : i ≤ length xs = omega arith in
    rw (take-append-le i xs (x ∷ []) c, get_or-append xs (x ∷ []) 0 i b) (h i b))
    (λ f. let e : i ≡ length xs = omega (arith, ltb-false i (length xs) f, length-append xs (x ∷ [])) in
    rw (e, take-append_seam xs (x ∷ []), get_or-append_seam xs x [] 0) p)
