-- What holds of every entry of a list and its place, when the list grows at its end. Assumes nothing.
use Rattle.std.proofs.Common.{◌≡◌, ℕ, ◌<◌, List, [], ◌∷◌, ◌++◌, length, get_or, length-append, arith, ltb, ltb-true, ltb-false}
use lib.ListN.{get_or-append}
use lib.Seq.{get_or-append_seam}
use Rattle.tonekit_core.proofs.Split.{split}

-- Q of each place and its entry
abbrev pub Every : (ℕ → ℕ → Type 0) → List ℕ → Type 0
Every Q xs = (i : ℕ) → i < length xs → Q i (get_or xs i 0)

pub every_snoc : (Q : ℕ → ℕ → Type 0) (xs : List ℕ) (x : ℕ) → Every Q xs → Q (length xs) x → Every Q (xs ++ (x ∷ []))
every_snoc Q xs x h p i l =
    split (ltb i (length xs))
    (λ t. let b : i < length xs = ltb-true i (length xs) t in rw (get_or-append xs (x ∷ []) 0 i b) (h i b))
    (λ f. let e : i ≡ length xs = omega (arith, ltb-false i (length xs) f, length-append xs (x ∷ [])) in rw (e, get_or-append_seam xs x [] 0) p)
