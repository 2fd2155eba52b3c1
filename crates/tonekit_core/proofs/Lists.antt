-- The last of a list that was just made longer. Assumes nothing.
use Rattle.std.proofs.Common.{ℕ, ◌-◌, ◌≡◌, List, [], ◌∷◌, ◌++◌, arith, length, get_or, length-append}
use lib.Seq.{get_or-append_seam}

pub last_snoc : (os : List ℕ) (o : ℕ) → get_or (os ++ (o ∷ [])) (length (os ++ (o ∷ [])) - 1) 0 ≡ o
last_snoc os o =
    let q : length (os ++ (o ∷ [])) - 1 ≡ length os = simp length-append (omega arith) in
    rw q (get_or-append_seam os o [] 0)
