-- Bytes written one piece for each turn. Assumes nothing.
use Rattle.std.specs.Prelude.{◌≡◌, List, [], ◌++◌, length}
use Prim.Native.Nat.{ℕ, zero, suc, ◌+◌, ◌-◌}
use Rattle.std.proofs.lemmas.List.Edits.{sets}

-- f lo, f (lo + 1), .. up to hi, one behind the other
module _ (f : ℕ → List ℕ) where
  unfoldable pub pieces : ℕ → ℕ → List ℕ
  pieces zero i = []
  pieces (suc k) i = f i ++ pieces k (i + 1)

  unfoldable pub piecewise : ℕ → ℕ → List ℕ
  unfolding pieces
  piecewise lo hi = pieces (hi - lo) lo

-- bs was written at `at`, and r is the place past it
pub record Wrote (bs : List ℕ) (at : ℕ) (before after : List ℕ) (r : ℕ) : Type 0 where
  pub place : r ≡ at + length bs
  pub same : after ≡ sets before at bs
