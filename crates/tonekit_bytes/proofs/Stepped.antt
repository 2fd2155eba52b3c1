-- Offsets that stand a fixed step apart. Assumes nothing.
use Rattle.std.proofs.Common.{ℕ, zero, suc, ◌+◌, ◌*◌, ◌≤◌, ◌<◌, ◌≡◌, refl, ◌∙◌, [], ◌∷◌, ◌++◌, arith, add-one, ltb, ltb-true, ltb-false, length, get_or, length-append}
use Rattle.std.proofs.Math.Nat.{mul-le-mul_left}
use lib.ListN.{get_or-append}
use lib.Seq.{get_or_at}
use Rattle.tonekit_core.proofs.Split.{split}
use Rattle.tonekit_bytes.specs.Places.{stepped}

module _ (o step : ℕ) where
  pub stepped_length : (n : ℕ) → length (stepped o step n) ≡ n
  unfolding stepped
  stepped_length zero = refl
  stepped_length (suc n) = simp (length-append, stepped_length n, add-one)

  pub stepped_get : (n i : ℕ) → i < n → get_or (stepped o step n) i 0 ≡ o + step * i
  unfolding stepped
  stepped_get zero i h = absurd (omega arith)
  stepped_get (suc n) i h =
      split (ltb i n)
      (λ l. get_or-append (stepped o step n) ((o + step * n) ∷ []) 0 i (rw (stepped_length n) (ltb-true i n l)) ∙ stepped_get n i (ltb-true i n l))
      (λ l. let e : i ≡ n = omega (arith, ltb-false i n l) in rw e (get_or_at (stepped o step n) (o + step * n) [] 0 n (stepped_length n)))

  -- one more
  pub stepped_more : (n q : ℕ) → q ≡ o + step * n → stepped o step (n + 1) ≡ stepped o step n ++ (q ∷ [])
  unfolding stepped
  stepped_more n q e = rw (add-one, e)

  pub stepped_none : (p n : ℕ) → n ≡ 0 → stepped o step n ≡ stepped p step n
  unfolding stepped
  stepped_none p n e = rw e

-- a step before the last one ends no later
pub step_before : (o step n i : ℕ) → i < n → o + step * i ≤ o + step * n
step_before o step n i h = let b : step * i ≤ step * n = mul-le-mul_left step (omega arith) in omega (arith, b)
