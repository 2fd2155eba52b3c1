-- A list that is made place by place, `list_of`: its length, and what stands in its places.
use Rattle.std.proofs.Common.{⊎_elim, ◌-◌, ℕ, zero, suc, ◌<◌, ◌≡◌, refl, ◌∙◌, ap, Bool, T, true, ◌&&◌, sym, subst, [], ◌∷◌, arith, length, get_or, length-append, Float}
use Rattle.std.proofs.lemmas.Bool.{cases_lt}
use Rattle.std.specs.List.{list_all}
use Rattle.std.proofs.lemmas.List.{get_or_append_left, get_or-append_right}
use Rattle.std.proofs.lemmas.List.Folds.{list_all-append}
use lib.Ieee.{nan}
use lib.Ieee.Fits.{and_i}
use Rattle.spec_shape.specs.Extract.{list_of}

module _ (f : ℕ → Float) where
  pub listed_length : (n : ℕ) → length (list_of f n) ≡ n
  unfolding list_of
  listed_length zero = refl
  listed_length (suc n) = length-append (list_of f n) (f n ∷ []) ∙ omega (arith, listed_length n)

  pub listed_at : (n j : ℕ) → j < n → get_or (list_of f n) j nan ≡ f j
  unfolding list_of
  listed_at zero j h = absurd (omega arith)
  listed_at (suc n) j h =
      ⊎_elim (λ k. get_or_append_left (list_of f n) (f n ∷ []) nan j (omega (arith, listed_length n, k)) ∙ listed_at n j k)
      (λ k.
      let z : j - n ≡ 0 = omega arith in
      let e : n ≡ j = omega arith in
      get_or-append_right (list_of f n) (f n ∷ []) n j nan (listed_length n) k ∙ ap (λ i. get_or (f n ∷ []) i nan) z ∙ ap f e) (cases_lt j n)

  pub listed_each : (p : Float → Bool) (n : ℕ) → ((j : ℕ) → j < n → T (p (f j))) → T (list_all p (list_of f n))
  unfolding list_of
  listed_each p zero h = tt
  listed_each p (suc n) h =
      subst T (sym (list_all-append p (list_of f n) (f n ∷ [])))
      (and_i (list_all p (list_of f n)) (p (f n) && true) (listed_each p n (λ j l. h j (omega arith))) (and_i (p (f n)) true (h n (omega arith)) tt))
