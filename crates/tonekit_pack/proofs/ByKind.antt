-- A kind and the byte that a record of it begins with. Assumes nothing.
use Rattle.std.proofs.Common.{ℕ, ◌≡◌, refl, sym, false, eqb, eqb-true}
use Rattle.std.specs.Prelude.{Ok, Err}
use Rattle.tonekit_core.specs.declared.Refusal.{Refusal}
use Rattle.tonekit_core.specs.declared.Refusal.TheVariants.{Misplaced}
use Rattle.tonekit_core.proofs.Split.{split}
use Rattle.tonekit_pack.specs.declared.kind.Kind.{Kind}
use Rattle.tonekit_pack.specs.declared.kind.Kind.TheVariants.{Settings, Tone, Tail, Accent, Rule, Part, End}
use Rattle.tonekit_core.specs.declared.layout.TheConstants.{END_SIZE}
use Rattle.spec_pack.specs.Pack.{due_after, size_of}
use Rattle.tonekit_pack.specs.Kinds.{number, kind_of}

-- the byte of a record whose kind is known
pub kind_number : (n : ℕ) (k : Kind) → kind_of n ≡ Ok k → number k ≡ n
kind_number n k e =
    split (eqb n 1) (λ a. let q : Settings ≡ k = cc in rw (← q) (sym (eqb-true n 1 a)))
    (λ a. split (eqb n 2) (λ b. let q : Tone ≡ k = cc in rw (← q) (sym (eqb-true n 2 b)))
    (λ b. split (eqb n 7) (λ t. let q : Tail ≡ k = cc in rw (← q) (sym (eqb-true n 7 t)))
    (λ t. split (eqb n 3) (λ c. let q : Accent ≡ k = cc in rw (← q) (sym (eqb-true n 3 c)))
    (λ c. split (eqb n 4) (λ d. let q : Rule ≡ k = cc in rw (← q) (sym (eqb-true n 4 d)))
    (λ d. split (eqb n 5) (λ f. let q : Part ≡ k = cc in rw (← q) (sym (eqb-true n 5 f)))
    (λ f. split (eqb n 6) (λ g. let q : End ≡ k = cc in rw (← q) (sym (eqb-true n 6 g)))
    (λ g. absurd cc)))))))

-- a byte that no kind has is due after none
pub no_kind : (last n : ℕ) (r : Refusal) → kind_of n ≡ Err r → (r ≡ Misplaced) × (due_after last n ≡ false)
unfolding due_after
no_kind last n r e =
    split (eqb n 1) (λ a. absurd cc)
    (λ a. split (eqb n 2) (λ b. absurd cc)
    (λ b. split (eqb n 7) (λ t. absurd cc)
    (λ t. split (eqb n 3) (λ c. absurd cc)
    (λ c. split (eqb n 4) (λ d. absurd cc)
    (λ d. split (eqb n 5) (λ f. absurd cc)
    (λ f. split (eqb n 6) (λ g. absurd cc)
    (λ g. (cc, rw (a, b, t, c, d, f, g) refl))))))))

-- and the size of an End
pub no_kind_size : (n : ℕ) (r : Refusal) → kind_of n ≡ Err r → size_of n ≡ END_SIZE
unfolding size_of
no_kind_size n r e =
    split (eqb n 1) (λ a. absurd cc)
    (λ a. split (eqb n 2) (λ b. absurd cc)
    (λ b. split (eqb n 7) (λ t. absurd cc)
    (λ t. split (eqb n 3) (λ c. absurd cc)
    (λ c. split (eqb n 4) (λ d. absurd cc)
    (λ d. split (eqb n 5) (λ f. absurd cc)
    (λ f. rw (a, b, t, c, d, f) refl))))))
