-- A kind and the byte that a record of it begins with. Assumes nothing.
use Rattle.std.proofs.Common.{ℕ, ◌≡◌, sym, false, eqb, eqb-true, Result, Ok, Err}
use Rattle.tonekit_core.specs.declared.Refusal.{Refusal}
use Rattle.tonekit_core.specs.declared.Refusal.TheVariants.{Misplaced}
use Rattle.tonekit_core.proofs.Split.{split}
use Rattle.tonekit_sheet.specs.declared.Kind.{Kind}
use Rattle.tonekit_sheet.specs.declared.Kind.TheVariants as kind
use Rattle.tonekit_sheet.specs.Kinds.{number, kind_of}
use Rattle.tonekit_core.specs.declared.layout.TheConstants.{SHEET_END_SIZE}
use Rattle.spec_sheet.specs.Reader.{SheetRead, due_next, size_of}

same_ok : (a k : Kind) → ◌≡◌ {A = Result Kind Refusal} (Ok a) (Ok k) → a ≡ k
same_ok a k h = cc

same_err : (a r : Refusal) → ◌≡◌ {A = Result Kind Refusal} (Err a) (Err r) → a ≡ r
same_err a r h = cc

not_both : {P : Type 0} (k : Kind) (r : Refusal) → ◌≡◌ {A = Result Kind Refusal} (Ok k) (Err r) → P
not_both k r h = absurd cc

-- a kind has the number that it is the kind of
pub kind_number : (n : ℕ) (k : Kind) → kind_of n ≡ Ok k → number k ≡ n
kind_number n k h =
    split (eqb n 17) (λ a. rw (← same_ok kind.Settings k (rw a at h)) (sym (eqb-true n 17 a)))
    (λ a. split (eqb n 18) (λ b. rw (← same_ok kind.Tone k (rw (a, b) at h)) (sym (eqb-true n 18 b)))
    (λ b. split (eqb n 24) (λ t. rw (← same_ok kind.Tail k (rw (a, b, t) at h)) (sym (eqb-true n 24 t)))
    (λ t. split (eqb n 19) (λ c. rw (← same_ok kind.Accent k (rw (a, b, t, c) at h)) (sym (eqb-true n 19 c)))
    (λ c. split (eqb n 20) (λ d. rw (← same_ok kind.Row k (rw (a, b, t, c, d) at h)) (sym (eqb-true n 20 d)))
    (λ d. split (eqb n 21) (λ e. rw (← same_ok kind.List k (rw (a, b, t, c, d, e) at h)) (sym (eqb-true n 21 e)))
    (λ e. split (eqb n 22) (λ f. rw (← same_ok kind.Component k (rw (a, b, t, c, d, e, f) at h)) (sym (eqb-true n 22 f)))
    (λ f. split (eqb n 23) (λ g. rw (← same_ok kind.End k (rw (a, b, t, c, d, e, f, g) at h)) (sym (eqb-true n 23 g)))
    (λ g. not_both k Misplaced (sym (rw (a, b, t, c, d, e, f, g) at h))))))))))

-- a record that begins with no kind's number is misplaced, whatever was read before it
pub no_kind : (st : SheetRead) (n : ℕ) (r : Refusal) → kind_of n ≡ Err r → (Misplaced ≡ r) × (due_next st n ≡ false)
unfolding due_next
no_kind st n r h =
    split (eqb n 17) (λ a. not_both kind.Settings r (rw a at h))
    (λ a. split (eqb n 18) (λ b. not_both kind.Tone r (rw (a, b) at h))
    (λ b. split (eqb n 24) (λ t. not_both kind.Tail r (rw (a, b, t) at h))
    (λ t. split (eqb n 19) (λ c. not_both kind.Accent r (rw (a, b, t, c) at h))
    (λ c. split (eqb n 20) (λ d. not_both kind.Row r (rw (a, b, t, c, d) at h))
    (λ d. split (eqb n 21) (λ e. not_both kind.List r (rw (a, b, t, c, d, e) at h))
    (λ e. split (eqb n 22) (λ f. not_both kind.Component r (rw (a, b, t, c, d, e, f) at h))
    (λ f. split (eqb n 23) (λ g. not_both kind.End r (rw (a, b, t, c, d, e, f, g) at h))
    (λ g. (same_err Misplaced r (rw (a, b, t, c, d, e, f, g) at h), rw (a, b, t, c, d, e, f, g))))))))))

-- and has the size of an End
pub no_kind_size : (n : ℕ) (r : Refusal) → kind_of n ≡ Err r → size_of n ≡ SHEET_END_SIZE
unfolding size_of
no_kind_size n r h =
    split (eqb n 17) (λ a. not_both kind.Settings r (rw a at h))
    (λ a. split (eqb n 18) (λ b. not_both kind.Tone r (rw (a, b) at h))
    (λ b. split (eqb n 24) (λ t. not_both kind.Tail r (rw (a, b, t) at h))
    (λ t. split (eqb n 19) (λ c. not_both kind.Accent r (rw (a, b, t, c) at h))
    (λ c. split (eqb n 20) (λ d. not_both kind.Row r (rw (a, b, t, c, d) at h))
    (λ d. split (eqb n 21) (λ e. not_both kind.List r (rw (a, b, t, c, d, e) at h))
    (λ e. split (eqb n 22) (λ f. not_both kind.Component r (rw (a, b, t, c, d, e, f) at h))
    (λ f. rw (a, b, t, c, d, e, f))))))))
