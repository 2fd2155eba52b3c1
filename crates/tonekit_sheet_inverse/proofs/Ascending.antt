-- Accents whose numbers go up stand in ascending order already. Assumes nothing.
use Rattle.std.proofs.Common.{ℕ, zero, suc, ◌+◌, ◌≤◌, ◌<◌, ◌≡◌, refl, ap, ◌∙◌, List, [], ◌∷◌, arith, eqb, length, get_or, eq-eqb, ne_eqb, eqb-true}
use mathlib.Core.Option.{some}
use borrow.Author.Tests.{eqb-false}
use Rattle.tonekit_core.proofs.Split.{split}
use Rattle.spec_lookup.specs.Source.{Accent, accent_in}
use Rattle.spec_sheet.specs.Sheet.{or_skip, asc_from, ascending, absent_accent}
use Rattle.tonekit_sheet_laws.proofs.Ascending.{accent_none, asc_none}

abbrev pub number_of : List Accent → ℕ → ℕ
number_of l i = (get_or l i absent_accent).number

in_skip : (a : Accent) (l : List Accent) (n : ℕ) → (a.number ≡ n → ⊥) → accent_in (a ∷ l) n ≡ accent_in l n
unfolding accent_in
in_skip a l n h = rw (ne_eqb a.number n h)

in_first : (a : Accent) (l : List Accent) (n : ℕ) → a.number ≡ n → accent_in (a ∷ l) n ≡ some a
unfolding accent_in
in_first a l n e = rw (eq-eqb a.number n e)

-- an accent below the numbers that are looked for
asc_skip : (k n : ℕ) (a : Accent) (l : List Accent) → a.number < n → asc_from k n (a ∷ l) ≡ asc_from k n l
unfolding asc_from
asc_skip zero n a l h = refl
asc_skip (suc k) n a l h = rw (in_skip a l n (λ e. omega arith), asc_skip k (suc n) a l (omega arith))

asc_next : (k n : ℕ) (l : List Accent) → asc_from (suc k) n l ≡ or_skip (accent_in l n) (asc_from k (suc n) l)
unfolding asc_from
asc_next k n l = refl

asc_up : (k n : ℕ) (l : List Accent) → ((i : ℕ) → i < length l → (n ≤ number_of l i) × (number_of l i < n + k))
    → ((i j : ℕ) → i < j → j < length l → number_of l i < number_of l j) → asc_from k n l ≡ l
asc_up k n [] b u = asc_none k n
asc_up zero n (a ∷ l) b u = absurd (omega (arith, b 0 (omega arith)))
asc_up (suc k) n (a ∷ l) b u =
    asc_next k n (a ∷ l)
    ∙ split (eqb a.number n)
    (λ t. let e : a.number ≡ n = eqb-true a.number n t in
    rw (in_first a l n e, asc_skip k (suc n) a l (omega arith))
    (ap (λ (x : List Accent). a ∷ x)
    (asc_up k (suc n) l (λ i c. (omega (arith, u 0 (suc i) (omega arith) (omega arith)), omega (arith, (b (suc i) (omega arith)).1))) (λ i j c d. u (suc i) (suc j) (omega arith) (omega arith)))))
    (λ t. let f : a.number ≡ n → ⊥ = eqb-false a.number n t in
    let g : n ≤ a.number = (b 0 (omega arith)).0 in
    let above : (i : ℕ) → i < length (a ∷ l) → suc n ≤ number_of (a ∷ l) i = rest a l n u (omega arith) in
    rw (accent_none (a ∷ l) n (λ i c q. omega (arith, above i c)))
    (asc_up k (suc n) (a ∷ l) (λ i c. (above i c, omega (arith, (b i c).1))) u))
  where
    rest : (a : Accent) (l : List Accent) (n : ℕ) → ((i j : ℕ) → i < j → j < length (a ∷ l) → number_of (a ∷ l) i < number_of (a ∷ l) j) → n < a.number → (i : ℕ) → i < length (a ∷ l) → suc n ≤ number_of (a ∷ l) i
    rest a l n u h zero c = h
    rest a l n u h (suc i) c = omega (arith, u 0 (suc i) (omega arith) c)

pub ascending_up : (l : List Accent) → ((i : ℕ) → i < length l → (1 ≤ number_of l i) × (number_of l i < 256))
    → ((i j : ℕ) → i < j → j < length l → number_of l i < number_of l j) → ascending l ≡ l
unfolding ascending
ascending_up l b u = asc_up 255 1 l b u
