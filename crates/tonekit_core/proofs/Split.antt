-- A test taken apart, with the equation kept. Assumes nothing.
use Rattle.std.proofs.Common.{ℕ, ◌≤◌, ◌≡◌, refl, Bool, true, false, cond, not, ◌&&◌, ◌||◌, eqb, arith}
use borrow.Author.Tests.{eqb-false, not-true}
use mathlib.Core.Bool.{false≢true}

pub split {ℓ} : {P : Type ℓ} (b : Bool) → (b ≡ true → P) → (b ≡ false → P) → P
split true f g = f refl
split false f g = g refl

pub absurd_bool : {P : Type 0} → false ≡ true → P
absurd_bool h = absurd (false≢true h)

pub either : {P : Type 0} (a b : Bool) → (a || b) ≡ true → (a ≡ true → P) → (b ≡ true → P) → P
either true b h f g = f refl
either false b h f g = g h

pub or_cond : (a b : Bool) → (a || b) ≡ cond a true b
or_cond true b = refl
or_cond false b = refl

pub neither : (a b : Bool) → (a || b) ≡ false → (a ≡ false) × (b ≡ false)
neither true b h = absurd_bool (rw h refl)
neither false b h = (refl, h)

pub both : (a b : Bool) → (a && b) ≡ true → (a ≡ true) × (b ≡ true)
both true b h = (refl, h)
both false b h = absurd_bool h

pub not_zero : (n : ℕ) → not (eqb n 0) ≡ true → 1 ≤ n
not_zero n h = omega (arith, eqb-false n 0 (not-true (eqb n 0) h))
