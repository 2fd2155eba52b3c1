-- A part as the code lends it, what the definitions read of it, and what its walks give.
use Rattle.std.specs.Prelude.{ℕ, ◌<◌, ◌^◌, ◌≡◌, Float}
use Rattle.std.specs.Float.{binary64}
use Rattle.std.specs.Float.Ieee.{sub, mul}
use Rattle.spec_shape.specs.declared.Sums.{Sums}
use Rattle.spec_shape.specs.Fit as fit
use Rattle.spec_shape.specs.Fit.{walk, voiced_sum, seconds}
use Rattle.tonekit_fit.specs.declared.Part.{Part}

abbrev pub lent_part : Part → fit.Part
lent_part p = record { frames = p.frames.bytes.now; first = p.frames.first; chao = p.chao.now }

-- where R says what a step may give, z is where the walk from s ends: that of each function that gives the same
abbrev pub Walks : {S : Type 0} → (S → ℕ → Float → S → Type 0) → fit.Part → S → S → Type 0
Walks {S} R p s z =
    (step : S → ℕ → Float → S) → ((t : S) (j : ℕ) (y : Float) (r : S) → j < 2 ^ 60 → R t j y r → r ≡ step t j y) → z ≡ walk p step s

-- two sums that one pass makes: of the times and the Chao values, and of the squares of the times and their products, each from its mean
abbrev pub point_sums : fit.Part → Sums
point_sums p = record { x = voiced_sum p (λ j y. seconds j); y = voiced_sum p (λ j y. y) }

abbrev pub product_sums : fit.Part → Float → Float → Sums
product_sums p mx my =
    record {
      x = voiced_sum p (λ j y. mul binary64 (sub binary64 (seconds j) mx) (sub binary64 (seconds j) mx));
      y = voiced_sum p (λ j y. mul binary64 (sub binary64 (seconds j) mx) (sub binary64 y my));
    }
