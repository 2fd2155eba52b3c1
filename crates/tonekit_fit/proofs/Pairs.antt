-- A walk over the voiced frames, turn by turn; one that keeps two sums is two walks. Assumes nothing.
use Rattle.std.proofs.Common.{ℕ, zero, suc, ◌+◌, ◌-◌, ◌≡◌, refl, ap, ◌∙◌, Bool, true, false, cond, Float, get_or, length}
use lib.Ieee.{nan, binary64, add}
use Rattle.tonekit_core.specs.Loop.{turns, range}
use Rattle.spec_arithmetic.specs.Constants.{zero64}
use Rattle.spec_shape.specs.declared.Sums.{Sums}
use Rattle.spec_shape.specs.Chao.{voiced}
use Rattle.spec_shape.specs.Fit.{Part, voiced_sum, walk}

abbrev pub voiced_step : {S : Type 0} → Part → (S → ℕ → Float → S) → ℕ → S → S
voiced_step p step j s = cond (voiced p.frames (p.first + j)) (step s j (get_or p.chao j nan)) s

module _ (p : Part) (a b : ℕ → Float → Float) where
  abbrev pub both : Sums → ℕ → Float → Sums
  both s j y = record { x = add binary64 s.x (a j y); y = add binary64 s.y (b j y) }

  abbrev first : Float → ℕ → Float → Float
  first t j y = add binary64 t (a j y)

  abbrev second : Float → ℕ → Float → Float
  second t j y = add binary64 t (b j y)

  apart : (v : Bool) (s t : Sums) → cond v s t ≡ record { x = cond v s.x t.x; y = cond v s.y t.y }
  apart true s t = refl
  apart false s t = refl

  pair_turns : (k j : ℕ) (s : Sums) → turns (voiced_step p both) k j s ≡ record { x = turns (voiced_step p first) k j s.x; y = turns (voiced_step p second) k j s.y }
  unfolding turns
  pair_turns zero j s = refl
  pair_turns (suc k) j s =
      ap (turns (voiced_step p both) k (j + 1)) (apart (voiced p.frames (p.first + j)) (both s j (get_or p.chao j nan)) s)
      ∙ pair_turns k (j + 1) (record { x = voiced_step p first j s.x; y = voiced_step p second j s.y })

  pub pair_walk : walk p both (record { x = zero64; y = zero64 }) ≡ record { x = voiced_sum p a; y = voiced_sum p b }
  unfolding range
  pair_walk = pair_turns (length p.chao - 0) 0 (record { x = zero64; y = zero64 })
