-- Mixtures in the parts that their loop has, and components in the list that it takes them from.
use Rattle.std.specs.Prelude.{ℕ, ◌+◌, ◌*◌, ◌%◌, ◌<◌, ◌≡◌, cond, Option, Some, None, List, eqb, get_or, Float}
use Rattle.std.specs.Float.{nan, binary32}
use Rattle.std.specs.Float.Ieee.{mul, lt}
use Rattle.tonekit_core.specs.Loop.{range}
use Rattle.tonekit_core.specs.declared.Name.{Name}
use Rattle.tonekit_core.specs.declared.layout.TheConstants.{MIXTURE_FORM}
use Rattle.spec_arithmetic.specs.Constants.{zero32}
use Rattle.spec_judgement.specs.Score.{mix_turn}
use Rattle.spec_judgement.specs.Inventory.{Inventory, count_in, entry_at}
use Rattle.spec_judgement.specs.Judge.{weighed}
use Rattle.tonekit_score.specs.Terms.{term_of}
use Rattle.spec_judgement.specs.declared.Scoring.{Scoring}
use Rattle.spec_judgement.specs.declared.Mixing.{Mixing}
use Rattle.spec_judgement.specs.declared.Term.{Term}
use Rattle.spec_judgement.specs.declared.Component.{Component}

-- how many components tone t has
abbrev pub count_at : Inventory → ℕ → ℕ
count_at i t = count_in (entry_at i t).listing

-- the place in its rule of the component at a slot, where that is a mixture
abbrev pub slot_part : Name → ℕ → ℕ
slot_part name slot = cond (eqb name.form MIXTURE_FORM) (slot % 4) 0

-- a turn of `tone_mixing`, and one of `part_mixing`
abbrev pub tone_turn : Scoring → (ℕ → ℕ → Component) → ℕ → ℕ → Mixing → Mixing
tone_turn s c t j m = mix_turn s m (4 * t + j) (c t j).weight (c t j).distance

abbrev pub part_turn : Scoring → (ℕ → ℕ → Component) → ℕ → Float → ℕ → Mixing → Mixing
part_turn s c t weight j m = weighed s m (4 * t + j) (mul binary32 (c t j).weight weight) (c t j).distance

-- one turn of `mixed_terms`: with the weights as they stand, or each times a share
abbrev pub either_turn : Scoring → (ℕ → ℕ → Component) → ℕ → Option Float → ℕ → Mixing → Mixing
either_turn s c t None j m = tone_turn s c t j m
either_turn s c t (Some share) j m = part_turn s c t share j m

unfoldable pub mixed_terms : Scoring → (ℕ → ℕ → Component) → ℕ → Option Float → ℕ → Mixing → Mixing
mixed_terms s c t share n m = range (either_turn s c t share) 0 n m

-- the term of such a turn
unfoldable pub weighed_term : Scoring → Float → Float → Option Term
weighed_term s product d2 = cond (lt zero32 product) (term_of s product d2) None

unfoldable pub term_at : Scoring → (ℕ → ℕ → Component) → ℕ → Option Float → ℕ → Option Term
term_at s c t None j = term_of s (c t j).weight (c t j).distance
term_at s c t (Some share) j = weighed_term s (mul binary32 (c t j).weight share) (c t j).distance

-- components that stand in a list, slot by slot
abbrev pub cell : List Component → ℕ → ℕ → Component
cell cs t j = get_or cs (4 * t + j) (record { weight = nan; distance = nan })

-- a list that has each component in the slots below n
pub record Filled (c : ℕ → ℕ → Component) (i : Inventory) (n : ℕ) (cs : List Component) : Type 0 where
  pub at : (t j : ℕ) → j < 4 → j < count_at i t → 4 * t + j < n → cell cs t j ≡ c t j
