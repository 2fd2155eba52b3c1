-- The tones that a query asks for, as `expect` of the Rust weighs them: the main tone, then its variants.
use Rattle.std.specs.Prelude.{ℕ, zero, suc, ◌+◌, Bool, true, cond, not, ◌&&◌, ◌==◌, Option, option_map, Result, Ok, Err, List, [], ◌∷◌, ◌++◌, position, length, ltb, Float}
use Rattle.std.specs.Option.{option_map_or}
use Rattle.std.specs.Float.{binary32}
use Rattle.std.specs.Float.Ieee.{neg, add, sub, lt, le, of_bits}
use Rattle.std.specs.Float.Ieee.Scale.{finite}
use Rattle.tonekit_core.specs.Loop.{next, stop, range, range_to}
use Rattle.spec_arithmetic.specs.Constants.{zero32, one32}
use Rattle.spec_arithmetic.specs.Pick.{greater}
use Rattle.spec_query.specs.Query.{variant_tone, variant_weight}
use Rattle.spec_judgement.specs.Inventory.{Inventory, Targets}
use Rattle.spec_judgement.specs.declared.Target.{Target}

-- "weight below 0 or not finite (−0 passes)"
unfoldable pub variant_weight_good : Float → Bool
variant_weight_good w = finite w && le zero32 w

unfoldable pub variant_weights_good : List ℕ → ℕ → Bool
variant_weights_good s n = range (λ i ok. ok && variant_weight_good (variant_weight s i)) 0 n true

-- "1 − sum", in f32: what the n variants leave to the main tone
unfoldable pub main_weight : List ℕ → ℕ → Float
main_weight s n = sub binary32 one32 (range (λ i t. add binary32 t (variant_weight s i)) 0 n zero32)

-- not "bad variant: weight below 0 or not finite (−0 passes), or 1 − sum < −1e−6, in f32": VARIANT_SUM_SLACK is 1e−6
unfoldable pub variants_good : List ℕ → ℕ → Bool
variants_good s n = variant_weights_good s n && not (lt (main_weight s n) (neg (of_bits binary32 0x3586_37bd)))

-- the place of a number among the inventory's
unfoldable pub place_of : Inventory → ℕ → Option ℕ
place_of i n = position (λ e. e.number == n) i.items

-- the target that is the tone of a number, so weighed
unfoldable pub target_of : Inventory → ℕ → Float → Option Target
target_of i n weight = option_map (λ t. record { place = t; weight = weight }) (place_of i n)

-- tone k of the target, and its weight: the main tone's is what is left, at least 0
abbrev pub target_tone : List ℕ → ℕ → ℕ → ℕ
target_tone s tone zero = tone
target_tone s tone (suc i) = variant_tone s i

abbrev pub target_weight : List ℕ → Float → ℕ → Float
target_weight s main zero = greater main zero32
target_weight s main (suc i) = variant_weight s i

-- the targets with one more, where there is room: a query has one main tone and at most four variants
unfoldable pub with_target : Target → Targets → Targets
with_target t g = record { items = cond (ltb (length g.items) 5) (g.items ++ t ∷ []) g.items }

-- the target of a query of this tone and so many variants, among the inventory's tones; "unknown tone: .. target tone not held", where one of them is not,
-- and those before it are there
unfoldable pub targets_of : Inventory → List ℕ → ℕ → ℕ → Result Targets Targets
targets_of i s tone variants =
    let aimed = λ (k : ℕ). target_of i (target_tone s tone k) (target_weight s (main_weight s variants) k) in
    range_to (λ k (g : Targets). option_map_or (λ t. next (with_target t g)) (aimed k) (stop (Err g))) Ok 0 (variants + 1) (record { items = [] })
