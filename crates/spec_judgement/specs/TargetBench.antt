-- Worked cases for variants, by computing.
use Rattle.std.specs.Prelude.{ℕ, ◌≡◌, refl, true, false, None, Ok, Err, List, [], ◌∷◌, ◌++◌, map, replicate}
use Rattle.std.specs.Float.{binary32}
use Rattle.std.specs.Float.Ieee.{is_nan, neg, add, sub, lt, le, of_bits}
use Rattle.tonekit_core.specs.Loop.{turns, range, turns_to, range_to}
use Rattle.spec_arithmetic.specs.Pick.{greater}
use Rattle.spec_judgement.specs.Inventory.{Inventory}
use Rattle.spec_arithmetic.specs.Constants.{zero32}
use Rattle.spec_judgement.specs.Target.{variant_weight_good, variant_weights_good, main_weight, variants_good, place_of, target_of, with_target, targets_of}

-- the bytes of a query up to two variants, with weights of these bits
abbrev pub variants : List ℕ → List ℕ → List ℕ
variants a b = replicate 24 0 ++ ((1 ∷ a) ++ (2 ∷ b))

-- "Variants 0.5 and 0.5+2^−20 pass; 0.5 and 0.5+2^−19 give 15"
pub slack_passes : variants_good (variants (0 ∷ 0 ∷ 0 ∷ 0x3f ∷ []) (0x10 ∷ 0 ∷ 0 ∷ 0x3f ∷ [])) 2 ≡ true
unfolding variants_good variant_weights_good variant_weight_good main_weight range turns neg add sub lt le of_bits
slack_passes = refl

pub slack_past : variants_good (variants (0 ∷ 0 ∷ 0 ∷ 0x3f ∷ []) (0x20 ∷ 0 ∷ 0 ∷ 0x3f ∷ [])) 2 ≡ false
unfolding variants_good variant_weights_good variant_weight_good main_weight range turns neg add sub lt le of_bits
slack_past = refl

-- "−0 passes"; NaN and infinity do not
pub minus_zero : variants_good (variants (0 ∷ 0 ∷ 0 ∷ 0x80 ∷ []) (0 ∷ 0 ∷ 0 ∷ 0 ∷ [])) 2 ≡ true
unfolding variants_good variant_weights_good variant_weight_good main_weight range turns neg add sub lt le of_bits
minus_zero = refl

pub not_a_number : variants_good (variants (0 ∷ 0 ∷ 0xc0 ∷ 0x7f ∷ []) (0 ∷ 0 ∷ 0 ∷ 0 ∷ [])) 1 ≡ false
unfolding variants_good variant_weights_good variant_weight_good main_weight range turns neg add sub lt le of_bits
not_a_number = refl

-- the sum is rounded to f32: 1 + 17 / 2^24 is 1 + 16 / 2^24
pub summed_in_f32 : variants_good (variants (0 ∷ 0 ∷ 0 ∷ 0x3f ∷ []) (0x11 ∷ 0 ∷ 0 ∷ 0x3f ∷ [])) 2 ≡ true
unfolding variants_good variant_weights_good variant_weight_good main_weight range turns neg add sub lt le of_bits
summed_in_f32 = refl

-- "weight below 0": −0.5
pub below_zero : variants_good (variants (0 ∷ 0 ∷ 0 ∷ 0xbf ∷ []) (0 ∷ 0 ∷ 0 ∷ 0 ∷ [])) 1 ≡ false
unfolding variants_good variant_weights_good variant_weight_good main_weight range turns neg add sub lt le of_bits
below_zero = refl

-- an inventory of these numbers
abbrev numbered : List ℕ → Inventory
numbered ns = record { items = map (λ n. record { number = n; prior = zero32; region = None; tail = zero32; listing = None }) ns }

-- tone 2 with variants 1 and 2 that weigh 0.25 and 0.5: what is left is 0.25
pub three_targets : targets_of (numbered (1 ∷ 2 ∷ [])) (variants (0 ∷ 0 ∷ 0x80 ∷ 0x3e ∷ []) (0 ∷ 0 ∷ 0 ∷ 0x3f ∷ [])) 2 2
    ≡ Ok (record {
      items = record { place = 1; weight = of_bits binary32 0x3e80_0000 } ∷ record { place = 0; weight = of_bits binary32 0x3e80_0000 } ∷ record { place = 1; weight = of_bits binary32 0x3f00_0000 } ∷ [];
    })
unfolding targets_of target_of place_of with_target main_weight range turns range_to turns_to greater is_nan add sub lt of_bits
three_targets = refl

-- "13 for targets": a variant's tone that is not held, even where it weighs 0; the main tone, which is, is there
pub unknown_variant : targets_of (numbered (2 ∷ [])) (variants (0 ∷ 0 ∷ 0 ∷ 0 ∷ []) (0 ∷ 0 ∷ 0 ∷ 0 ∷ [])) 2 1
    ≡ Err (record { items = record { place = 0; weight = of_bits binary32 0x3f80_0000 } ∷ [] })
unfolding targets_of target_of place_of with_target main_weight range turns range_to turns_to greater is_nan add sub lt of_bits
unknown_variant = refl

-- the second variant's, with the main tone and the first variant there: tone 2 with 0.25, and tone 1
pub unknown_second : targets_of (numbered (2 ∷ 1 ∷ [])) (replicate 24 0 ++ ((1 ∷ 0 ∷ 0 ∷ 0 ∷ 0x3f ∷ []) ++ (7 ∷ 0 ∷ 0 ∷ 0x80 ∷ 0x3e ∷ []))) 2 2
    ≡ Err (record { items = record { place = 0; weight = of_bits binary32 0x3e80_0000 } ∷ record { place = 1; weight = of_bits binary32 0x3f00_0000 } ∷ [] })
unfolding targets_of target_of place_of with_target main_weight range turns range_to turns_to greater is_nan add sub lt of_bits
unknown_second = refl

-- and the main tone's own, with nothing before it
pub unknown_main : targets_of (numbered (2 ∷ [])) (variants (0 ∷ 0 ∷ 0 ∷ 0 ∷ []) (0 ∷ 0 ∷ 0 ∷ 0 ∷ [])) 3 1 ≡ Err (record { items = [] })
unfolding targets_of target_of place_of with_target main_weight range turns range_to turns_to greater is_nan add sub lt of_bits
unknown_main = refl
