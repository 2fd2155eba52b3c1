-- Worked cases for tails, by computing.
use Rattle.std.specs.Prelude.{ℕ, ◌≡◌, refl, Option, None, List, [], ◌∷◌, map, replicate, Float}
use Rattle.std.specs.Float.{binary32}
use Rattle.std.specs.Float.Ieee.{is_nan, eq, neg, add, sub, mul, div, lt, le, round, of_int, of_bits}
use Rattle.tonekit_core.specs.Loop.{turns, range}
use Rattle.spec_arithmetic.specs.Constants.{zero32, one32}
use Rattle.spec_arithmetic.specs.Narrow.{narrowed}
use Rattle.spec_arithmetic.specs.Log.{ln_of, log_by, parts_of, centred, series, log_horner}
use Rattle.spec_arithmetic.specs.Exp.{exp_of, exp_by, rest, exp_series, exp_horner, floor_of}
use Rattle.spec_judgement.specs.Score.{million, add_to, value_of, clamp_log, calibrate, no_mixing}
use Rattle.spec_judgement.specs.ScoreBench.{plain}
use Rattle.spec_judgement.specs.Inventory.{Inventory, Targets}
use Rattle.spec_judgement.specs.Judge.{tone_mixing, loglik_at, logliks, llr_of}
use Rattle.spec_judgement.specs.Tail.{tail_loglik, target_tail_loglik, with_tail}
use Rattle.spec_judgement.specs.declared.Component.{Component}
use Rattle.spec_judgement.specs.declared.Target.{Target}
use Rattle.tonekit_entries.specs.declared.ToneEntry.{ToneEntry}

abbrev f32 : ℕ → Float
f32 bits = of_bits binary32 bits

-- 1.5, 50 and -0
abbrev more : Float
more = f32 0x3fc0_0000

abbrev fifty : Float
fifty = f32 0x4248_0000

abbrev minus_zero : Float
minus_zero = f32 0x8000_0000

-- a tone with this tail and no curves
abbrev tailed : Float → ToneEntry
tailed tail = record { number = 1; prior = one32; region = None; tail = tail; listing = None }

-- "With the CreakyTail issue set": bit 9, and not any of the others
with_issue : tail_loglik (tailed more) 0x0200 ≡ more
unfolding tail_loglik
with_issue = refl

without_issue : tail_loglik (tailed more) 0xfdff ≡ zero32
unfolding tail_loglik
without_issue = refl

-- "bit for bit, when `tail` is 0", of either sign
by_zero : (with_tail minus_zero zero32 ≡ minus_zero) × (with_tail minus_zero minus_zero ≡ minus_zero)
unfolding with_tail eq of_bits
by_zero = (refl, refl)

by_more : with_tail one32 more ≡ f32 0x4020_0000
unfolding with_tail clamp_log narrowed is_nan eq neg add lt le round of_bits
by_more = refl

-- clamped again: within ±1,000,000
by_fifty : with_tail million fifty ≡ million
unfolding with_tail clamp_log narrowed is_nan eq neg add lt le round of_bits
by_fifty = refl

-- "ln w + tail" over the variants and the main tone: tones 0 and 1 with these tails, tone k with this weight
abbrev two : Float → Float → Inventory
two a b = record { items = tailed a ∷ tailed b ∷ [] }

abbrev aimed : List Target → Targets
aimed ts = record { items = ts }

abbrev weighed : ℕ → Float → Target
weighed place weight = record { place = place; weight = weight }

-- the one tone's own, with its weight of 1, and of whatever weight
alone : target_tail_loglik (two zero32 more) (aimed (weighed 1 one32 ∷ [])) 0x0200 ≡ more
unfolding target_tail_loglik tail_loglik
alone = refl

-- variants, but no tail: 0
not_creaky : target_tail_loglik (two fifty more) (aimed (weighed 1 one32 ∷ weighed 0 zero32 ∷ [])) 0xfdff ≡ zero32
unfolding target_tail_loglik tail_loglik
not_creaky = refl

-- a variant of weight -0 adds nothing, nor does a main tone that nothing is left to
variant_of_nothing : target_tail_loglik (two fifty more) (aimed (weighed 1 one32 ∷ weighed 0 minus_zero ∷ [])) 0x0200 ≡ more
unfolding target_tail_loglik tail_loglik range turns add_to value_of narrowed ln_of exp_of is_nan eq neg add sub mul div lt le round of_int of_bits log_by parts_of centred series log_horner exp_by rest exp_series exp_horner floor_of
variant_of_nothing = refl

main_of_nothing : target_tail_loglik (two fifty more) (aimed (weighed 0 zero32 ∷ weighed 1 one32 ∷ [])) 0x0200 ≡ more
unfolding target_tail_loglik tail_loglik range turns add_to value_of narrowed ln_of exp_of is_nan eq neg add sub mul div lt le round of_int of_bits log_by parts_of centred series log_horner exp_by rest exp_series exp_horner floor_of
main_of_nothing = refl

-- a half each, of tails 0 and 50: 50 - ln 2, as e^-50 is nothing beside 1
half_each : target_tail_loglik (two zero32 fifty) (aimed (weighed 0 (f32 0x3f00_0000) ∷ weighed 1 (f32 0x3f00_0000) ∷ [])) 0x0200 ≡ f32 0x4245_3a38
unfolding target_tail_loglik tail_loglik range turns add_to value_of narrowed ln_of exp_of is_nan eq neg add sub mul div lt le round of_int of_bits log_by parts_of centred series log_horner exp_by rest exp_series exp_horner floor_of
half_each = refl

-- the tail comes behind the clamp: a tone that has nothing to score is at -1,000,000, and with a tail of 50 at -999,950
abbrev nothing_at : ℕ → ℕ → Component
nothing_at t j = record { weight = zero32; distance = zero32 }

behind_clamp : logliks plain (two zero32 fifty) nothing_at 0x0200 ≡ neg million ∷ f32 0xc974_20e0 ∷ replicate 6 zero32
unfolding logliks loglik_at tone_mixing calibrate tail_loglik with_tail clamp_log narrowed range turns is_nan eq neg add sub mul div lt le round of_bits
behind_clamp = refl
